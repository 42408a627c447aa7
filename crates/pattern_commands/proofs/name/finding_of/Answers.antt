use Rattle.std.proofs.Common.{◌≤◌, arith, sym}
use Rattle.survey_core.proofs.lemmas.PlaneLemmas.{within_more}
use Rattle.pattern_commands.proofs.AnswerLemmas.{err_of}
use Rattle.pattern_commands.proofs.NameLemmas.{found_finding, found_no_finding, found_no_memory, found_no_profile}
use Rattle.pattern_commands.proofs.name.finding_of.Goals as goal

pub returns-in_err-profile : goal.returns-in_err-profile
returns-in_err-profile g c =
    rw (err_of _ _ c.from_residual.ensures.1)
    (found_no_profile c.args.profile c.args.rule_text.now g.R.Read.remaining c.args.input.now c.args.input.now c.in_err-profile.field-0.0 (sym c.in_err-profile.ensures))

pub returns-in_err-rule : goal.returns-in_err-rule
returns-in_err-rule g c =
    rw (err_of _ _ c.from_residual-in_err-rule.ensures.1)
    (found_no_finding c.args.profile c.args.rule_text.now g.R.Read.remaining c.args.input.now c.read_ruled_pattern.new.input c.in_ok-profile.profile
    c.in_err-rule.field-0.0 (sym c.in_ok-profile.ensures) c.in_err-rule.ensures.found)

pub survey_pattern-requires : goal.survey_pattern-requires
survey_pattern-requires g c =
    let few : 999 ≤ 1000 = omega arith in
    within_more 999 1000 c.in_ok-rule.pattern few c.in_ok-rule.ensures.small

pub returns-in_err-survey_pattern : goal.returns-in_err-survey_pattern
returns-in_err-survey_pattern g c =
    rw (err_of _ _ c.from_residual-in_err-survey_pattern.ensures.1)
    (found_no_memory c.args.profile c.args.rule_text.now g.R.Read.remaining c.args.input.now c.read_ruled_pattern.new.input c.in_ok-profile.profile
    c.in_ok-rule.rule c.in_ok-rule.pattern c.in_err-survey_pattern.field-0.0 (sym c.in_ok-profile.ensures) c.in_ok-rule.ensures.found)

pub returns : goal.returns
returns g c =
    found_finding c.args.profile c.args.rule_text.now g.R.Read.remaining c.args.input.now c.read_ruled_pattern.new.input c.in_ok-profile.profile
    c.in_ok-rule.rule c.in_ok-rule.pattern c.in_ok-survey_pattern.field-0 (sym c.in_ok-profile.ensures) c.in_ok-survey_pattern.ensures.finding
    c.in_ok-rule.ensures.found
