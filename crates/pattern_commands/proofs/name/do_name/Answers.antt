use Rattle.std.proofs.Common.{◌&&◌, ◌∙◌, ap, is_ok}
use Rattle.std.proofs.Math.Bool.{and-false}
use Rattle.pattern_commands.specs.Inputs.{rule_named}
use Rattle.pattern_commands.specs.Name.{name_right}
use Rattle.pattern_commands.specs.Profiles.{profile_named}
use Rattle.pattern_commands.proofs.FoundLemmas.{input_ends, memory_untouched, not_ok, refused_untouched, unread_refused}
use Rattle.pattern_commands.proofs.name.do_name.Goals as goal

pub returns-clause-ends : goal.returns-clause-ends
returns-clause-ends g c =
    input_ends _ _ _ _ _ _ _ _ _ _ _ (λ bytes. name_right c.args.profile c.args.rule_text.now bytes) c.finding_of-found.result (λ bytes some is. is)
    c.finding_of-found.ensures c.end_with_finding.ensures

pub returns-clause-profile_first : goal.returns-clause-profile_first
returns-clause-profile_first g c refused =
    unread_refused _ _ _ _ _ _ _ _ _ _ _ c.finding_of-found.result c.finding_of-found.ensures c.end_with_finding.ensures
    (ap (λ named. named && is_ok (rule_named c.args.rule_text.now)) (not_ok (profile_named c.args.profile) refused))

pub returns-clause-rule_first : goal.returns-clause-rule_first
returns-clause-rule_first g c refused =
    unread_refused _ _ _ _ _ _ _ _ _ _ _ c.finding_of-found.result c.finding_of-found.ensures c.end_with_finding.ensures
    (ap (λ named. is_ok (profile_named c.args.profile) && named) (not_ok (rule_named c.args.rule_text.now) refused) ∙ and-false _)

pub returns-clause-untouched : goal.returns-clause-untouched
returns-clause-untouched g c refused = refused_untouched _ _ _ _ _ _ c.finding_of-found.result c.end_with_finding.ensures refused

pub returns-clause-no_memory : goal.returns-clause-no_memory
returns-clause-no_memory g c memory = memory_untouched _ _ _ _ _ _ c.finding_of-found.result c.end_with_finding.ensures memory
