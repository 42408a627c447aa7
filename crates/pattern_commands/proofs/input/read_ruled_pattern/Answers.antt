use Rattle.std.proofs.Common.{sym}
use Rattle.pattern_commands.proofs.AnswerLemmas.{err_of}
use Rattle.pattern_commands.proofs.FoundLemmas.{found_rule, found_no_pattern, found_pattern}
use Rattle.pattern_commands.proofs.input.read_ruled_pattern.Goals as goal

pub returns-in_err-rule-clause-found : goal.returns-in_err-rule-clause-found
returns-in_err-rule-clause-found g c =
    rw (err_of _ _ c.from_residual.ensures.1)
    (found_rule c.args.rule_text.now g.R.Read.remaining c.args.input.now c.args.input.now c.in_err-rule.field-0.0 (sym c.in_err-rule.ensures.exact))

pub returns-in_err-pattern-clause-found : goal.returns-in_err-pattern-clause-found
returns-in_err-pattern-clause-found g c =
    let read = c.in_err-pattern.ensures.read in
    rw (err_of _ _ c.from_residual-in_err-pattern.ensures.1)
    (found_no_pattern c.args.rule_text.now g.R.Read.remaining c.args.input.now c.read_pattern.new.input c.in_ok-rule.rule read.0 c.in_err-pattern.field-0.0
    (sym c.in_ok-rule.ensures.exact) read.1 read.2 c.in_err-pattern.ensures.little)

pub returns-clause-found : goal.returns-clause-found
returns-clause-found g c =
    let read = c.in_ok-pattern.ensures.read in
    found_pattern c.args.rule_text.now g.R.Read.remaining c.args.input.now c.read_pattern.new.input c.in_ok-rule.rule read.0 c.in_ok-pattern.pattern
    (sym c.in_ok-rule.ensures.exact) read.1 read.2 c.in_ok-pattern.ensures.little
