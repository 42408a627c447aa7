use Rattle.std.proofs.Common.{◌∙◌, add-one, ap, drop-cons, map, sym}
use Rattle.clap.specs.Words.{app_of, with_rule}
use Rattle.arguments.specs.Application.{rule_in, with_rules}
use Rattle.arguments.specs.Entries.{entry_of}
use Rattle.arguments.proofs.application.with_parameters.Goals as goal

pub loop-row-preserved : goal.loop-row-preserved
loop-row-preserved c = (
  rw (c.in_ok-command.ensures.shape c.parameter.ensures.local ∙ ap (with_rule (app_of c.loop-row.command)) c.parameter.ensures.rule, add-one c.loop-row.row-index)
      (sym (ap (λ rows. with_rules (app_of c.loop-row.command) (map rule_in (map entry_of rows)))
      (drop-cons _ _ _ c.loop-row-test.true))
      ∙ c.loop-row.invariant.0),
  λ none. c.in_ok-command.ensures.globals ∙ rw (c.loop-row.invariant.1 none) c.parameter.ensures.local,
)
