use Rattle.std.proofs.Common.{◌∙◌, arith, sym}
use Rattle.code_core.proofs.RecurrenceLemmas.{ends_at_once, ends_without}
use Rattle.code_core.proofs.recurrence.follow_or_reject.Goals as goal

pub returns-then-touches_edge : goal.returns-then-touches_edge
returns-then-touches_edge c =
    ends_at_once _ c.args.rule.now c.args.pattern.now c.args.limit c.requires.least (sym c.touches_edge.ensures ∙ c.if-touches_edge.true)

pub returns-then-surely_changes : goal.returns-then-surely_changes
returns-then-surely_changes c =
    ends_without _ c.args.rule.now c.args.pattern.now c.args.limit (c.surely_changes.ensures.new c.if-surely_changes.true)
    (λ g low new. c.surely_changes.ensures.inside c.if-surely_changes.true g (omega arith)) (sym c.touches_edge.ensures ∙ c.if-touches_edge.false)
