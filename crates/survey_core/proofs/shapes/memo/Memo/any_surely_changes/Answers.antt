use Rattle.std.proofs.Common.{refl, sym, subst}
use Rattle.survey_core.specs.shapes.RecurringShapes.{RecursWithin}
use Rattle.survey_core.proofs.lemmas.shapes.MemoLemmas.{never_recurs}
use Rattle.survey_core.proofs.shapes.memo.Memo.any_surely_changes.Goals as goal

pub returns-then-surely_changes : goal.returns-then-surely_changes
returns-then-surely_changes c = λ e all.
    never_recurs c.args.rule.now c.args.limit c.pattern-item.result (c.if-surely_changes.ensures.new refl)
    (subst (RecursWithin c.args.rule.now c.args.limit) (sym c.pattern-item.is)
    (all c.loop-pattern.pattern-index c.pattern-item.result c.loop-pattern-test.true))
