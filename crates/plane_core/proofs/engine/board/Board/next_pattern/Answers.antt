use Rattle.std.proofs.Common.{◌∙◌, ap, sym}
use Rattle.plane_core.specs.engine.Boards.{Running}
use Rattle.plane_core.specs.engine.NextListing.{AreOnBoard}
use Rattle.plane_core.specs.engine.OnBoard.{cells_on}
use Rattle.plane_core.specs.plane.Generations.{after, next}
use Rattle.plane_core.specs.windows.RuleLogic.{rule_of}
use Rattle.plane_core.proofs.lemmas.engine.NextListingLemmas.{hull_held, next_is_pattern, next_listed}
use Rattle.plane_core.proofs.engine.board.Board.next_pattern.Goals.{In-Some}
use Rattle.plane_core.proofs.engine.board.Board.next_pattern.Goals as goal

pub list_next-requires-clause-hull : goal.list_next-requires-clause-hull
list_next-requires-clause-hull c =
    let inside = c.self.inside in
    rw (c.as_slice-2.ensures.value) (hull_held inside.at inside.words.items inside.spans.items c.hull_of-hull.result c.self.invariant.spanned.live
    (rw (sym c.as_slice.ensures.value) c.hull_of-hull.ensures))

listed : (c : In-Some) → AreOnBoard c.self.inside.at (after (rule_of c.self.inside.logic) (cells_on c.self.inside.at c.as_slice-2.result.now) 1) c.in-Some.cells.items
listed c = rw c.in-Some.is at c.in_ok-cells.ensures

pub from_ordered-requires : goal.from_ordered-requires
from_ordered-requires c =
    next_is_pattern c.self.inside.at (rule_of c.self.inside.logic) c.as_slice-2.result.now c.in-Some.cells.items c.in_order.result.items c.self.invariant.plane
    (listed (goal.at.from_ordered-requires c).In-Some) c.in_order.ensures

pub returns : goal.returns
returns c =
    let inside = c.self.inside in
    c.from_ordered.ensures
    ∙ next_listed inside.at (rule_of inside.logic) c.as_slice-2.result.now c.in-Some.cells.items c.in_order.result.items (listed (goal.at.returns c).In-Some)
    c.in_order.ensures
    ∙ (λ i. next (rule_of inside.logic) (cells_on inside.at (c.as_slice-2.ensures.value i)))
    ∙ ap (λ (b : Running). next b.rule b.cells) c.self.view_is
