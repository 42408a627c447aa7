use Rattle.std.proofs.Common.{◌∙◌, refl, subst}
use Rattle.std.proofs.lemmas.List.Filters.{dedup_is}
use Rattle.plane_core.specs.plane.Cells.{InOrder}
use Rattle.plane_core.proofs.lemmas.plane.CellLemmas.{same_cell-eq}
use Rattle.plane_core.proofs.lemmas.plane.SearchLemmas.{deduped-set_of}
use Rattle.plane_core.proofs.lemmas.plane.SetLemmas.{is_set_of}
use Rattle.plane_core.proofs.plane.pattern.in_order.Goals as goal

-- sorting the cells and keeping one of each run of equal cells gives the set of the cells
pub returns-then-not-are_in_order : goal.returns-then-not-are_in_order
returns-then-not-are_in_order c =
    let is = dedup_is _ _ _ c.dedup.ensures.filtered in
    is ∙ deduped-set_of _ c.args.cells.items c.sort_unstable.new.self.items same_cell-eq c.sort_unstable.ensures.permutation c.sort_unstable.ensures.sorted

-- `set_of` leaves a list that is in order as it is
pub returns-else-not-are_in_order : goal.returns-else-not-are_in_order
returns-else-not-are_in_order c =
    let ordered : InOrder c.as_slice.result.now = c.are_in_order.ensures c.if-not-are_in_order.false in
    is_set_of c.args.cells.items c.args.cells.items (subst InOrder c.as_slice.ensures.value ordered) (λ d. refl)
