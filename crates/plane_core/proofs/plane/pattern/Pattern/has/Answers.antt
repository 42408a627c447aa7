use Rattle.std.proofs.Common.{◌∙◌, FitsSigned, List, ap, subst, sym, w32}
use Rattle.std.proofs.lemmas.Int.{to_z-of_z}
use Rattle.plane_core.specs.declared.plane.cell.Cell.{Cell}
use Rattle.plane_core.specs.plane.Cells.{InOrder, cell_at, has}
use Rattle.plane_core.proofs.lemmas.plane.SearchLemmas.{searched-has}
use Rattle.plane_core.proofs.plane.pattern.Pattern.has.Goals as goal

-- the list of cells is in order, so the binary search finds a cell exactly if the list has it
pub returns : goal.returns
returns c =
    let fits_x : FitsSigned w32 c.args.x = c.ranges.x in
    let fits_y : FitsSigned w32 c.args.y = c.ranges.y in
    let in_order = subst InOrder (sym c.cells.ensures.cells) c.cells.ensures.pattern.in_order in
    let found = c.is_ok.ensures.value
    ∙ searched-has c.cells.result.now _ c.binary_search.result in_order c.binary_search.ensures.bound c.binary_search.ensures.position in
    (simp to_z-of_z at found) ∙ ap (λ (cells : List Cell). has cells (cell_at c.args.x c.args.y)) c.cells.ensures.cells
