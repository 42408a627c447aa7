use Rattle.std.proofs.Common.{◌∙◌, ◌||◌, ap, sym, refl}
use Rattle.std.proofs.lemmas.List.{take_all}
use Rattle.std.proofs.lemmas.List.Folds.{list_any_at, list_any_more}
use Rattle.plane_core.specs.plane.Cells.{on_edge}
use Rattle.plane_core.specs.plane.Generations.{touches_edge}
use Rattle.plane_core.proofs.plane.pattern.Pattern.touches_edge.Goals as goal

pub loop-cell-init : goal.loop-cell-init
loop-cell-init c = refl

pub loop-cell-preserved : goal.loop-cell-preserved
loop-cell-preserved c =
    let here = sym c.is_on_edge.ensures ∙ c.if-is_on_edge.false in
    list_any_more on_edge c.cells-cell-items.result.now c.loop-cell.cell-index _ c.loop-cell-test.true ∙ (λ i. c.loop-cell.invariant i || here i)

pub returns-then-is_on_edge : goal.returns-then-is_on_edge
returns-then-is_on_edge c =
    sym (list_any_at on_edge c.cells-cell-items.result.now c.loop-cell.cell-index _ c.loop-cell-test.true (sym c.is_on_edge.ensures ∙ c.if-is_on_edge.true))
    ∙ ap touches_edge c.cells-cell-items.ensures.cells

pub returns : goal.returns
returns c =
    sym c.loop-cell.invariant
    ∙ ap touches_edge (take_all c.loop-cell.cell-index c.cells-cell-items.result.now c.loop-cell-test.false ∙ c.cells-cell-items.ensures.cells)
