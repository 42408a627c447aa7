use Rattle.std.proofs.Common.{◌≡◌, ◌∙◌, FitsSigned, List, get_or, pos, subst, sym, take, true, w32}
use Rattle.std.proofs.lemmas.Int.{to_z-of_z}
use Rattle.std.proofs.lemmas.List.{take_all}
use Rattle.std.proofs.lemmas.Result.{err_from_is_err_and}
use Rattle.std.specs.List.{list_all}
use Rattle.plane_core.specs.declared.plane.cell.Cell.{Cell}
use Rattle.plane_core.specs.plane.Bounds.{shifted}
use Rattle.plane_core.specs.plane.Cells.{moved_by, on_plane}
use Rattle.plane_core.proofs.lemmas.plane.TransformLemmas.{all_at, is_pattern-shifted, one_image_fails, one_image_passes}
use Rattle.plane_core.proofs.plane.pattern.Pattern.shift.Goals.{After-cells-cells, After-landing, After-loop-cell}
use Rattle.plane_core.proofs.plane.pattern.Pattern.shift.Goals as goal

cells_on : (c : After-cells-cells) → list_all on_plane c.cells-cells.result.now ≡ true
cells_on c = subst (λ (cells : List Cell). list_all on_plane cells ≡ true) (sym c.cells-cells.ensures.cells) c.cells-cells.ensures.pattern.on_plane

-- after the loop, all moved cells are on the plane
on : (c : After-loop-cell) → list_all on_plane (shifted c.args.dx c.args.dy c.args.self.now) ≡ true
on c =
    let fits_x : FitsSigned w32 c.args.dx = c.ranges.dx in
    let fits_y : FitsSigned w32 c.args.dy = c.ranges.dy in
    let met : list_all on_plane (shifted c.args.dx c.args.dy (take c.loop-cell.cell-index c.cells-cells.result.now)) ≡ true =
    simp to_z-of_z at c.loop-cell.invariant in
    rw (take_all c.loop-cell.cell-index c.cells-cells.result.now c.loop-cell-test.false, c.cells-cells.ensures.cells) at met

pub landing-requires : goal.landing-requires
landing-requires c =
    all_at on_plane c.cells-cells.result.now c.loop-cell.cell-index _ c.loop-cell-test.true (cells_on (goal.at.landing-requires c).After-cells-cells)

-- the next cell, once moved, is on the plane exactly if the result of `landing` is
lands : (c : After-landing) → on_plane (moved_by c.args.dx c.args.dy (get_or c.cells-cells.result.now c.loop-cell.cell-index (record { y = pos 0; x = pos 0 })))
    ≡ on_plane c.landing.result
lands c =
    let fits_x : FitsSigned w32 c.args.dx = c.ranges.dx in
    let fits_y : FitsSigned w32 c.args.dy = c.ranges.dy in
    simp to_z-of_z at (sym c.landing.ensures.plane)

pub loop-cell-preserved : goal.loop-cell-preserved
loop-cell-preserved c =
    let fits_x : FitsSigned w32 c.args.dx = c.ranges.dx in
    let fits_y : FitsSigned w32 c.args.dy = c.ranges.dy in
    let met : list_all on_plane (shifted c.args.dx c.args.dy (take c.loop-cell.cell-index c.cells-cells.result.now)) ≡ true =
    simp to_z-of_z at c.loop-cell.invariant in
    simp to_z-of_z (one_image_passes on_plane (moved_by c.args.dx c.args.dy) c.cells-cells.result.now c.loop-cell.cell-index (record { y = pos 0; x = pos 0 })
    c.loop-cell-test.true met (lands (goal.at.loop-cell-preserved c).After-landing ∙ sym c.if-not-is_on_plane.ensures))

pub returns-then-not-is_on_plane-clause-refused : goal.returns-then-not-is_on_plane-clause-refused
returns-then-not-is_on_plane-clause-refused c =
    let off = one_image_fails on_plane (moved_by c.args.dx c.args.dy) c.cells-cells.result.now c.loop-cell.cell-index (record { y = pos 0; x = pos 0 })
    c.loop-cell-test.true (lands (goal.at.returns-then-not-is_on_plane-clause-refused c).After-landing ∙ sym c.if-not-is_on_plane.ensures) in
    rw c.cells-cells.ensures.cells at (sym off)

pub transform_all-requires-clause-cells : goal.transform_all-requires-clause-cells
transform_all-requires-clause-cells c = cells_on (goal.at.transform_all-requires-clause-cells c).After-cells-cells

pub transform_all-requires-clause-landed : goal.transform_all-requires-clause-landed
transform_all-requires-clause-landed c =
    let fits_x : FitsSigned w32 c.args.dx = c.ranges.dx in
    let fits_y : FitsSigned w32 c.args.dy = c.ranges.dy in
    let moved : list_all on_plane (shifted c.args.dx c.args.dy c.cells-cells.result.now) ≡ true =
    rw c.cells-cells.ensures.cells (on (goal.at.transform_all-requires-clause-landed c).After-loop-cell) in
    simp to_z-of_z moved

pub from_ordered-requires : goal.from_ordered-requires
from_ordered-requires c =
    let fits_x : FitsSigned w32 c.args.dx = c.ranges.dx in
    let fits_y : FitsSigned w32 c.args.dy = c.ranges.dy in
    let moved : c.in_ok-placed.placed.items ≡ shifted c.args.dx c.args.dy c.args.self.now =
    rw c.cells-cells.ensures.cells at (simp to_z-of_z at c.in_ok-placed.ensures) in
    rw moved (is_pattern-shifted c.args.dx c.args.dy c.args.self.now c.cells-cells.ensures.pattern.in_order
    (on (goal.at.from_ordered-requires c).After-loop-cell))

pub returns-clause-shifted : goal.returns-clause-shifted
returns-clause-shifted c =
    let fits_x : FitsSigned w32 c.args.dx = c.ranges.dx in
    let fits_y : FitsSigned w32 c.args.dy = c.ranges.dy in
    c.from_ordered.ensures ∙ (rw c.cells-cells.ensures.cells at (simp to_z-of_z at c.in_ok-placed.ensures))

pub returns-clause-plane : goal.returns-clause-plane
returns-clause-plane c = on (goal.at.returns-clause-plane c).After-loop-cell

pub returns-in_err-placed-clause-refused : goal.returns-in_err-placed-clause-refused
returns-in_err-placed-clause-refused c =
    let told = err_from_is_err_and c.from_residual.result c.from_residual.ensures.1 in
    rw (told.1, told.2) (on (goal.at.returns-in_err-placed-clause-refused c).After-loop-cell)
