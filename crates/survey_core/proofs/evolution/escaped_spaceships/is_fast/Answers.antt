use Rattle.std.proofs.Common.{◌*ℤ◌, ◌≤ℤ◌, FitsSigned, arith, of_z, pos, rules, subst, to_z, w32, w64, ℤ}
use Rattle.std.proofs.lemmas.Int.{fits_signed_from_abs, ints, to_z-of_z}
use Rattle.plane_core.specs.plane.Bounds.{IsWithin}
use Rattle.plane_core.specs.plane.Cells.{cell_at}
use Rattle.plane_core.specs.plane.Frontiers.{depth}
use Rattle.plane_core.specs.plane.Orientations.{turned_cell}
use Rattle.survey_core.proofs.lemmas.evolution.SpaceshipLemmas.{half_by_test}
use Rattle.survey_core.proofs.evolution.escaped_spaceships.is_fast.Goals as goal

-- the cell in column dx and row dy lies within the box that has only this cell
within_itself : (dx dy : ℤ) → FitsSigned w32 dx → FitsSigned w32 dy → IsWithin (record {
  left = to_z w32 (of_z w32 dx);
  top = to_z w32 (of_z w32 dy);
  right = to_z w32 (of_z w32 dx);
  bottom = to_z w32 (of_z w32 dy);
}) (cell_at dx dy)
within_itself dx dy x_fits y_fits =
    let x = to_z-of_z w32 dx x_fits in
    let y = to_z-of_z w32 dy y_fits in
    record { left = omega (arith, ints, x); top = omega (arith, ints, y); right = omega (arith, ints, x); bottom = omega (arith, ints, y) }

pub returns : goal.returns
returns c test =
    let r = c.args.recurrence in
    let deep = depth (turned_cell c.args.way (cell_at r.dx r.dy)) in
    let low = c.least_depth.result in
    let period_fits : FitsSigned w64 c.from.result = search rules in
    let low_fits : FitsSigned w64 low = search rules in
    let twice_fits : FitsSigned w64 (pos 2 *ℤ low) = fits_signed_from_abs w64 (pos 2 *ℤ low) (omega (arith, ints, c.least_depth.ensures.small)) in
    subst (λ (p : ℤ). p ≤ℤ (pos 2 *ℤ deep)) c.from.ensures
    (half_by_test c.from.result low deep period_fits low_fits twice_fits test (c.least_depth.ensures.least (cell_at r.dx r.dy) (within_itself r.dx r.dy (search rules) (search rules))))
