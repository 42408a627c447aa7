use Rattle.std.proofs.Common.{◌≡◌, position, None, Some}
use Rattle.plane_core.specs.declared.plane.pattern.FromCellsError.TheVariants.{OutOfPlane}
use Rattle.plane_core.specs.plane.Cells.{off_plane}
use Rattle.plane_core.specs.plane.Refusals.{RefusesCells}
use Rattle.survey_core.proofs.lemmas.PlaneLemmas.{none_off}
use Rattle.survey_core.proofs.far_from_edge.pattern_of.Goals as goal

-- no cell is refused as off the plane
pub unreachable-requires : goal.unreachable-requires
unreachable-requires c =
    let none : position off_plane c.args.cells.now ≡ None = none_off c.args.cells.now c.requires in
    let past : RefusesCells c.args.cells.now (OutOfPlane c.in-Err-OutOfPlane.field-0-0) =
    rw c.in-Err-OutOfPlane.field-0-is at c.in-Err-OutOfPlane.ensures.refused in
    let there : position off_plane c.args.cells.now ≡ Some c.in-Err-OutOfPlane.field-0-0 = past in
    cc
