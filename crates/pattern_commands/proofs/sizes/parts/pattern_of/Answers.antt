use Rattle.std.proofs.Common.{◌≡◌, ◌∙◌, position, None, Some}
use Rattle.plane_core.specs.declared.plane.pattern.FromCellsError.TheVariants.{OutOfPlane}
use Rattle.plane_core.specs.plane.Cells.{off_plane}
use Rattle.plane_core.specs.plane.Refusals.{RefusesCells}
use Rattle.plane_core.proofs.lemmas.plane.CommuteLemmas.{set_of-in_order}
use Rattle.pattern_commands.proofs.SizePartLemmas.{none_off}
use Rattle.pattern_commands.proofs.sizes.parts.pattern_of.Goals as goal

-- the arm for a cell off the plane is unreachable, because no cell is off the plane
pub unreachable-requires : goal.unreachable-requires
unreachable-requires c =
    let none : position off_plane c.args.cells.now ≡ None = none_off c.args.cells.now c.requires.on_plane in
    let past : RefusesCells c.args.cells.now (OutOfPlane c.in-Err-OutOfPlane.field-0-0) =
    rw c.in-Err-OutOfPlane.field-0-is at c.in-Err-OutOfPlane.ensures.refused in
    let there : position off_plane c.args.cells.now ≡ Some c.in-Err-OutOfPlane.field-0-0 = past in
    cc

pub returns-in-Ok : goal.returns-in-Ok
returns-in-Ok c = c.in-Ok.ensures.set ∙ set_of-in_order c.args.cells.now c.requires.in_order
