use Rattle.std.proofs.Common.{◌≡◌, drop, position}
use Rattle.std.specs.List.{position_from}
use Rattle.plane_core.specs.plane.Cells.{off_plane}
use Rattle.plane_core.proofs.plane.pattern.Pattern.from_cells.Given as goal

abbrev pub invariant-loop-index : goal.invariant-loop-index
invariant-loop-index l = position_from off_plane l.index (drop l.index l.cells) ≡ position off_plane l.cells
