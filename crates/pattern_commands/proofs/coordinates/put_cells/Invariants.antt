use Rattle.std.proofs.Common.{◌≡◌, ◌++◌, List, ℕ, Ok, drop, flat_map}
use Rattle.plane_core.specs.declared.output.WriteError.{WriteError}
use Rattle.plane_core.specs.Outputs.{Writes}
use Rattle.pattern_commands.specs.Coordinates.{coordinate_line}
use Rattle.pattern_commands.proofs.coordinates.put_cells.Given as goal

-- the lines of the cells before the current one have been written
abbrev pub invariant-loop-cell : goal.invariant-loop-cell
invariant-loop-cell g l =
    (prefix : List ℕ) × (flat_map coordinate_line l.fn.cells ≡ prefix ++ flat_map coordinate_line (drop l.cell-index l.cells))
    × Writes {E = WriteError} g.W.Write.contents l.fn.output l.output (Ok tt) prefix
