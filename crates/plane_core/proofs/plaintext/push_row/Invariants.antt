use Rattle.std.proofs.Common.{◌≡◌, ◌++◌, drop}
use Rattle.plane_core.specs.Plaintext.{live_cells}
use Rattle.plane_core.specs.PlaintextPlaces.{places_of_row}
use Rattle.plane_core.proofs.lemmas.plaintext.PlaintextRows.{places_from}
use Rattle.plane_core.proofs.plaintext.push_row.Given as goal

abbrev pub invariant-loop-x : goal.invariant-loop-x
invariant-loop-x l = l.cells.items ++ live_cells (places_from 0 l.y l.x (drop l.x l.row)) ≡ l.fn.cells.items ++ live_cells (places_of_row (l.y, (0, l.row)))
