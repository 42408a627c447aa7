use Rattle.std.proofs.Common.{◌≡◌, drop}
use Rattle.plane_core.specs.Plaintext.{first_fault}
use Rattle.plane_core.specs.PlaintextPlaces.{places_of_row}
use Rattle.plane_core.proofs.lemmas.plaintext.PlaintextRows.{places_from}
use Rattle.plane_core.proofs.plaintext.fault_in_row.Given as goal

abbrev pub invariant-loop-x : goal.invariant-loop-x
invariant-loop-x l = first_fault (places_from l.line l.y l.x (drop l.x l.row)) ≡ first_fault (places_of_row (l.y, (l.line, l.row)))
