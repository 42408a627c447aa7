use Rattle.std.proofs.Common.{◌≡◌, ◌+◌, ◌≤◌, drop, length}
use Rattle.plane_core.specs.Plaintext.{first_fault}
use Rattle.plane_core.specs.PlaintextPlaces.{places}
use Rattle.plane_core.proofs.lemmas.plaintext.PlaintextLines.{parts_of, places_after}
use Rattle.plane_core.proofs.plaintext.fault_in.Given as goal

abbrev pub invariant-loop-line : goal.invariant-loop-line
invariant-loop-line l =
    (l.number ≡ length l.yielded) × (l.y ≤ l.number)
    × (first_fault (places_after (l.number + 1) l.y (drop l.number (parts_of l.text))) ≡ first_fault (places l.text))
