use Rattle.std.proofs.Common.{◌≡◌, ◌+◌, ◌≤◌, ◌++◌, None, drop, length}
use Rattle.plane_core.specs.Plaintext.{first_fault, live_cells}
use Rattle.plane_core.specs.PlaintextPlaces.{places}
use Rattle.plane_core.proofs.lemmas.plaintext.PlaintextLines.{parts_of, places_after}
use Rattle.plane_core.proofs.plaintext.pattern_in.Given as goal

abbrev pub invariant-loop-line : goal.invariant-loop-line
invariant-loop-line l =
    let n = length l.yielded in
    let remainder = places_after (n + 1) l.y (drop n (parts_of l.text)) in
    (l.y ≤ n) × (first_fault remainder ≡ None) × (l.cells.items ++ live_cells remainder ≡ live_cells (places l.text))
