use Rattle.std.proofs.Common.{◌≡◌, ◌++◌, ◌≤ℤ◌, ◌+ℤ◌, pos, List, ℕ, Some, Ok}
use Rattle.plane_core.specs.declared.output.WriteError.{WriteError}
use Rattle.plane_core.specs.Outputs.{Writes}
use Rattle.plane_core.specs.Plaintext.{box_text}
use Rattle.plane_core.specs.PlaintextWalk.{IsAhead}
use Rattle.plane_core.proofs.lemmas.plaintext.PlaintextWriting.{rows_remainder, SameFrom}
use Rattle.plane_core.proofs.plane.pattern.Pattern.write_plaintext.Given as goal

-- the rows above row y have been written, and the remaining cells are those from row y on
abbrev pub invariant-loop-y : goal.invariant-loop-y
invariant-loop-y g l =
    (l.bounds.top ≤ℤ l.y) × (l.y ≤ℤ (l.bounds.bottom +ℤ pos 1)) × IsAhead l.y l.bounds l.remainder × SameFrom l.y l.self l.remainder
    × ((prefix : List ℕ) × (box_text (Some l.bounds) l.self ≡ prefix ++ rows_remainder l.self l.bounds l.y)
    × Writes {E = WriteError} g.V.Write.contents l.fn.out l.out (Ok tt) prefix)
