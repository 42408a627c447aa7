use Rattle.std.proofs.Common.{◌≡◌, ◌++◌, ◌≤ℤ◌, ◌+ℤ◌, pos, List, ℕ, Ok, drop}
use Rattle.plane_core.specs.declared.output.WriteError.{WriteError}
use Rattle.plane_core.specs.Outputs.{Writes}
use Rattle.plane_core.specs.Plaintext.{row_text}
use Rattle.plane_core.proofs.lemmas.plaintext.PlaintextWalks.{IsRowAhead}
use Rattle.plane_core.proofs.lemmas.plaintext.PlaintextWriting.{row_remainder}
use Rattle.plane_core.proofs.plaintext.write_row.Given as goal

-- a prefix of the row has been written, and the remaining text begins at column x
abbrev pub invariant-loop-cell : goal.invariant-loop-cell
invariant-loop-cell g l =
    let left = drop l.cell-index l.cell-items in
    let end = l.bounds.right +ℤ pos 1 in
    (l.bounds.left ≤ℤ l.x) × (l.x ≤ℤ end) × IsRowAhead l.fn.y l.x end left
    × ((prefix : List ℕ) × (row_text l.cells l.bounds l.fn.y ≡ prefix ++ row_remainder left l.fn.y l.x end)
    × Writes {E = WriteError} g.V.Write.contents l.fn.out l.out (Ok tt) prefix)
