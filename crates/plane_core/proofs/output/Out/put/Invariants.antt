use Rattle.std.proofs.Common.{◌≡◌, false, List, ℕ, ◌++◌, length}
use Rattle.std.specs.Io.KnownBytes.{Appends}
use Rattle.plane_core.proofs.output.Out.put.Given as goal

-- a prefix of the piece has been written, and the rest has not
abbrev pub invariant-loop-remainder : goal.invariant-loop-remainder
invariant-loop-remainder g l =
    (l.self-inside.failed ≡ false)
    × ((prefix : List ℕ) × (l.fn.piece ≡ prefix ++ l.remainder) × Appends (g.V.Write.contents l.fn.self.writer) (g.V.Write.contents l.self-inside.writer) prefix)

abbrev pub decreases-loop-remainder : goal.decreases-loop-remainder
decreases-loop-remainder g l = length l.remainder
