use Rattle.std.proofs.Common.{◌≡◌, ◌≤◌, ◌+◌, ◌-◌, ◌^◌, length}
use Rattle.std.specs.Io.KnownBytes.{Consumes}
use Rattle.pattern_commands.proofs.input.read_input.Given as goal

-- `bytes` has all bytes that were read, and exceeds the limit of 2^24 by at most one read
abbrev pub invariant-loop-input : goal.invariant-loop-input
invariant-loop-input g l =
    Consumes (g.R.Read.remaining l.fn.input) (g.R.Read.remaining l.input) l.bytes.items
    × (length l.buffer.items ≡ 2 ^ 16)
    × (length l.bytes.items ≤ 2 ^ 24 + 2 ^ 16)

abbrev pub decreases-loop-input : goal.decreases-loop-input
decreases-loop-input g l = 2 ^ 24 + 1 - length l.bytes.items
