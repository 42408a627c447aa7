use Rattle.std.proofs.Common.{◌≡◌, ◌+◌, ◌-◌, ◌≤◌, drop, length}
use Rattle.plane_core.proofs.lemmas.plaintext.PlaintextWalks.{len_in_row}
use Rattle.plane_core.proofs.plaintext.row_len.Given as goal

abbrev pub invariant-loop-len : goal.invariant-loop-len
invariant-loop-len l = (l.len ≤ length l.cells) × (len_in_row l.y l.cells ≡ l.len + len_in_row l.y (drop l.len l.cells))

abbrev pub decreases-loop-len : goal.decreases-loop-len
decreases-loop-len l = length l.cells - l.len
