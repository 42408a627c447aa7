use Rattle.std.proofs.Common.{◌≡◌, ◌+◌, ◌<◌, ℕ, length, slice_index}
use Rattle.plane_core.proofs.windows.row_packing.four_words.Given as goal

abbrev pub invariant-loop-j : goal.invariant-loop-j
invariant-loop-j l = record { long : length l.four ≡ 4; are : (k : ℕ) → k < l.j → slice_index l.four k ≡ slice_index l.words (l.i + k) }
