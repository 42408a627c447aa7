use Rattle.std.proofs.Common.{◌≡◌, ◌+◌, ◌<◌, ℕ, slice_index}
use Rattle.std.specs.Int.{bit_at}
use Rattle.plane_core.proofs.engine.listing.is_word_column_empty.Given as goal

abbrev pub invariant-loop-k : goal.invariant-loop-k
invariant-loop-k l = (b m : ℕ) → bit_at l.columns b ≡ 0 → m < l.k → bit_at (slice_index l.words (l.from + m)) b ≡ 0
