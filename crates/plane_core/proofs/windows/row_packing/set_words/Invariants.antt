use Rattle.std.proofs.Common.{◌≡◌, ◌+◌, ◌<◌, ◌≤◌, ◌⊎◌, ℕ, slice_index}
use Rattle.plane_core.proofs.windows.row_packing.set_words.Given as goal

abbrev pub invariant-loop-j : goal.invariant-loop-j
invariant-loop-j l = record {
  at : (k : ℕ) → k < l.j → slice_index l.words (l.i + k) ≡ slice_index l.four k;
  others : (m : ℕ) → (m < l.i) ⊎ (l.i + l.j ≤ m) → slice_index l.words m ≡ slice_index l.initial.words m;
}
