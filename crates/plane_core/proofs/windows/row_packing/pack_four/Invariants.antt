use Rattle.std.proofs.Common.{◌≡◌, ◌+◌, ◌<◌, ℕ, [], length, slice_index_or}
use Rattle.plane_core.proofs.windows.row_packing.pack_four.Given as goal

abbrev pub invariant-loop-i : goal.invariant-loop-i
invariant-loop-i g l = record {
  long : length l.window ≡ g.row.N;
  made : (m : ℕ) → m < l.i → slice_index_or l.window (l.k + m) [] ≡ slice_index_or l.four m [];
  others : (m : ℕ) → m < l.k → slice_index_or l.window m [] ≡ slice_index_or l.initial.window m [];
}
