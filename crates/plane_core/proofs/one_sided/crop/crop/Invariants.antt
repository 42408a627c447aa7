use Rattle.std.proofs.Common.{◌≡◌, ◌+◌, ◌<◌, ℕ, length, slice_index}
use Rattle.plane_core.proofs.one_sided.crop.crop.Given as goal

abbrev pub invariant-loop-r : goal.invariant-loop-r
invariant-loop-r g l = record {
  long : length l.part ≡ g.row.R;
  made : (q : ℕ) → q < l.r → slice_index l.part q ≡ slice_index l.rows (l.from + q);
}
