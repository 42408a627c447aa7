use Rattle.std.proofs.Common.{◌<◌, ◌≤◌, ℕ, slice_index}
use Rattle.plane_core.proofs.one_sided.crop.are_dark.Given as goal

abbrev pub invariant-loop-r : goal.invariant-loop-r
invariant-loop-r l = (q : ℕ) → q < l.r → l.first ≤ q → slice_index l.rows q ≤ l.all
