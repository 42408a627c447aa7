use Rattle.std.proofs.Common.{◌≤◌, ℕ, take, count_by}
use Rattle.ranges.specs.Ranges.{is_in_range}
use Rattle.ranges.proofs.range.overlap.Given as goal

-- no number is in two of the first `place` ranges
abbrev pub invariant-loop-place : goal.invariant-loop-place
invariant-loop-place l = (n : ℕ) → count_by (is_in_range n) (take l.place l.ranges) ≤ 1
