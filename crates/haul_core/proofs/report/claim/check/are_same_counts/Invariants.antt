use Rattle.std.proofs.Common.{◌≡◌, length, take}
use Rattle.haul_core.proofs.report.claim.check.are_same_counts.Given as goal

abbrev pub invariant-loop-place : goal.invariant-loop-place
invariant-loop-place l = record { same : take l.place l.counts ≡ take l.place l.objects; long : length l.counts ≡ length l.objects }
