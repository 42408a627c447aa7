use Rattle.std.proofs.Common.{ℕ, List}
use Rattle.std.specs.Prelude.{option_map}
use Rattle.haul_core.specs.ClaimSteps.{HasCounts}
use Rattle.haul_core.specs.declared.report.claim.read_start.LineStart.{LineStart}
use Rattle.ranges.proofs.ListLemmas.{left_of}
use Rattle.haul_core.proofs.report.claim.read_line.fault_in_counts.Given as goal

abbrev pub invariant-loop-remainder : goal.invariant-loop-remainder
invariant-loop-remainder l =
    (start : LineStart) × (counts : List (List ℕ × ℕ)) × HasCounts l.line start counts (option_map (λ last. last.now) l.last) (option_map (λ remainder. remainder.now) l.remainder)

abbrev pub decreases-loop-remainder : goal.decreases-loop-remainder
decreases-loop-remainder l = left_of (option_map (λ remainder. remainder.now) l.remainder)
