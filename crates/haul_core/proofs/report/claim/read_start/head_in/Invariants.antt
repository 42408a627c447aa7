use Rattle.std.specs.Prelude.{option_map}
use Rattle.haul_core.specs.ClaimSteps.{HasHead}
use Rattle.haul_core.proofs.report.claim.read_start.head_in.Given as goal

abbrev pub invariant-loop-place : goal.invariant-loop-place
invariant-loop-place l = HasHead l.line l.place l.head (option_map (λ remainder. remainder.now) l.remainder)
