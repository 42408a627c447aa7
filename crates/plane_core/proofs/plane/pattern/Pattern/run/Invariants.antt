use Rattle.std.proofs.Common.{◌≡◌, ◌-◌, ℕ, ◌<◌, ◌≤◌, false}
use Rattle.plane_core.specs.plane.Generations.{after, touches_edge}
use Rattle.plane_core.proofs.plane.pattern.Pattern.run.Given as goal

abbrev pub invariant-loop-made : goal.invariant-loop-made
invariant-loop-made l = record {
  most : l.made ≤ l.generations;
  later : l.pattern ≡ after l.rule l.self l.made;
  inside : (g : ℕ) → g < l.made → touches_edge (after l.rule l.self g) ≡ false;
}

abbrev pub decreases-loop-made : goal.decreases-loop-made
decreases-loop-made l = l.generations - l.made
