use Rattle.std.proofs.Common.{◌≡◌, ◌<◌, get_or, ℕ}
use Rattle.survey_core.specs.declared.evolution.escaped_spaceships.Spaceship.{Spaceship}
use Rattle.survey_core.proofs.evolution.split_pattern.has_escaped.Given as goal

abbrev pub invariant-loop-other : goal.invariant-loop-other
invariant-loop-other l = (k : ℕ) (d : Spaceship) → k < l.other-index → (get_or l.spaceships k d).cells ≡ l.cells → ⊥
