use Rattle.plane_core.specs.plane.Generations.{next}
use Rattle.plane_core.proofs.lemmas.plane.ListGenerationLemmas.{IsKept, lives_in}
use Rattle.plane_core.proofs.plane.pattern.Pattern.counted.Given as goal

-- the cells kept so far, together with those that the rest of `near` adds, are the next generation
abbrev pub invariant-loop-place : goal.invariant-loop-place
invariant-loop-place l = IsKept (lives_in l.rule l.self) l.count l.kept l.place l.end l.near.items (next l.rule l.self)
