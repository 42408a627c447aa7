-- Checkpoints at which a pattern is known not to be at rest: an even number of generations earlier, the same cells
-- weren't at rest.
use Rattle.std.specs.Prelude.{◌≡◌, ◌+◌, ◌%◌, ℕ, Bool, false, true, List, get_or}
use Rattle.plane_core.specs.declared.plane.cell.Cell.{Cell}
use Rattle.plane_core.specs.plane.Generations.{after}
use Rattle.plane_core.specs.plane.Rules.{Numbers}
use Rattle.survey_core.specs.Profiles.{Settling}
use Rattle.survey_core.specs.rest.Rest.{IsAtRest}

-- the pattern is known not to be at rest in generation t; the first entry is about even generations, and the second
-- about odd ones
abbrev pub is_known : List Bool → ℕ → Bool
is_known known_restless t = get_or known_restless (t % 2) false

-- a pattern that has these cells in generation t isn't at rest in any generation, from t on, for which `is_known` is
-- true
abbrev pub AreKnownRestless : Numbers → Settling → List Cell → ℕ → List Bool → Type 0
AreKnownRestless rule profile cells t known_restless = (n : ℕ) → is_known known_restless (t + n) ≡ true → ¬ IsAtRest rule profile (after rule cells n)
