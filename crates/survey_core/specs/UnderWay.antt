-- How far from the origin a pattern may come in a survey.
use Rattle.std.specs.Prelude.{◌≡◌, ◌≤◌, ℕ, List, true}
use Rattle.plane_core.specs.declared.plane.cell.Cell.{Cell}
use Rattle.plane_core.specs.plane.Generations.{after, lies_within}
use Rattle.plane_core.specs.plane.Rules.{Numbers}

-- the largest absolute value of a coordinate in a survey: a pattern begins within 1,000 of the origin, and grows by at
-- most one cell per generation for at most 100,000 generations
abbrev pub survey_reach : ℕ
survey_reach = 101000

-- the pattern is within this reach now and in each of the next n generations
abbrev pub StaysNear : Numbers → List Cell → ℕ → Type 0
StaysNear rule cells n = (g : ℕ) → g ≤ n → lies_within survey_reach (after rule cells g) ≡ true
