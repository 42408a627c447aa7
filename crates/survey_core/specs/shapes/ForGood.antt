-- Which clusters stay for good.
use Rattle.std.specs.Prelude.{◌≤◌, ℕ, pos, List, All}
use Rattle.plane_core.specs.declared.plane.cell.Cell.{Cell}
use Rattle.plane_core.specs.plane.Rules.{Numbers}
use Rattle.code_core.specs.Recurrences.{Recurs}
use Rattle.survey_core.specs.shapes.Objects.{IsMultiple}

-- the pattern recurs in its place, with this period
abbrev pub RecursInPlace : Numbers → ℕ → List Cell → ℕ → Type 0
RecursInPlace rule limit cells period = Recurs rule cells limit (record { period = period; dx = pos 0; dy = pos 0 })

-- m is 1 or more, and a multiple of the period of each cluster that recurs in place
pub record IsCommonPeriod (rule : Numbers) (limit : ℕ) (clusters : List (List Cell)) (m : ℕ) : Type 0 where
  pub some : 1 ≤ m
  pub each : All (λ cluster. (period : ℕ) → RecursInPlace rule limit cluster period → IsMultiple m period) clusters

-- clusters stay for good: each recurs in place, and the least common multiple of their periods is within the horizon
pub record ClustersStayForGood (rule : Numbers) (limit horizon : ℕ) (clusters : List (List Cell)) : Type 0 where
  pub in_place : All (λ cluster. (period : ℕ) × RecursInPlace rule limit cluster period) clusters
  pub multiple : ℕ
  pub common : IsCommonPeriod rule limit clusters multiple
  pub least : (m : ℕ) → IsCommonPeriod rule limit clusters m → multiple ≤ m
  pub within : multiple ≤ horizon
