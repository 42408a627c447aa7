-- Patterns at rest, and what the mark `for good` of a finding says about the clusters and about later generations.
use Rattle.std.specs.Prelude.{◌≡◌, ◌+◌, ◌*◌, ◌≤◌, ◌≢◌, ◌↔◌, ℕ, Bool, IsTrue, true, List, [], All}
use Rattle.plane_core.specs.declared.plane.cell.Cell.{Cell}
use Rattle.plane_core.specs.plane.Cells.{InOrder}
use Rattle.plane_core.specs.plane.Generations.{after}
use Rattle.plane_core.specs.plane.Rules.{Numbers}
use Rattle.survey_core.specs.declared.finding.Finding.TheVariants.{Settled}
use Rattle.survey_core.specs.Findings.{IsFinding, IsSettled}
use Rattle.survey_core.specs.Profiles.{Settling}
use Rattle.survey_core.specs.rest.Rest.{IsAtRest, KeepApart, RestsAs}
use Rattle.survey_core.specs.shapes.ForGood.{ClustersStayForGood}
use Rattle.survey_core.specs.shapes.Objects.{AreObjectsOf, StayForGood}

-- the empty pattern is at rest
abbrev pub EmptyIsAtRest : Type 0
EmptyIsAtRest = (rule : Numbers) (profile : Settling) → IsAtRest rule profile []

-- The clusters keep apart forever, not just up to the horizon, and the pattern repeats every `period` generations.
pub record RestsForever (rule : Numbers) (cells : List Cell) (clusters : List (List Cell)) (period : ℕ) : Type 0 where
  pub apart : (g : ℕ) → KeepApart rule cells clusters g
  pub back : (g : ℕ) → after rule cells (g + period) ≡ after rule cells g

-- if all clusters of a pattern at rest stay for good, `RestsForever` holds with their periods' least common multiple
abbrev pub AtRestForGood : Type 0
AtRestForGood = (rule : Numbers) (profile : Settling) (cells : List Cell) (clusters : List (List Cell)) → InOrder cells
    → RestsAs rule profile cells clusters → (good : ClustersStayForGood rule profile.period profile.horizon clusters)
    → RestsForever rule cells clusters good.multiple

-- The clusters of a pattern at rest stay for good: each recurs in its place, and they keep apart forever.
pub record RestsForGood (rule : Numbers) (profile : Settling) (cells : List Cell) : Type 0 where
  pub clusters : List (List Cell)
  pub rest : RestsAs rule profile cells clusters
  pub good : ClustersStayForGood rule profile.period profile.horizon clusters
  pub forever : RestsForever rule cells clusters good.multiple

-- if a finding says that the objects stay for good, they do
abbrev pub FindingsForGood : Type 0
FindingsForGood = (rule : Numbers) (profile : Settling) (cells : List Cell) (t : ℕ) (objects : List (List ℕ × ℕ)) → InOrder cells
    → IsFinding rule profile cells (Settled t objects true) → RestsForGood rule profile (after rule cells t)

-- if the limit on the periods is at most 64 and no cluster is empty, two definitions of staying for good agree: by the
-- kinds and numbers in the codes of the objects, and by the recurrences of the clusters
abbrev pub MarksMatchRecurrences : Type 0
MarksMatchRecurrences = (rule : Numbers) (limit horizon : ℕ) (clusters : List (List Cell)) (objects : List (List ℕ × ℕ))
    → limit ≤ 64 → All (λ cluster. cluster ≢ []) clusters → AreObjectsOf rule limit clusters objects
    → StayForGood horizon objects ↔ ClustersStayForGood rule limit horizon clusters

-- if the profile's period is at most 64, a finding's mark `for good` agrees with the codes of its objects
abbrev pub MarksAreInCodes : Type 0
MarksAreInCodes = (rule : Numbers) (profile : Settling) (cells : List Cell) (t : ℕ) (objects : List (List ℕ × ℕ)) (good : Bool)
    → profile.period ≤ 64 → IsFinding rule profile cells (Settled t objects good) → IsTrue good ↔ StayForGood profile.horizon objects

-- If a pattern settles at t with objects that stay for good, then for every k, generation t + k * L is equal to
-- generation t, and is settled with the same objects. L is the least common multiple of the periods.
abbrev pub ForGoodComesBack : Type 0
ForGoodComesBack = (rule : Numbers) (profile : Settling) (cells : List Cell) (t : ℕ) (objects : List (List ℕ × ℕ)) → InOrder cells
    → (finding : IsFinding rule profile cells (Settled t objects true))
    → (good : ClustersStayForGood rule profile.period profile.horizon finding.2.clusters) (k : ℕ)
    → (after rule cells (t + k * good.multiple) ≡ after rule cells t)
    × IsSettled rule profile (after rule cells (t + k * good.multiple)) objects true
