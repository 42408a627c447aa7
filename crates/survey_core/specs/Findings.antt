-- Findings: at which checkpoint a pattern is at rest, which objects it consists of then, and whether they stay for
-- good.
use Rattle.std.specs.Prelude.{◌≡◌, ◌<◌, ◌^◌, ◌↔◌, ℕ, Bool, IsTrue, List, sum}
use Rattle.std.specs.Map.{values_of}
use Rattle.plane_core.specs.declared.plane.cell.Cell.{Cell}
use Rattle.plane_core.specs.plane.Generations.{after}
use Rattle.plane_core.specs.plane.Rules.{Numbers}
use Rattle.survey_core.specs.declared.finding.Finding.{Finding}
use Rattle.survey_core.specs.declared.finding.Finding.TheVariants.{Settled, Unsettled}
use Rattle.survey_core.specs.shapes.ForGood.{ClustersStayForGood}
use Rattle.survey_core.specs.shapes.Objects.{AreObjectsOf}
use Rattle.survey_core.specs.Profiles.{IsCheckpoint, Settling}
use Rattle.survey_core.specs.rest.Rest.{IsAtRest, RestsAs}

-- how many objects a finding has: its counts added up
abbrev pub objects_in : Finding → ℕ
objects_in (Settled checkpoint objects for_good) = sum (values_of objects)
objects_in Unsettled = 0

-- the pattern is at rest at no checkpoint before t
abbrev pub NoRestBefore : Numbers → Settling → List Cell → ℕ → Type 0
NoRestBefore rule profile cells t = (u : ℕ) → IsCheckpoint profile u → u < t → ¬ IsAtRest rule profile (after rule cells u)

-- The pattern is at rest and consists of these objects, and `for_good` says whether its clusters stay for good.
pub record IsSettled (rule : Numbers) (profile : Settling) (cells : List Cell) (objects : List (List ℕ × ℕ)) (for_good : Bool) : Type 0 where
  pub clusters : List (List Cell)
  pub rest : RestsAs rule profile cells clusters
  pub counted : AreObjectsOf rule profile.period clusters objects
  pub good : IsTrue for_good ↔ ClustersStayForGood rule profile.period profile.horizon clusters

-- the finding of a pattern that settles at generation t, where `cells` is the pattern at that generation
abbrev pub SettlesAt : Numbers → Settling → List Cell → ℕ → Finding → Type 0
SettlesAt rule profile cells t (Settled u objects for_good) = (u ≡ t) × IsSettled rule profile cells objects for_good
SettlesAt rule profile cells t Unsettled = ⊥

-- The finding of a pattern: `Settled`, with the first checkpoint at which it is at rest and its objects then, or
-- `Unsettled`, if there is no such checkpoint.
abbrev pub IsFinding : Numbers → Settling → List Cell → Finding → Type 0
IsFinding rule profile cells (Settled t objects for_good) =
    IsCheckpoint profile t × NoRestBefore rule profile cells t × IsSettled rule profile (after rule cells t) objects for_good
IsFinding rule profile cells Unsettled = (u : ℕ) → IsCheckpoint profile u → ¬ IsAtRest rule profile (after rule cells u)

-- what a survey returns: the pattern's finding, with fewer than 2^64 objects
pub record IsSurvey (rule : Numbers) (profile : Settling) (cells : List Cell) (found : Finding) : Type 0 where
  pub finding : IsFinding rule profile cells found
  pub few : objects_in found < 2 ^ 64
