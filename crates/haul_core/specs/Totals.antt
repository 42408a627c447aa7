-- Totals over surveyed soups: how many objects with a code the soups left, and which soups left one.
use Rattle.std.specs.Prelude.{◌≡◌, ℕ, Bool, true, false, List, count_by, filter, map, nat_le, sum_by}
use Rattle.std.specs.List.{All}
use Rattle.survey_core.specs.Findings.{IsFinding}
use Rattle.survey_core.specs.shapes.Objects.{count_of}
use Rattle.survey_core.specs.Soups.{soup}
use Rattle.survey_core.specs.declared.finding.Finding.{Finding}
use Rattle.survey_core.specs.declared.finding.Finding.TheVariants.{Settled, Unsettled}
use Rattle.survey_core.specs.declared.job.Job.{Job}

-- how many objects of the finding have this code
abbrev pub count_in : List ℕ → Finding → ℕ
count_in code (Settled checkpoint objects for_good) = count_of objects code
count_in code Unsettled = 0

abbrev pub is_unsettled : Finding → Bool
is_unsettled (Settled checkpoint objects for_good) = false
is_unsettled Unsettled = true

abbrev pub is_for_good : Finding → Bool
is_for_good (Settled checkpoint objects for_good) = for_good
is_for_good Unsettled = false

-- the number of a surveyed soup, and its finding
pub record Survey : Type 0 where
  pub number : ℕ
  pub finding : Finding

-- the soups with these numbers, each with its finding
pub record AreSurveys (job : Job) (numbers : List ℕ) (surveys : List Survey) : Type 0 where
  pub each : map (λ s. s.number) surveys ≡ numbers
  pub findings : All (λ s. IsFinding job.rule job.profile (soup job.seed s.number) s.finding) surveys

-- the number of objects with this code, added up over all soups
abbrev pub total : List Survey → List ℕ → ℕ
total surveys code = sum_by (λ s. count_in code s.finding) surveys

-- the soup left an object with this code
abbrev pub has_object : List ℕ → Survey → Bool
has_object code s = nat_le 1 (count_in code s.finding)

-- the numbers of the soups that left an object with this code
abbrev pub numbers_with : List Survey → List ℕ → List ℕ
numbers_with surveys code = map (λ s. s.number) (filter (has_object code) surveys)

-- how many of the soups are unsettled
abbrev pub unsettled : List Survey → ℕ
unsettled surveys = count_by (λ s. is_unsettled s.finding) surveys

-- the number of soups whose objects stay for good
abbrev pub for_good : List Survey → ℕ
for_good surveys = count_by (λ s. is_for_good s.finding) surveys
