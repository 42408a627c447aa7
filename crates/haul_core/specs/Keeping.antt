-- The totals that a haul keeps over its taken soups, and the invariant that ties them to what contracts see.
use Rattle.std.specs.Prelude.{◌≡◌, ◌<◌, ◌≤◌, ◌^◌, ℕ, All, List, false, map, nat_eq, true}
use Rattle.std.specs.List.{IsDistinct}
use Rattle.survey_core.specs.Findings.{objects_in}
use Rattle.haul_core.specs.declared.book.scores.Score.{Score}
use Rattle.haul_core.specs.Books.{Held}
use Rattle.ranges.specs.Ranges.{AreBelow, AreNormal, is_in, number_bound, size_of}
use Rattle.haul_core.specs.Reports.{IsWorker}
use Rattle.haul_core.specs.Scores.{score_in}
use Rattle.haul_core.specs.SampleSteps.{least_three}
use Rattle.haul_core.specs.Totals.{AreSurveys, Survey, for_good, numbers_with, total, unsettled}

-- the numbers of the taken soups
abbrev pub numbers_in : List (ℕ × ℕ) → List ℕ
numbers_in taken = map (λ t. t.1) taken

-- the three lowest numbers of soups that left an object with this code, or all if there are fewer
abbrev pub samples : List Survey → List ℕ → List ℕ
samples surveys code = least_three (numbers_with surveys code)

-- the score of a code over these surveys
abbrev pub score_of : List Survey → List ℕ → Score
score_of surveys code = record { total = total surveys code; samples = samples surveys code }

-- the totals that a haul keeps: a score for each code, how many soups are unsettled, and in how many soups all objects
-- stay for good
pub record Sums : Type 0 where
  pub scores : List (List ℕ × Score)
  pub unsettled : ℕ
  pub for_good : ℕ

-- the totals are those of these surveys, each of which has fewer than 2^64 objects
pub record AreSums (surveys : List Survey) (sums : Sums) : Type 0 where
  pub scores : (code : List ℕ) → score_in sums.scores code ≡ score_of surveys code
  pub unsettled_sum : sums.unsettled ≡ unsettled surveys
  pub for_good_sum : sums.for_good ≡ for_good surveys
  pub few : All (λ s. objects_in s.finding < 2 ^ 64) surveys

-- The invariant of a haul: what contracts see agrees with `count` (the size of the set), `workers` (the worker of each
-- taken number) and `sums` (the totals). A haul that isn't closed has at most 2^24 numbers in its set.
pub record KeepsBook (held : Held) (count : ℕ) (workers : List (ℕ × ℕ)) (sums : Sums) : Type 0 where
  pub normal : AreNormal held.terms.ranges
  pub below : AreBelow number_bound held.terms.ranges
  pub size : count ≡ size_of held.terms.ranges
  pub few : held.closed ≡ false → count ≤ 2 ^ 24
  pub worker : IsWorker held.terms.workers
  pub by_number : workers ≡ map (λ t. (t.1, t.0)) held.taken
  pub within : All (λ t. is_in held.terms.ranges t.1 ≡ true) held.taken
  pub distinct : IsDistinct nat_eq (numbers_in held.taken)
  pub surveys : List Survey
  pub surveyed : AreSurveys held.terms.job (numbers_in held.taken) surveys
  pub sum : AreSums surveys sums
