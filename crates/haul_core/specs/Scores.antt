-- How totals are kept: a score for each code, in the order in which the codes were first found.
use Rattle.std.specs.Prelude.{◌≡◌, ◌+◌, ◌++◌, ℕ, All, IsSome, List, [], Option, None, Some, nat_eq, take, unwrap_or}
use Rattle.std.specs.Cmp.Lexicographic.{pointwise}
use Rattle.std.specs.Map.{lookup}
use Rattle.survey_core.specs.shapes.Objects.{AreObjects, is_code}
use Rattle.survey_core.specs.declared.finding.Finding.{Finding}
use Rattle.survey_core.specs.declared.finding.Finding.TheVariants.{Settled, Unsettled}
use Rattle.haul_core.specs.declared.book.scores.Score.{Score}
use Rattle.haul_core.specs.SampleSteps.{with_each, with_number}

-- the blank score: no objects, and no samples
abbrev pub no_score : Score
no_score = record { total = 0; samples = [] }

-- the score of a code, if it has one
abbrev pub found_score : List (List ℕ × Score) → List ℕ → Option Score
found_score scores code = lookup (pointwise nat_eq code) scores

-- the code has a score
abbrev pub HasScore : List (List ℕ × Score) → List ℕ → Type 0
HasScore scores code = IsSome (found_score scores code)

-- the score of a code, or the blank score if it has none
abbrev pub score_in : List (List ℕ × Score) → List ℕ → Score
score_in scores code = unwrap_or (found_score scores code) no_score

-- a code's score after soup `number` is added; the option is how many of the soup's objects have the code, if any do
abbrev pub added : Option ℕ → ℕ → Score → Score
added None number score = score
added (Some count) number score = record { total = score.total + count; samples = take 3 (with_number number score.samples) }

-- the score over the soups of both scores
abbrev pub together : Score → Score → Score
together t u = record { total = t.total + u.total; samples = with_each t.samples u.samples }

-- the new scores are the old ones, followed by blank ones only
pub record Extends (old new : List (List ℕ × Score)) : Type 0 where
  pub more : List (List ℕ × Score)
  pub is : new ≡ old ++ more
  pub blank : All (λ score. score.1 ≡ no_score) more

-- how many objects of the finding have this code, if any do
abbrev pub found_in : List ℕ → Finding → Option ℕ
found_in code (Settled checkpoint objects for_good) = lookup (is_code code) objects
found_in code Unsettled = None

-- each code of the finding has a score
abbrev pub HasScores : Finding → List (List ℕ × Score) → Type 0
HasScores (Settled checkpoint objects for_good) scores = All (λ object. HasScore scores object.0) objects
HasScores Unsettled scores = Unit {0}

-- the finding's codes are in ASCII order, each with a count of at least 1
abbrev pub HasLawfulObjects : Finding → Type 0
HasLawfulObjects (Settled checkpoint objects for_good) = AreObjects objects
HasLawfulObjects Unsettled = Unit {0}
