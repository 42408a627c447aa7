-- Which soups `gather` counts, whatever the order of the lines in its input.
use Rattle.std.specs.Prelude.{◌≡◌, ◌≤◌, ◌^◌, ◌↔◌, ℕ, true, Any, List, Ok, count_by, length, nat_eq}
use Rattle.std.specs.List.{list_any}
use Rattle.survey_core.specs.declared.job.Job.{Job}
use Rattle.ranges.specs.Ranges.{is_in}
use Rattle.haul_core.specs.declared.book.census.Census.{Census}
use Rattle.haul_core.specs.Books.{Terms}
use Rattle.haul_core.specs.Censuses.{IsCensus}
use Rattle.haul_core.specs.ClaimChecks.{IsConfirmed}
use Rattle.haul_core.specs.HaulTexts.{haul_text}
use Rattle.haul_core.specs.LawfulClaims.{Claimed}
use Rattle.haul_core.specs.Reports.{Reported}
use Rattle.requests.specs.declared.plan.Plan.{Plan}
use Rattle.pattern_commands.specs.Behaviours.{Made}
use Rattle.commands.specs.Gathering.{gather_opens, gather_right}
use Rattle.commands.specs.GatheredLines.{Claims}
use Rattle.commands.specs.Lines.{input_lines}

-- The line is correct for the soup with this number: it has at most 2^24 bytes, its claim is about this soup of the job
-- and is correct, and the number of the claim's worker is at most `workers`.
pub record IsCorrectFor (job : Job) (workers n : ℕ) (line : List ℕ) : Type 0 where
  pub short : length line ≤ 2 ^ 24
  pub claim : Claimed
  pub claims : Claims line claim
  pub report : Reported
  pub confirmed : IsConfirmed claim job report
  pub known : report.worker ≤ workers
  pub number : report.number ≡ n

-- some line of the input is correct for the soup with this number
abbrev pub HasCorrectLine : Job → (workers : ℕ) → List ℕ → ℕ → Type 0
HasCorrectLine job workers bytes n = Any (IsCorrectFor job workers n) (input_lines bytes)

-- The text is the haul text of the soups of the set that have a correct line, each counted once. No soup is missing if
-- and only if each soup of the set has a correct line.
pub record TakesCorrectLines (terms : Terms) (bytes : List ℕ) (made : Made) : Type 0 where
  pub numbers : List ℕ
  pub once : (n : ℕ) → count_by (nat_eq n) numbers ≤ 1
  pub correct : (n : ℕ) → (list_any (nat_eq n) numbers ≡ true) ↔ ((is_in terms.ranges n ≡ true) × HasCorrectLine terms.job terms.workers bytes n)
  pub census : Census
  pub counted : IsCensus terms.job terms.ranges numbers census
  pub text_is : made.text ≡ haul_text census
  pub whole : (made.missing ≡ 0) ↔ ((n : ℕ) → is_in terms.ranges n ≡ true → HasCorrectLine terms.job terms.workers bytes n)

-- `TakesCorrectLines` holds for a haul with the plan's set, the plan's job and this number of workers
pub record IsOfCorrectLines (plan : Plan) (workers : ℕ) (bytes : List ℕ) (made : Made) : Type 0 where
  pub terms : Terms
  pub opened : gather_opens plan workers terms
  pub tells : TakesCorrectLines terms bytes made

-- unless `gather` ends with a complaint, it takes exactly the soups of its set that have correct lines
abbrev pub GatherTakesCorrectLines : Type 0
GatherTakesCorrectLines = (plan : Plan) (workers : ℕ) (bytes : List ℕ) (made : Made) → gather_right plan workers bytes (Ok made)
    → IsOfCorrectLines plan workers bytes made
