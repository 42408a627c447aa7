-- What may be gathered from the report lines of an input.
use Rattle.std.specs.Prelude.{◌≡◌, ◌<◌, ◌≤◌, ◌^◌, ◌++◌, ◌∷◌, ℕ, List, [], Ok, Err, IsOkAnd, MatchResult, length}
use Rattle.haul_core.specs.declared.book.arrival.Arrival.{Arrival}
use Rattle.haul_core.specs.declared.book.arrival.Arrival.TheVariants.{Closing}
use Rattle.haul_core.specs.declared.book.census.Census.{Census}
use Rattle.ranges.specs.declared.range.Range.{Range}
use Rattle.haul_core.specs.Books.{Terms, taken_of}
use Rattle.haul_core.specs.Censuses.{IsCensus}
use Rattle.haul_core.specs.HaulTexts.{haul_text}
use Rattle.haul_core.specs.Keeping.{numbers_in}
use Rattle.haul_core.specs.Missing.{missing_of}
use Rattle.ranges.specs.Ranges.{AreSmall, IsNormalForm, Overlap}
use Rattle.survey_core.specs.declared.job.Job.{Job}
use Rattle.pattern_commands.specs.declared.ending.complaint.Complaint.TheVariants.{Refused, TooLong}
use Rattle.pattern_commands.specs.Behaviours.{Made, Makes}
use Rattle.requests.specs.declared.plan.Plan.{Plan}
use Rattle.requests.specs.declared.plan.SoupSet.{SoupSet}
use Rattle.commands.specs.GatheredLines.{Gathered}
use Rattle.commands.specs.Lines.{input_lines}
use Rattle.commands.specs.SoupSets.{AreRangesOf, IsRefused, job_named}

-- a haul over a set, for a job and this many workers; the haul's ranges are the normal form of the set's valid ranges
pub record IsHaulOver (set : SoupSet) (workers : ℕ) (job : Job) (terms : Terms) : Type 0 where
  pub ranges : List Range
  pub named : AreRangesOf set ranges
  pub small : AreSmall ranges
  pub apart : ¬ Overlap ranges
  pub form : IsNormalForm ranges terms.ranges
  pub job_is : terms.job ≡ job
  pub workers_are : terms.workers ≡ workers

-- a property of a haul's terms
abbrev pub Hauls : Type 1
Hauls = Terms → Type 0

-- the hauls that may be opened for a plan and this number of workers
abbrev pub gather_opens : Plan → ℕ → Hauls
gather_opens plan workers terms = IsOkAnd (job_named plan) (λ job. IsHaulOver plan.set workers job terms)

-- The lines of an input of at most 2^32 bytes are gathered in a haul, in their order, and then the haul is closed. The
-- text is the haul text over the soups that the haul has taken.
pub record IsGathered (terms : Terms) (bytes : List ℕ) (gathering : Made) : Type 0 where
  pub short : length bytes ≤ 2 ^ 32
  pub arrivals : List Arrival
  pub gathered : Gathered terms (input_lines bytes) arrivals gathering.diagnostics
  pub taken : List (ℕ × ℕ)
  pub taken_is : taken ≡ taken_of terms (arrivals ++ Closing ∷ [])
  pub census : Census
  pub counted : IsCensus terms.job terms.ranges (numbers_in taken) census
  pub text_is : gathering.text ≡ haul_text census
  pub missing_is : gathering.missing ≡ length (missing_of terms.ranges taken)

-- the result of gathering an input in a haul; the haul's terms have the property `opens`
pub record IsGathering (opens : Hauls) (bytes : List ℕ) (gathering : Made) : Type 0 where
  pub terms : Terms
  pub opened : opens terms
  pub is : IsGathered terms bytes gathering

-- which gathering, or which complaint, is right for a plan; the parts of its job are checked before its set
abbrev pub gather_right : Plan → ℕ → List ℕ → Makes
gather_right plan workers bytes (Ok gathering) = IsGathering (gather_opens plan workers) bytes gathering
gather_right plan workers bytes (Err (Refused refusal)) =
    MatchResult (job_named plan) (λ job. IsRefused plan.set refusal) (λ complaint. complaint ≡ Refused refusal)
gather_right plan workers bytes (Err TooLong) = (terms : Terms) × gather_opens plan workers terms × (2 ^ 32 < length bytes)
gather_right plan workers bytes (Err _) = ⊥

-- what is right once a haul is open: the result of gathering the input in it, or the complaint that the input is too
-- long
abbrev pub gathered_right : Terms → List ℕ → Makes
gathered_right terms bytes (Ok gathering) = IsGathered terms bytes gathering
gathered_right terms bytes (Err TooLong) = 2 ^ 32 < length bytes
gathered_right terms bytes (Err _) = ⊥
