-- What a haul replies to an offer, and which arrivals it has received if memory runs out.
use Rattle.std.specs.Prelude.{◌≡◌, ◌≢◌, ◌++◌, ◌⊎◌, ℕ, List, [], ◌∷◌, Option, None, Some, Result, Ok, Err, map, not, nat_eq, nat_lt, if◌then◌else◌}
use Rattle.std.specs.Map.{lookup}
use Rattle.memory.specs.Witness.{out_of_memory}
use Rattle.haul_core.specs.declared.book.refused.OfferError.{OfferError}
use Rattle.haul_core.specs.declared.book.refused.OfferError.TheVariants.{Closed, Memory, OtherJob, OutOfRange, UnknownWorker}
use Rattle.haul_core.specs.declared.book.refused.Refused.{Refused}
use Rattle.haul_core.specs.Books.{Held, StandsFor, Terms}
use Rattle.haul_core.specs.Refusals.{double, refusal_of}
use Rattle.haul_core.specs.declared.book.arrival.Arrival.{Arrival}
use Rattle.haul_core.specs.declared.book.arrival.Arrival.TheVariants.{Closing, Offer}
use Rattle.survey_core.specs.Jobs.{same_job}
use Rattle.ranges.specs.Ranges.{is_in}
use Rattle.haul_core.specs.Reports.{Reported}

-- the reason for the refusal, from the result of an offer, or `None` if the report was taken
abbrev pub reply_of : Result (Unit {0}) Refused → Option OfferError
reply_of (Ok u) = None
reply_of (Err refused) = Some refused.reason

-- memory didn't run out
abbrev pub IsAnswered : Option OfferError → Type 0
IsAnswered reply = reply ≢ Some (Memory out_of_memory)

-- the worker whose report on this number was taken, if there is one
abbrev pub worker_in : ℕ → List (ℕ × ℕ) → Option ℕ
worker_in n taken = lookup (nat_eq n) (map (λ t. (t.1, t.0)) taken)

-- why a haul refuses a report, if it does: the first reason that fits
abbrev pub refusal_at : Held → Reported → Option OfferError
refusal_at held r =
    if held.closed then Some Closed
    else if not (same_job held.terms.job r.job) then Some OtherJob
    else if nat_lt held.terms.workers r.worker then Some UnknownWorker
    else if not (is_in held.terms.ranges r.number) then Some OutOfRange
    else double (worker_in r.number held.taken)

-- the next arrival is an offer that the book takes
abbrev pub IsTakenNext : Terms → List Arrival → List Arrival → Type 0
IsTakenNext terms before [] = ⊥
IsTakenNext terms before (Offer report ∷ more) = refusal_of terms before report ≡ None
IsTakenNext terms before (Closing ∷ more) = ⊥

-- The haul has received the arrivals `before`, but then only a prefix of `arrivals`, because memory ran out. Memory ran
-- out either before the first of `arrivals`, or at an offer that the book would have taken.
pub record StandsForPrefix (before arrivals : List Arrival) (held : Held) : Type 0 where
  pub prefix : List Arrival
  pub remainder : List Arrival
  pub cut : arrivals ≡ prefix ++ remainder
  pub stands : StandsFor (before ++ prefix) held
  pub stopped : (prefix ≡ []) ⊎ IsTakenNext held.terms (before ++ prefix) remainder
