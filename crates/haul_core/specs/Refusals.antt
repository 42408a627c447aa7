-- Why the book refuses an offer, and what it replies to arrivals.
use Rattle.std.specs.Prelude.{◌≡◌, ◌++◌, ◌⊎◌, ℕ, not, List, [], ◌∷◌, Option, None, Some, nat_lt, option_map, if◌then◌else◌}
use Rattle.std.specs.List.{find}
use Rattle.memory.specs.Witness.{out_of_memory}
use Rattle.haul_core.specs.declared.book.arrival.Arrival.{Arrival}
use Rattle.haul_core.specs.declared.book.arrival.Arrival.TheVariants.{Closing, Offer}
use Rattle.haul_core.specs.declared.book.refused.OfferError.{OfferError}
use Rattle.haul_core.specs.declared.book.refused.OfferError.TheVariants.{Closed, Double, Memory, OtherJob, OutOfRange, UnknownWorker}
use Rattle.haul_core.specs.declared.book.arrival.Reply.{Reply}
use Rattle.haul_core.specs.declared.book.arrival.Reply.TheVariants.{AlreadyClosed, NowClosed, Refused, Taken}
use Rattle.survey_core.specs.Jobs.{same_job}
use Rattle.ranges.specs.Ranges.{is_in}
use Rattle.haul_core.specs.Reports.{Reported}
use Rattle.haul_core.specs.Books.{Terms, has_closing, eligible, has_number}

-- the worker of the first report with this number
abbrev pub first_worker : ℕ → List Reported → Option ℕ
first_worker n reports = option_map (λ r. r.worker) (find (has_number n) reports)

-- why a report is refused if this worker reported the soup before; `None` if no worker did
abbrev pub double : Option ℕ → Option OfferError
double None = None
double (Some worker) = Some (Double worker)

-- why an offer after these arrivals is refused: the first reason that fits, or `None` if the offer is taken
abbrev pub refusal_of : Terms → List Arrival → Reported → Option OfferError
refusal_of terms before r =
    if has_closing before then Some Closed
    else if not (same_job terms.job r.job) then Some OtherJob
    else if nat_lt terms.workers r.worker then Some UnknownWorker
    else if not (is_in terms.ranges r.number) then Some OutOfRange
    else double (first_worker r.number (eligible terms before))

-- the reply to an offer that is refused for this reason, or taken if there is no reason
abbrev pub reply_for : Option OfferError → Reply
reply_for None = Taken
reply_for (Some reason) = Refused reason

-- the reply to an arrival that comes after the arrivals `before`
abbrev pub reply_to : Terms → List Arrival → Arrival → Reply
reply_to terms before (Offer report) = reply_for (refusal_of terms before report)
reply_to terms before Closing = if has_closing before then AlreadyClosed else NowClosed

-- the replies, in order, to these arrivals, which come after the arrivals `before`
abbrev pub replies_to : Terms → List Arrival → List Arrival → List Reply
replies_to terms before [] = []
replies_to terms before (a ∷ more) = reply_to terms before a ∷ replies_to terms (before ++ a ∷ []) more

-- the given reply is the wanted reply, or memory ran out at an offer that the book would have taken
abbrev pub IsReply : Option OfferError → Option OfferError → Type 0
IsReply given wanted = (given ≡ wanted) ⊎ ((given ≡ Some (Memory out_of_memory)) × (wanted ≡ None))
