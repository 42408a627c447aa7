use Rattle.std.proofs.Common.{◌≡◌, ◌≢◌, ◌∙◌, ℕ, Bool, true, false, List, None, Option, Some, ap, if◌then◌else◌, inl, inr, nat_lt, not, subst, sym}
use Rattle.memory.specs.Witness.{out_of_memory}
use Rattle.haul_core.specs.Missing.{is_taken}
use Rattle.haul_core.specs.Books.{Held, Terms, eligible, has_closing}
use Rattle.haul_core.specs.Refusals.{IsReply, double, first_worker, refusal_of}
use Rattle.survey_core.specs.Jobs.{same_job}
use Rattle.haul_core.specs.Reports.{Reported}
use Rattle.haul_core.specs.declared.book.arrival.Arrival.{Arrival}
use Rattle.haul_core.specs.declared.book.refused.OfferError.{OfferError}
use Rattle.haul_core.specs.declared.book.refused.OfferError.TheVariants.{Closed, Memory, OtherJob, OutOfRange, UnknownWorker}
use Rattle.ranges.specs.Ranges.{is_in}
use Rattle.crew.specs.Crews.{HasSoupOf}
use Rattle.crew.proofs.CrewLemmas.{refused_was_taken, taken_last}
use Rattle.crew.proofs.collector.offer.Goals as goal

-- `None` is not a reason for a refusal
taken_is_answer : (reason : OfferError) → None ≢ Some reason
taken_is_answer reason e = absurd (cc)

-- the book never refuses for lack of memory
no_memory : (closed job over inside : Bool) (worker : Option ℕ)
    → (if closed then Some Closed else if not job then Some OtherJob else if over then Some UnknownWorker else if not inside then Some OutOfRange
    else double worker)
    ≢ Some (Memory out_of_memory)
no_memory true job over inside worker e = absurd (cc)
no_memory false false over inside worker e = absurd (cc)
no_memory false true true inside worker e = absurd (cc)
no_memory false true false false worker e = absurd (cc)
no_memory false true false true None e = absurd (cc)
no_memory false true false true (Some w) e = absurd (cc)

-- if the haul's reply to an offer is that memory ran out, the book would have taken the offer
book_takes : (terms : Terms) (before : List Arrival) (r : Reported) (given : Option OfferError) → IsReply given (refusal_of terms before r)
    → given ≡ Some (Memory out_of_memory) → refusal_of terms before r ≡ None
book_takes terms before r given (inl same) e = absurd (no_memory (has_closing before) (same_job terms.job r.job) (nat_lt terms.workers r.worker)
    (is_in terms.ranges r.number) (first_worker r.number (eligible terms before)) (sym same ∙ e))
book_takes terms before r given (inr none) e = none.1

-- equal replies give equal reasons
same_reason : (a b : OfferError) → Some a ≡ Some b → a ≡ b
same_reason a b e = cc

pub returns-in-Ok : goal.returns-in-Ok
returns-in-Ok c =
    let all = c.in-Ok.ensures in
    record {
      added = inr (record {
        terms = all.terms;
        closed = all.closed;
        taken = all.taken;
        stands = λ arrivals here. all.stands arrivals here (taken_is_answer (Memory out_of_memory));
      });
      stands = λ arrivals here. all.stands arrivals here (taken_is_answer (Memory out_of_memory));
      soup = λ is_open lawful. subst (λ (l : List (ℕ × ℕ)). is_taken l c.args.report.number ≡ true) (sym all.taken)
          (taken_last c.args.haul.now.taken c.args.report.worker c.args.report.number);
      kept = tt;
      lost = tt;
    }

pub returns-in-Memory : goal.returns-in-Memory
returns-in-Memory c = record {
  added = inl c.in-Err.ensures.kept;
  stands = tt;
  soup = tt;
  kept = c.in-Err.ensures.kept;
  lost = λ arrivals here.
      book_takes c.args.haul.now.terms arrivals c.args.report (Some c.in-Err.refused.reason) (c.in-Err.ensures.reply arrivals here) (ap Some c.in-Memory.is);
}

-- a refusal for another reason than memory leaves the haul unchanged
pub returns : goal.returns
returns c = let other = c.in_default.not-Memory out_of_memory in record {
  added = inl c.in-Err.ensures.kept;
  stands = λ arrivals here. c.in-Err.ensures.stands arrivals here (λ memory. other (same_reason c.in-Err.refused.reason (Memory out_of_memory) memory));
  soup = subst (λ (h : Held). HasSoupOf h c.args.report) (sym c.in-Err.ensures.kept)
      (refused_was_taken c.args.haul.now c.args.report c.in-Err.refused.reason c.in-Err.ensures.state
      (λ memory. other (same_reason c.in-Err.refused.reason (Memory out_of_memory) memory)));
  kept = tt;
  lost = tt;
}
