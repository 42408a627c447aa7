use Rattle.std.proofs.Common.{◌∙◌, ◌++◌, ◌∷◌, [], ap, sym, subst, Some}
use Rattle.memory.specs.Witness.{out_of_memory}
use Rattle.haul_core.specs.Books.{StandsFor}
use Rattle.haul_core.specs.Refusals.{reply_for, reply_to}
use Rattle.haul_core.specs.Replies.{IsTakenNext}
use Rattle.haul_core.specs.declared.book.arrival.Arrival.{Arrival}
use Rattle.haul_core.specs.declared.book.refused.OfferError.{OfferError}
use Rattle.haul_core.proofs.BookLemmas.{answered, is_taken, reason_is}
use Rattle.haul_core.proofs.book.keep.answer.Goals as goal

pub returns-in-Memory-clause-memory : goal.returns-in-Memory-clause-memory
returns-in-Memory-clause-memory c = λ before s.
    subst (λ (a : Arrival). IsTakenNext c.args.haul.now.terms before (a ∷ [])) (sym c.in-Offer.is)
    (is_taken c.args.haul.now.terms before c.in-Offer.report (Some c.in-Err.refused.reason) (c.in-Err.ensures.reply before s) (ap (λ (r : OfferError). Some r) c.in-Memory.is))

pub returns-in_default : goal.returns-in_default
returns-in_default c = record {
  reply = λ before s.
      ap reply_for (answered (Some c.in-Err.refused.reason) _ (c.in-Err.ensures.reply before s) (λ e. c.in_default.not-Memory out_of_memory (reason_is e)))
      ∙ ap (reply_to c.args.haul.now.terms before) (sym c.in-Offer.is);
  stands = λ before s. subst (λ (a : Arrival). StandsFor (before ++ a ∷ []) c.offer.new.self) (sym c.in-Offer.is)
      (c.in-Err.ensures.stands before s (λ e. c.in_default.not-Memory out_of_memory (reason_is e)));
  terms = c.offer.ensures.terms;
  kept = tt;
  memory = λ before s. tt;
}
