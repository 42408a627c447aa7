use Rattle.std.proofs.Common.{◌≡◌, ◌∙◌, ◌++◌, ◌∷◌, [], ap, append-nil, refl, sym, subst, List, arith}
use Rattle.std.proofs.lemmas.List.{append_assoc}
use Rattle.std.specs.Vec.Iter.{into_iter_items}
use Rattle.haul_core.specs.declared.book.arrival.Arrival.{Arrival}
use Rattle.haul_core.specs.Books.{StandsFor, Terms}
use Rattle.haul_core.specs.Refusals.{reply_to}
use Rattle.haul_core.proofs.BookLemmas.{pushed, replies_push, stopped_at, taken_prefix}
use Rattle.haul_core.proofs.book.keep.keep_book.Goals as goal

pub loop-arrival-init : goal.loop-arrival-init
loop-arrival-init c = record {
  replies = λ before s. c.in_ok-replies.ensures.items;
  stands = λ before s. subst (λ (arrivals : List Arrival). StandsFor arrivals c.args.haul.now) (sym (append-nil before)) s;
  terms = refl;
  room = omega (arith, c.in_ok-replies.ensures.len, c.in_ok-replies.ensures.capacity, c.into_iter-arrival-iterator.ensures.into_iter_gives.1, c.len.ensures);
}

pub returns-in_err-reply-clause-memory : goal.returns-in_err-reply-clause-memory
returns-in_err-reply-clause-memory c = λ before s.
    let here : StandsFor (before ++ c.loop-arrival.yielded) c.loop-arrival.haul = c.loop-arrival.invariant.stands before s in
    stopped_at c.from_residual-in_err-reply.result before c.args.arrivals.items c.loop-arrival.yielded c.in-Some.arrival (into_iter_items c.next.new.self)
    c.loop-arrival.haul c.answer.new.haul
    (sym c.into_iter-arrival-iterator.ensures.into_iter_gives.0 ∙ taken_prefix _ c.loop-arrival.yielded _ c.loop-arrival.yielded_by
    ∙ ap (λ (xs : List Arrival). c.loop-arrival.yielded ++ xs) c.in-Some.ensures.steps.0) c.in_err-reply.ensures.kept
    (c.in_err-reply.ensures.memory (before ++ c.loop-arrival.yielded) here) here

pub unwrap-requires : goal.unwrap-requires
unwrap-requires c = c.push.ensures.succeeds (omega (arith, c.loop-arrival.invariant.room, c.in-Some.ensures.steps.1))

pub loop-arrival-preserved : goal.loop-arrival-preserved
loop-arrival-preserved c = record {
  replies = λ before s.
      let stands = c.loop-arrival.invariant.stands before s in
      let reply : c.in_ok-reply.reply ≡ reply_to c.args.haul.now.terms (before ++ c.loop-arrival.yielded) c.in-Some.arrival =
      c.in_ok-reply.ensures.reply (before ++ c.loop-arrival.yielded) stands
      ∙ ap (λ (terms : Terms). reply_to terms (before ++ c.loop-arrival.yielded) c.in-Some.arrival) c.loop-arrival.invariant.terms in
      c.push.ensures.items ∙ pushed c.push.result _ _ (c.push.ensures.succeeds (omega (arith, c.loop-arrival.invariant.room, c.in-Some.ensures.steps.1))) ∙ (λ i. c.loop-arrival.invariant.replies before s i ++ reply i ∷ [])
      ∙ sym (replies_push c.args.haul.now.terms before c.loop-arrival.yielded c.in-Some.arrival);
  stands = λ before s. subst (λ (arrivals : List Arrival). StandsFor arrivals c.answer.new.haul)
      (append_assoc before c.loop-arrival.yielded (c.in-Some.arrival ∷ []))
      (c.in_ok-reply.ensures.stands (before ++ c.loop-arrival.yielded) (c.loop-arrival.invariant.stands before s));
  terms = c.answer.ensures.terms ∙ c.loop-arrival.invariant.terms;
  room = omega (arith, c.loop-arrival.invariant.room, c.in-Some.ensures.steps.1, c.push.ensures.capacity, c.push.ensures.upper_bound);
}

pub returns-in_err-reply-clause-terms : goal.returns-in_err-reply-clause-terms
returns-in_err-reply-clause-terms c = c.answer.ensures.terms ∙ c.loop-arrival.invariant.terms

pub returns-clause-terms : goal.returns-clause-terms
returns-clause-terms c = c.loop-arrival.invariant.terms
