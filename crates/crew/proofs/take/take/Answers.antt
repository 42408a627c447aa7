use Rattle.std.proofs.Common.{◌∙◌, IfSome, Some, ap, refl, subst, sym, true≢false}
use Rattle.crew.specs.Takes.{EndsWith, was_missing}
use Rattle.crew.proofs.TakeLemmas.{heard_between}
use Rattle.crew.proofs.take.take.Goals as goal

pub returns-clause-stopped : goal.returns-clause-stopped
returns-clause-stopped g c worker is = c.complete_haul-haul.ensures.stopped worker (c.in-Some.is ∙ ap Some is)

pub returns-clause-within : goal.returns-clause-within
returns-clause-within g c worker is = c.complete_haul-haul.ensures.within worker (c.in-Some.is ∙ ap Some is)

pub returns-then-is_complete-clause-closed : goal.returns-then-is_complete-clause-closed
returns-then-is_complete-clause-closed g c is = absurd (true≢false (sym is ∙ sym c.is_closed.ensures ∙ c.if-is_closed.false))

pub returns-then-is_complete-clause-taken : goal.returns-then-is_complete-clause-taken
returns-then-is_complete-clause-taken g c _ = c.complete_haul-haul.ensures.taken

pub returns-then-is_complete-clause-complete : goal.returns-then-is_complete-clause-complete
returns-then-is_complete-clause-complete g c = c.if-is_complete.ensures.complete.0 refl

pub returns-then-is_complete-clause-all : goal.returns-then-is_complete-clause-all
returns-then-is_complete-clause-all g c = c.if-is_complete.ensures.all refl

pub returns-clause-closed : goal.returns-clause-closed
returns-clause-closed g c is = absurd (true≢false (sym is ∙ sym c.is_closed.ensures ∙ c.if-is_closed.false))

pub returns-clause-open : goal.returns-clause-open
returns-clause-open g c is = absurd (c.complete_haul-haul.ensures.«open» (c.in-Some.is ∙ ap Some is))

pub returns-clause-taken : goal.returns-clause-taken
returns-clause-taken g c _ = c.complete_haul-haul.ensures.taken

pub returns-clause-incomplete : goal.returns-clause-incomplete
returns-clause-incomplete g c _ complete = absurd (true≢false (sym (c.if-is_complete.ensures.complete.1 complete)))

pub returns-clause-ends : goal.returns-clause-ends
returns-clause-ends g c _ =
    subst (λ cause. IfSome cause (EndsWith (g.G.Gate.may_stop c.args.gate.now) (g.G.Gate.lets c.args.gate.now) (was_missing c.args.haul) c.args.workers)) c.in-Some.is
    c.complete_haul-haul.ensures.ends

pub returns-then-is_complete-clause-heard : goal.returns-then-is_complete-clause-heard
returns-then-is_complete-clause-heard g c =
    λ is_open. heard_between g.H.ProgressObserver.hears g.met.H.ProgressObserver.hears_more c.args.observer.now c.begin.new.self
    c.complete_haul-haul.new.observer c.end.new.self c.begin.ensures c.complete_haul-haul.ensures.heard c.end.ensures

pub returns-clause-heard : goal.returns-clause-heard
returns-clause-heard g c =
    λ is_open. heard_between g.H.ProgressObserver.hears g.met.H.ProgressObserver.hears_more c.args.observer.now c.begin.new.self
    c.complete_haul-haul.new.observer c.end.new.self c.begin.ensures c.complete_haul-haul.ensures.heard c.end.ensures
