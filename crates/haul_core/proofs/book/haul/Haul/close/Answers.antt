use Rattle.std.proofs.Common.{◌∙◌, ap, sym, subst, ◌++◌, ◌∷◌, [], Bool}
use Rattle.haul_core.specs.Books.{Held, StandsFor}
use Rattle.haul_core.specs.declared.book.arrival.Arrival.TheVariants.{Closing}
use Rattle.haul_core.proofs.BookLemmas.{stands_closed}
use Rattle.haul_core.proofs.book.haul.Haul.close.Goals as goal

-- if the haul was closed before, it is unchanged, and also stands for its arrivals with one more closing
pub returns-then-self-clause-stands : goal.returns-then-self-clause-stands
returns-then-self-clause-stands c = λ arrivals s.
    let held : Held = c.args.self.now in
    subst (λ (b : Bool). StandsFor (arrivals ++ Closing ∷ []) (record { terms = held.terms; closed = b; taken = held.taken }))
    (sym (ap (λ (h : Held). h.closed) (sym c.self.view_is) ∙ c.if-self.true)) (stands_closed arrivals held s)

pub returns-clause-stands : goal.returns-clause-stands
returns-clause-stands c = λ arrivals s.
    let h = c.self.inside in
    stands_closed arrivals (record { terms = record { job = h.job; ranges = h.ranges; workers = h.workers }; closed = h.closed; taken = h.taken.items })
    (subst (StandsFor arrivals) (sym c.self.view_is) s)
