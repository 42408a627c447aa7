use Rattle.std.proofs.Common.{◌≡◌, ◌∙◌, ◌+◌, ◌↔◌, IsTrue, arith, length, nat_eq, subst, sym}
use Rattle.std.proofs.lemmas.Bool.{eq-eqb, eqb-true}
use Rattle.haul_core.specs.Books.{Held}
use Rattle.haul_core.specs.Keeping.{numbers_in}
use Rattle.haul_core.specs.Missing.{AreAll, IsComplete, missing_of}
use Rattle.haul_core.proofs.MissingLemmas.{all_taken, complete_from, missing_counted, none_missing}
use Rattle.haul_core.proofs.book.haul.Haul.is_complete.Goals as goal

pub returns-clause-complete : goal.returns-clause-complete
returns-clause-complete c =
    let h = c.self.inside in
    let k = c.self.invariant in
    let all : length (missing_of h.ranges h.taken.items) + length h.taken.items ≡ h.count =
    missing_counted h.ranges h.taken.items k.normal k.within k.distinct ∙ sym k.size in
    let long : c.len.result ≡ length h.taken.items = c.len.ensures ∙ h.taken.ok.0 in
    subst (λ (held : Held). IsTrue (nat_eq h.count c.len.result) ↔ IsComplete held.terms.ranges held.taken) c.self.view_is (
      λ e. complete_from h.ranges h.taken.items k.normal (omega (arith, eqb-true h.count c.len.result e)),
      λ complete. eq-eqb h.count c.len.result (omega (arith, none_missing h.ranges h.taken.items k.normal complete)),
    )

pub returns-clause-all : goal.returns-clause-all
returns-clause-all c =
    let h = c.self.inside in
    let k = c.self.invariant in
    let all : length (missing_of h.ranges h.taken.items) + length h.taken.items ≡ h.count =
    missing_counted h.ranges h.taken.items k.normal k.within k.distinct ∙ sym k.size in
    let long : c.len.result ≡ length h.taken.items = c.len.ensures ∙ h.taken.ok.0 in
    subst (λ (held : Held). IsTrue (nat_eq h.count c.len.result) → AreAll held.terms.ranges (numbers_in held.taken)) c.self.view_is
    (λ e. all_taken h.ranges h.taken.items k.within k.distinct
    (complete_from h.ranges h.taken.items k.normal (omega (arith, eqb-true h.count c.len.result e))))
