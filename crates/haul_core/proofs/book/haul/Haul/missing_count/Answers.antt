use Rattle.std.proofs.Common.{◌≡◌, ◌∙◌, ◌+◌, ◌-◌, ◌↔◌, arith, length, subst, sym}
use Rattle.haul_core.specs.Books.{Held}
use Rattle.haul_core.specs.Missing.{IsComplete, missing_of}
use Rattle.haul_core.proofs.MissingLemmas.{complete_from, missing_counted, none_missing}
use Rattle.haul_core.proofs.book.haul.Haul.missing_count.Goals as goal

pub overflow_sub-result : goal.overflow_sub-result
overflow_sub-result c =
    let h = c.self.inside in
    let k = c.self.invariant in
    let all : length (missing_of h.ranges h.taken.items) + length h.taken.items ≡ h.count =
    missing_counted h.ranges h.taken.items k.normal k.within k.distinct ∙ sym k.size in
    let long : c.len.result ≡ length h.taken.items = c.len.ensures ∙ h.taken.ok.0 in
    omega arith

pub returns-clause-count : goal.returns-clause-count
returns-clause-count c =
    let h = c.self.inside in
    let k = c.self.invariant in
    let all : length (missing_of h.ranges h.taken.items) + length h.taken.items ≡ h.count =
    missing_counted h.ranges h.taken.items k.normal k.within k.distinct ∙ sym k.size in
    let long : c.len.result ≡ length h.taken.items = c.len.ensures ∙ h.taken.ok.0 in
    subst (λ (held : Held). h.count - c.len.result ≡ length (missing_of held.terms.ranges held.taken)) c.self.view_is (omega arith)

pub returns-clause-none : goal.returns-clause-none
returns-clause-none c =
    let h = c.self.inside in
    let k = c.self.invariant in
    let all : length (missing_of h.ranges h.taken.items) + length h.taken.items ≡ h.count =
    missing_counted h.ranges h.taken.items k.normal k.within k.distinct ∙ sym k.size in
    let long : c.len.result ≡ length h.taken.items = c.len.ensures ∙ h.taken.ok.0 in
    subst (λ (held : Held). (h.count - c.len.result ≡ 0) ↔ IsComplete held.terms.ranges held.taken) c.self.view_is (
      λ none. complete_from h.ranges h.taken.items k.normal (omega (arith, none)),
      λ complete. let empty = none_missing h.ranges h.taken.items k.normal complete in omega arith,
    )
