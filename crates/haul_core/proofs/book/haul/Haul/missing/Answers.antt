use Rattle.std.proofs.Common.{◌≡◌, ◌<◌, ◌≤◌, ◌+◌, ◌^◌, ◌∙◌, ℕ, All, IfOk, List, ap, arith, filter, length, subst, sym}
use Rattle.std.specs.List.Sorted.{IsStrictlyIncreasing}
use Rattle.std.proofs.lemmas.Result.{IfOk-weaker}
use Rattle.ranges.specs.declared.range.Range.{Range}
use Rattle.haul_core.specs.Books.{Held}
use Rattle.haul_core.specs.Missing.{missing_of, numbers_of}
use Rattle.haul_core.specs.MissingSteps.{has_no_worker}
use Rattle.ranges.specs.Ranges.{AreBelow, AreNormal, number_bound}
use Rattle.haul_core.proofs.MissingLemmas.{missing_ascends, missing_below, missing_counted, same_missing}
use Rattle.haul_core.proofs.book.haul.Haul.missing.Goals as goal

pub returns-clause-missing : goal.returns-clause-missing
returns-clause-missing c =
    let h = c.self.inside in
    let workers : List (ℕ × ℕ) = h.worker_of.entries in
    let listed : filter (has_no_worker workers) (numbers_of c.as_slice.result.now) ≡ missing_of h.ranges h.taken.items =
    ap (λ (ranges : List Range). filter (has_no_worker workers) (numbers_of ranges)) c.as_slice.ensures.ranges
    ∙ same_missing h.ranges h.taken.items workers c.self.invariant.by_number in
    subst (λ (held : Held). IfOk c.missing.result (λ missing. missing.items ≡ missing_of held.terms.ranges held.taken)) c.self.view_is
    (subst (λ (numbers : List ℕ). IfOk c.missing.result (λ missing. missing.items ≡ numbers)) listed c.missing.ensures)

pub returns-clause-ascending : goal.returns-clause-ascending
returns-clause-ascending c =
    let now = c.args.self.now in
    let normal : AreNormal now.terms.ranges = subst (λ (held : Held). AreNormal held.terms.ranges) c.self.view_is c.self.invariant.normal in
    IfOk-weaker c.missing.result (λ missing. missing.items ≡ missing_of now.terms.ranges now.taken) (λ missing. IsStrictlyIncreasing missing.items)
    (λ missing is. subst IsStrictlyIncreasing (sym is) (missing_ascends now.terms.ranges now.taken normal)) (returns-clause-missing c)

pub returns-clause-below : goal.returns-clause-below
returns-clause-below c =
    let now = c.args.self.now in
    let below : AreBelow number_bound now.terms.ranges = subst (λ (held : Held). AreBelow number_bound held.terms.ranges) c.self.view_is c.self.invariant.below in
    IfOk-weaker c.missing.result (λ missing. missing.items ≡ missing_of now.terms.ranges now.taken) (λ missing. All (λ n. n < number_bound) missing.items)
    (λ missing is. subst (All (λ n. n < number_bound)) (sym is) (missing_below number_bound now.terms.ranges now.taken below)) (returns-clause-missing c)

pub returns-clause-few : goal.returns-clause-few
returns-clause-few c = λ open_.
    let h = c.self.inside in
    let k = c.self.invariant in
    let now = c.args.self.now in
    let small : h.count ≤ 2 ^ 24 = k.few (ap (λ (held : Held). held.closed) c.self.view_is ∙ open_) in
    let counted : length (missing_of h.ranges h.taken.items) + length h.taken.items ≡ h.count =
    missing_counted h.ranges h.taken.items k.normal k.within k.distinct ∙ sym k.size in
    let same : length (missing_of h.ranges h.taken.items) ≡ length (missing_of now.terms.ranges now.taken) =
    ap (λ (held : Held). length (missing_of held.terms.ranges held.taken)) c.self.view_is in
    IfOk-weaker c.missing.result (λ missing. missing.items ≡ missing_of now.terms.ranges now.taken) (λ missing. length missing.items ≤ 2 ^ 24)
    (λ missing is. let long = ap length is in omega (arith, small, counted, same, long)) (returns-clause-missing c)
