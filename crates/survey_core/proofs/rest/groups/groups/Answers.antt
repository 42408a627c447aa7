use Rattle.std.proofs.Common.{◌≡◌, ◌∙◌, ◌++◌, List, ℕ, arith, drop, length, set, subst, sym, take}
use Rattle.std.proofs.lemmas.List.{length-set, take-append-le, take_all}
use Rattle.survey_core.specs.rest.Grouping.{AreNumbers, Coarser}
use Rattle.survey_core.proofs.lemmas.rest.GroupingLemmas.{numbered, numbered_pairs, pairs_more}
use Rattle.survey_core.proofs.rest.groups.groups.Goals as goal

all_new : (n : ℕ) (xs ws : List ℕ) → length ws ≡ n → take n (ws ++ xs) ≡ ws
all_new n xs ws e = take-append-le n ws xs (omega (arith, e)) ∙ take_all n ws (omega (arith, e))

pub join-requires-clause-numbers : goal.join-requires-clause-numbers
join-requires-clause-numbers c =
    subst (AreNumbers c.args.envelopes.now) (sym c.as_mut_slice.ensures.value)
    (numbered c.args.envelopes.now c.loop-place.groups.items c.loop-place.place c.loop-place-test.true c.loop-place.invariant.numbers)

pub loop-place-preserved : goal.loop-place-preserved
loop-place-preserved c =
    let old = c.loop-place.groups in
    let place = c.loop-place.place in
    let own = set old.items place place in
    let new = c.join.new.groups in
    let long : length new ≡ old.len = c.join.auto.groups ∙ c.as_mut_slice.ensures.len in
    let coarser : Coarser own new = subst (λ (gs : List ℕ). Coarser gs new) c.as_mut_slice.ensures.value c.join.ensures.coarser in
    rw (all_new old.len (drop (length new) own) new long) record {
      numbers = c.join.ensures.numbers;
      apart = pairs_more c.args.horizon c.args.envelopes.now own new place c.loop-place-test.true
          (length-set old.items place place ∙ c.loop-place.invariant.numbers.count) coarser
          (numbered_pairs c.args.horizon c.args.envelopes.now old.items place c.loop-place.invariant.apart) c.join.ensures.apart;
    }

pub returns : goal.returns
returns c = record { numbers = c.loop-place.invariant.numbers; apart = λ i j lt low. c.loop-place.invariant.apart i j lt (omega arith) }
