use Rattle.std.proofs.Common.{◌≡◌, ◌<◌, refl, sym, subst, ℕ, arith, length}
use Rattle.survey_core.specs.rest.Grouping.{Coarser}
use Rattle.survey_core.proofs.lemmas.rest.GroupingLemmas.{places_more, renamed_coarser, renamed_numbers, renamed_pair, stay_default}
use Rattle.survey_core.proofs.rest.groups.join.Goals as goal

-- the case of two envelopes that stay apart
pub loop-other-preserved-then-apart : goal.loop-other-preserved-then-apart
loop-other-preserved-then-apart c =
    let before = c.loop-other.invariant in
    record {
      numbers = before.numbers;
      coarser = before.coarser;
      apart = places_more c.args.horizon c.args.envelopes.now c.loop-other.groups c.loop-other.groups c.args.place c.loop-other.other c.requires.place
          before.numbers.count c.loop-other-test.true (λ a b low there ne. ne) before.apart
          (λ d ne. stay_default c.args.horizon c.args.envelopes.now c.args.place c.loop-other.other d _ _ c.requires.place
          (let place : c.args.place < length c.args.envelopes.now = c.requires.place in
          let other : c.loop-other.other < c.args.place = c.loop-other-test.true in omega arith) (c.stay_apart-apart.ensures c.if-apart.true));
    }

-- the case of two envelopes that may meet, so that their groups become one
pub loop-other-preserved : goal.loop-other-preserved
loop-other-preserved c =
    let before = c.loop-other.invariant in
    let now = c.loop-other.groups in
    let new = c.rename.new.groups in
    let place : c.args.place < length c.args.envelopes.now = c.requires.place in
    let other : c.loop-other.other < c.args.place = c.loop-other-test.true in
    let there : c.args.place < length now = subst (λ (n : ℕ). c.args.place < n) (sym before.numbers.count) place in
    let other_there : c.loop-other.other < length now = subst (λ (n : ℕ). c.loop-other.other < n) (sym before.numbers.count) (omega (arith, place, other)) in
    let same : length c.args.groups.now ≡ length now = sym c.loop-other.auto.groups in
    let coarser : Coarser now new = renamed_coarser now new _ _ c.rename.ensures in
    record {
      numbers = renamed_numbers c.args.envelopes.now now new _ _ c.rename.ensures c.rename.auto.groups
          (before.numbers.below c.loop-other.other 0 other_there) before.numbers;
      coarser = λ a b low high ne. before.coarser a b low high
          (coarser a b (subst (λ (n : ℕ). a < n) same low) (subst (λ (n : ℕ). b < n) same high) ne);
      apart = places_more c.args.horizon c.args.envelopes.now now new c.args.place c.loop-other.other place before.numbers.count other coarser before.apart
          (λ d ne. absurd (ne (renamed_pair now new _ _ c.args.place c.loop-other.other c.rename.ensures there other_there refl refl)));
    }

pub returns-clause-apart : goal.returns-clause-apart
returns-clause-apart c = λ j low. c.loop-other.invariant.apart j (omega arith)
