use Rattle.std.proofs.Common.{◌∙◌, ◌≤◌, sym, subst, refl, arith, count_by}
use Rattle.std.proofs.lemmas.Bool.{false≢true}
use Rattle.std.proofs.lemmas.List.{take_all}
use Rattle.ranges.specs.Ranges.{is_in_range}
use Rattle.ranges.proofs.RangeLemmas.{overlap_met, unmet_more}
use Rattle.ranges.proofs.range.overlap.Goals as goal

pub returns-then-met : goal.returns-then-met
returns-then-met c = (λ _. overlap_met _ _ _ c.loop-place-test.true (sym c.shares_any-met.ensures ∙ c.if-met.true), λ _. refl)

pub loop-place-preserved : goal.loop-place-preserved
loop-place-preserved c = unmet_more _ _ _ c.loop-place-test.true (sym c.shares_any-met.ensures ∙ c.if-met.false) c.loop-place.invariant

pub returns : goal.returns
returns c = (
  λ e. absurd (false≢true e),
  λ two.
      let all = take_all c.loop-place.place c.args.ranges.now c.loop-place-test.false in
      let few : count_by (is_in_range two.0) c.args.ranges.now ≤ 1 =
      subst (λ ranges. count_by (is_in_range two.0) ranges ≤ 1) all (c.loop-place.invariant two.0) in
      absurd (omega (arith, two.1)),
)
