use Rattle.std.proofs.Common.{◌∙◌, ◌+◌, ◌≤◌, ap, sym, arith, get_or}
use Rattle.std.proofs.lemmas.List.Elements.{All-more}
use Rattle.std.proofs.lemmas.List.Sums.{sum_by_more}
use Rattle.ranges.specs.declared.range.Range.{Range}
use Rattle.ranges.specs.Ranges.{end_of, number_bound}
use Rattle.ranges.proofs.range.small_size.Goals as goal

pub loop-range-preserved : goal.loop-range-preserved
loop-range-preserved c =
    let none : Range = record { first = 0; count = 0 } in
    record {
      size = ap (λ n. n + (get_or c.args.ranges.now c.loop-range.range-index none).count) c.loop-range.invariant.size
          ∙ sym (sum_by_more (λ (r : Range). r.count) c.args.ranges.now c.loop-range.range-index none c.loop-range-test.true);
      few = let few = c.loop-range.invariant.few in omega arith;
      below = All-more (λ r. end_of r ≤ number_bound) c.args.ranges.now c.loop-range.range-index none c.loop-range-test.true c.loop-range.invariant.below
          (c.is_below-below.ensures.0 c.if-not-below.false);
    }
