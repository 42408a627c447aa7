use Rattle.std.proofs.Common.{sym, subst, arith, List}
use Rattle.ranges.specs.declared.range.Range.{Range}
use Rattle.ranges.proofs.RangeLemmas.{Joining, all_joined, gap_at, latest_below, next_below_at, start_from, touch_at}
use Rattle.ranges.proofs.range.joined.Goals as goal
use Rattle.ranges.proofs.range.joined.Goals.{then-latest-range, else-latest-range+in_ok-push}

pub loop-range-init : goal.loop-range-init
loop-range-init c =
    subst (λ (done : List Range). Joining c.args.ascending.now done c.in-Some.first.now c.in-Some.more.now) (sym c.new-joined.ensures.items)
    (start_from _ _ _ c.in-Some.ensures.cases.0 c.requires.ascending c.requires.below)

pub overflow_add-latest : goal.overflow_add-latest
overflow_add-latest c = let low = latest_below _ _ _ _ c.loop-range.invariant in omega arith

pub overflow_add-latest-then-latest-range : goal.overflow_add-latest-then-latest-range
overflow_add-latest-then-latest-range c =
    let low = next_below_at c.args.ascending.now c.loop-range.joined.items c.loop-range.latest c.in-Some.more.now c.loop-range.range-index
    (record { first = 0; count = 0 }) c.loop-range-test.true c.loop-range.invariant in
    let own = latest_below _ _ _ _ c.loop-range.invariant in
    omega arith

pub loop-range-preserved : goal.loop-range-preserved
loop-range-preserved c = elim c.if-latest-range.branch [
  | then-latest-range w ↦
      rw (w.joined-is, w.latest-is) (touch_at c.args.ascending.now c.loop-range.joined.items c.loop-range.latest c.in-Some.more.now c.loop-range.range-index
      (record { first = 0; count = 0 }) c.loop-range-test.true w.if-latest-range.true c.loop-range.invariant)
  | else-latest-range+in_ok-push w ↦
      rw (w.joined-is, w.latest-is, w.in_ok-push.ensures.items)
      (gap_at c.args.ascending.now c.loop-range.joined.items c.loop-range.latest c.in-Some.more.now c.loop-range.range-index
      (record { first = 0; count = 0 }) c.loop-range-test.true (λ e. w.if-latest-range.false e) c.loop-range.invariant)
]

pub returns-clause-form : goal.returns-clause-form
returns-clause-form c =
    (all_joined c.args.ascending.now c.loop-range.joined.items _ c.in-Some.more.now c.loop-range.latest c.loop-range.range-index c.loop-range-test.false
    c.loop-range.invariant c.in_ok-push-2.ensures.items).0

pub returns-clause-size : goal.returns-clause-size
returns-clause-size c =
    (all_joined c.args.ascending.now c.loop-range.joined.items _ c.in-Some.more.now c.loop-range.latest c.loop-range.range-index c.loop-range-test.false
    c.loop-range.invariant c.in_ok-push-2.ensures.items).1

pub returns-clause-below : goal.returns-clause-below
returns-clause-below c =
    (all_joined c.args.ascending.now c.loop-range.joined.items _ c.in-Some.more.now c.loop-range.latest c.loop-range.range-index c.loop-range-test.false
    c.loop-range.invariant c.in_ok-push-2.ensures.items).2
