use Rattle.std.proofs.Common.{arith, length, ◌≤◌}
use Rattle.haul_core.proofs.SampleLemmas.{putting_high, putting_low}
use Rattle.haul_core.proofs.book.samples.put.Goals as goal
use Rattle.haul_core.proofs.book.samples.put.Goals.{then-left-kept, else-left-kept}

pub loop-place-preserved : goal.loop-place-preserved
loop-place-preserved c =
    let few : c.args.count ≤ length c.args.numbers.now = omega (arith, c.told-numbers) in
    elim c.if-left-kept.branch [
      | then-left-kept w ↦ rw (w.numbers-is, w.left-is)
          (putting_low c.args.numbers.now c.args.count c.args.number c.loop-place.numbers c.loop-place.left c.loop-place.place few c.loop-place-test.true
          w.if-left-kept.true c.loop-place.invariant)
      | else-left-kept w ↦ rw (w.numbers-is, w.left-is)
          (putting_high c.args.numbers.now c.args.count c.args.number c.loop-place.numbers c.loop-place.left c.loop-place.place few c.loop-place-test.true
          w.if-left-kept.false c.loop-place.invariant)
    ]
