use Rattle.std.proofs.Common.{arith, refl}
use Rattle.std.proofs.lemmas.Bool.{eqb-true}
use Rattle.plane_core.proofs.lemmas.one_sided.NeverRecursLemmas.{alike_more, all_alike}
use Rattle.plane_core.proofs.windows.window_queries.are_alike.Goals as goal

pub loop-k-init : goal.loop-k-init
loop-k-init g c m j i low = absurd (omega arith)

pub loop-k-preserved : goal.loop-k-preserved
loop-k-preserved g c =
    alike_more c.args.one.now c.args.other.now c.loop-k.differ c.marked-differ.result _ _ c.loop-k.k c.loop-k.invariant refl refl
    c.marked-differ.ensures.before c.marked-differ.ensures.same

pub returns : goal.returns
returns g c = λ e.
    all_alike g.row.N c.args.one.now c.args.other.now c.loop-k.differ c.in_any_lane.result c.loop-k.k c.loop-k.invariant (omega arith)
    c.in_any_lane.ensures (eqb-true _ 0 e)
