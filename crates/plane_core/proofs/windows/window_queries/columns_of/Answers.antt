use Rattle.std.proofs.Common.{arith, refl}
use Rattle.std.proofs.lemmas.Simd.{get_or-replicate}
use Rattle.plane_core.proofs.lemmas.one_sided.NeverRecursLemmas.{columns_joined, joined_more, none_joined, whole_joined}
use Rattle.plane_core.proofs.windows.window_queries.columns_of.Goals as goal

pub loop-k-init : goal.loop-k-init
loop-k-init g c = none_joined c.args.window.now _ (λ j low. get_or-replicate 4 j 0 0 low)

pub loop-k-preserved : goal.loop-k-preserved
loop-k-preserved g c = joined_more c.args.window.now c.loop-k.all c.either-all.result _ c.loop-k.k c.loop-k.invariant refl
    c.either-all.ensures.vector c.either-all.ensures.bits

pub returns-clause-columns : goal.returns-clause-columns
returns-clause-columns g c = columns_joined g.row.N c.args.window.now c.loop-k.all c.in_any_lane.result c.loop-k.k c.loop-k.invariant
    (omega arith) c.in_any_lane.ensures

pub returns-clause-whole : goal.returns-clause-whole
returns-clause-whole g c = whole_joined g.row.N c.args.window.now c.loop-k.all c.loop-k.k c.loop-k.invariant (omega arith)
