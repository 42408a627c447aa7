use Rattle.std.proofs.Common.{arith}
use Rattle.plane_core.proofs.lemmas.plane.OrderLemmas.{some_of}
use Rattle.plane_core.proofs.engine.board.Board.small_clusters.Goals as goal

pub bounds-boxes-bounds-index : goal.bounds-boxes-bounds-index
bounds-boxes-bounds-index c = c.loop-bounds-test.true

pub add_grown-requires : goal.add_grown-requires
add_grown-requires c = c.in-Some.ensures.frame

pub loop-bounds-preserved : goal.loop-bounds-preserved
loop-bounds-preserved c =
    c.in_ok-add_grown.ensures c.args.self.now.cells c.in-Some.ensures.order
    (λ r i a b d e. c.in-Some.ensures.shown r i (omega (arith, b)) (omega (arith, e))) c.loop-bounds.invariant

pub returns : goal.returns
returns c = c.loop-bounds.invariant

pub overflow_sub-tries : goal.overflow_sub-tries
overflow_sub-tries c = some_of _ c.if-tries-eq0.false
