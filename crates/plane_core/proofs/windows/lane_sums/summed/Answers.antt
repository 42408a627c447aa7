use Rattle.std.proofs.Common.{arith}
use Rattle.plane_core.proofs.lemmas.windows.LaneLemmas.{lane_joined}
use Rattle.plane_core.proofs.windows.lane_sums.summed.Goals as goal

pub returns : goal.returns
returns c j i low =
    let low_sum = c.added-low.result in
    let high_sum = c.added-high.result in
    omega (
      arith,
      c.added-low.ensures j i low,
      c.added-high.ensures j i low,
      lane_joined low_sum.ones low_sum.twos high_sum.ones high_sum.twos j i (omega arith) (omega arith) (omega arith) low,
    )
