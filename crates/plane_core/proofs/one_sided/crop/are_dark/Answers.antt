use Rattle.std.proofs.Common.{arith, below_more, slice_index}
use Rattle.std.proofs.lemmas.Bool.{eqb-true}
use Rattle.std.proofs.lemmas.Nat.{le_or_l, le_or_r}
use Rattle.plane_core.proofs.one_sided.crop.are_dark.Goals as goal

pub loop-r-init : goal.loop-r-init
loop-r-init c q low from = absurd (omega (arith, low, from))

pub loop-r-preserved : goal.loop-r-preserved
loop-r-preserved c =
    let here = slice_index c.args.rows.now c.loop-r.r in
    below_more _ _ (λ q low from. omega (arith, c.loop-r.invariant q low from, le_or_l c.loop-r.all here)) (λ from. le_or_r c.loop-r.all here)

pub returns : goal.returns
returns c = λ e r from low.
    omega (arith, c.loop-r.invariant r (omega (arith, low, c.loop-r-test.false)) from, eqb-true c.loop-r.all 0 e)
