use Rattle.std.proofs.Common.{ℕ, ap, ◌∙◌, arith, below_more}
use Rattle.std.specs.Int.{bit_at}
use Rattle.std.proofs.lemmas.Bool.{eqb-true}
use Rattle.std.proofs.lemmas.Nat.Bits.{bit_at-zero}
use Rattle.plane_core.proofs.lemmas.one_sided.FloodLemmas.{or_none, rows_inside}
use Rattle.plane_core.proofs.one_sided.flood.lies_inside.Goals as goal

pub loop-r-init : goal.loop-r-init
loop-r-init c i none r low = absurd (omega arith)

pub loop-r-preserved : goal.loop-r-preserved
loop-r-preserved c i none =
    let both = or_none c.loop-r.all c.outside-all.result i none in
    below_more _ _ (c.loop-r.invariant i both.0) (c.outside-all.ensures i both.1)

pub returns : goal.returns
returns c = λ e.
    rows_inside c.args.flood.now (omega arith)
    (λ r low i one. c.loop-r.invariant i (ap (λ (w : ℕ). bit_at w i) (eqb-true c.loop-r.all 0 e) ∙ bit_at-zero i) r (omega arith) one)
