use Rattle.std.proofs.Common.{◌∙◌, ℕ, ap, arith}
use Rattle.std.specs.Int.{bit_at}
use Rattle.std.proofs.lemmas.Bool.{eqb-true}
use Rattle.std.proofs.lemmas.Nat.Bits.{bit_at-zero}
use Rattle.plane_core.proofs.lemmas.engine.NextListingLemmas.{rows_more}
use Rattle.plane_core.proofs.engine.board.next_pattern.is_empty.Goals as goal

pub loop-r-init : goal.loop-r-init
loop-r-init c i none r low = absurd (omega arith)

pub loop-r-preserved : goal.loop-r-preserved
loop-r-preserved c = rows_more c.args.rows.now c.loop-r.r c.loop-r.all c.loop-r.invariant

pub returns : goal.returns
returns c = λ e r i low. c.loop-r.invariant i (ap (λ (w : ℕ). bit_at w i) (eqb-true c.loop-r.all 0 e) ∙ bit_at-zero i) r (omega arith)
