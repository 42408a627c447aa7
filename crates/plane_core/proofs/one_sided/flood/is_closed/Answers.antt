use Rattle.std.proofs.Common.{ℕ, ap, ◌∙◌, arith, below_more, bit_and, bit_xor, slice_index}
use Rattle.std.specs.Int.{bit_at}
use Rattle.std.proofs.lemmas.Bool.{eqb-true}
use Rattle.std.proofs.lemmas.Nat.Bits.{bit_at-zero}
use Rattle.plane_core.proofs.lemmas.one_sided.FloodLemmas.{below_64, between, not_missing, one_and, or_none}
use Rattle.plane_core.proofs.one_sided.flood.is_closed.Goals as goal

pub loop-r-init : goal.loop-r-init
loop-r-init c j none inside q low least = absurd (omega arith)

pub loop-r-preserved : goal.loop-r-preserved
loop-r-preserved c j none inside =
    let q = c.loop-r.r in
    let row = slice_index c.args.rows.now q in
    let here = slice_index c.args.flood.now q in
    let found = bit_and c.beside-in-loop-r.result row in
    let both = or_none c.loop-r.all (bit_and found (bit_xor found here)) j none in
    below_more _ _ (c.loop-r.invariant j both.0 inside)
    (λ least r i lit near column cell.
    let shown = c.near_rows.ensures.all r i near lit in
    let small = below_64 c.near_rows.result i (omega arith) shown in
    let middle = between j i inside column small in
    let wide = c.beside.ensures.all middle.0 i middle.1 middle.3 shown in
    let wider = c.beside-in-loop-r.ensures.all j middle.0 inside middle.2 wide in
    not_missing found here j both.1 (one_and c.beside-in-loop-r.result row j wider cell))

pub returns : goal.returns
returns c = λ e q j least low inside.
    c.loop-r.invariant j (ap (λ (w : ℕ). bit_at w j) (eqb-true c.loop-r.all 0 e) ∙ bit_at-zero j) inside q (omega arith) least
