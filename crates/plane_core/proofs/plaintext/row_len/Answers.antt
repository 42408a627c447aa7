use Rattle.std.proofs.Common.{◌≡◌, add-one, get_or, pos, rules, true, of_z, to_z, w32}
use Rattle.std.proofs.lemmas.Int.{to_z-of_z}
use Rattle.std.specs.Ordering.{int_eq}
use Rattle.plane_core.proofs.lemmas.plaintext.PlaintextWalks.{other_bits, same_bits, walked-on, walked-off, walked-all}
use Rattle.plane_core.proofs.plaintext.row_len.Goals as goal

pub loop-len-preserved : goal.loop-len-preserved
loop-len-preserved c =
    let y = to_z w32 (of_z w32 c.args.y) in
    let here : int_eq (get_or c.args.cells.now c.loop-len.len (record { y = pos 0; x = pos 0 })).y y ≡ true =
    same_bits _ c.args.y (search rules) c.if-cells-len.true in
    (rw add-one c.loop-len-test.true, walked-on y c.args.cells.now c.loop-len.len (record { y = pos 0; x = pos 0 }) c.loop-len-test.true here c.loop-len.invariant.1)

pub returns-after-loop-len-clause-value : goal.returns-after-loop-len-clause-value
returns-after-loop-len-clause-value c =
    walked-all c.args.y c.args.cells.now c.loop-len.len c.loop-len-test.false (rw (to_z-of_z w32 c.args.y c.ranges.y) at c.loop-len.invariant.1)

pub returns-else-cells-len-clause-value : goal.returns-else-cells-len-clause-value
returns-else-cells-len-clause-value c =
    walked-off c.args.y c.args.cells.now c.loop-len.len (record { y = pos 0; x = pos 0 }) c.loop-len-test.true (other_bits _ c.args.y c.if-cells-len.false)
    (rw (to_z-of_z w32 c.args.y c.ranges.y) at c.loop-len.invariant.1)
