use Rattle.std.proofs.Common.{◌∙◌, arith, slice_index, sym}
use Rattle.std.proofs.lemmas.Nat.Bits.{shr_and_one}
use Rattle.code_core.proofs.CornerLemmas.{cell_bit}
use Rattle.code_core.proofs.wechsler.one_at.Goals as goal

pub returns-clause-value : goal.returns-clause-value
returns-clause-value c = λ cells boxed.
    shr_and_one (slice_index c.args.rows.now c.args.y) c.args.x
    ∙ sym (cell_bit cells c.args.bounds c.args.rows.now c.args.x c.args.y boxed (omega (arith, c.requires.column)) (omega (arith, c.requires.row)))
