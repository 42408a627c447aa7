use Rattle.std.proofs.Common.{arith}
use Rattle.std.proofs.lemmas.Int.{ints}
use Rattle.plane_core.proofs.lemmas.engine.DirectionLemmas.{one_bit}
use Rattle.std.proofs.Common.{ap, of_z, rules, sym, w32}
use Rattle.plane_core.proofs.lemmas.plane.CoordinateLemmas.{more_by, same_passed, too_far}
use Rattle.plane_core.proofs.lemmas.engine.DirectionLemmas.{no_bit}
use Rattle.plane_core.proofs.engine.board.reach.bit_of.Goals.{then-cell-first-via-then-cell-first, then-cell-first-via-else-cell-first+then-cell-first-2}
use Rattle.plane_core.proofs.engine.board.reach.bit_of.Goals as goal

pub returns : goal.returns
returns c = λ i low.
    one_bit c.args.first c.args.cell c.abs_diff-column.result i c.if-column-ge64.false
    (same_passed c.args.cell.y c.args.first.y (search rules) (search rules) c.if-cell-first.false)
    (more_by c.args.cell.x c.args.first.x _ (search rules) (search rules) c.if-cell-first-2.false c.abs_diff-column.ensures)

pub returns-then-cell-first : goal.returns-then-cell-first
returns-then-cell-first c i low =
    no_bit c.args.first c.args.cell i (λ row across. elim c.then-cell-first.branch [
      | then-cell-first-via-then-cell-first w ↦ absurd (w.if-cell-first.true (ap (of_z w32) (sym row)))
      | then-cell-first-via-else-cell-first+then-cell-first-2 w ↦ omega (arith, ints, across, w.if-cell-first-2.true)
    ])

pub returns-then-column-ge64 : goal.returns-then-column-ge64
returns-then-column-ge64 c i low =
    no_bit c.args.first c.args.cell i (λ row across.
    too_far c.args.cell.x c.args.first.x _ i
    (more_by c.args.cell.x c.args.first.x _ (search rules) (search rules) c.if-cell-first-2.false c.abs_diff-column.ensures) c.if-column-ge64.true low across)
