use Rattle.std.proofs.Common.{arith}
use Rattle.plane_core.proofs.lemmas.engine.WindowRoundLemmas.{default_cell}
use Rattle.survey_core.proofs.lemmas.rest.ApartLemmas.{all_far, far_more}
use Rattle.survey_core.proofs.rest.alone.are_cells_apart.Goals as goal

pub loop-cell-init : goal.loop-cell-init
loop-cell-init c = λ i e d low. absurd (omega arith)

pub loop-cell-preserved : goal.loop-cell-preserved
loop-cell-preserved c =
    far_more c.loop-cell.cell-index c.args.cells.now c.args.others.now default_cell c.loop-cell-test.true c.loop-cell.invariant
    (c.is_apart-apart.ensures c.if-not-apart.false)

pub returns : goal.returns
returns c = λ e. all_far c.loop-cell.cell-index c.args.cells.now c.args.others.now c.loop-cell-test.false c.loop-cell.invariant
