use Rattle.std.proofs.Common.{◌≤◌, arith, get_or, subst, ℕ}
use Rattle.plane_core.specs.plane.Cells.{king_distance}
use Rattle.plane_core.proofs.lemmas.engine.WindowRoundLemmas.{default_cell}
use Rattle.survey_core.proofs.lemmas.rest.ApartLemmas.{is_far_more}
use Rattle.survey_core.proofs.rest.alone.is_apart.Goals as goal

pub loop-other-preserved : goal.loop-other-preserved
loop-other-preserved c =
    let far : 3 ≤ king_distance c.args.cell (get_or c.args.others.now c.loop-other.other-index default_cell) =
    subst (λ (n : ℕ). 3 ≤ n) c.king_distance.ensures (omega (arith, c.if-king_distance-lt3.false)) in
    is_far_more c.args.cell c.args.others.now c.loop-other.other-index default_cell c.loop-other-test.true far c.loop-other.invariant
