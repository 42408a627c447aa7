use Rattle.std.proofs.Common.{All, List, arith, get_or, subst}
use Rattle.plane_core.specs.declared.plane.cell.Cell.{Cell}
use Rattle.plane_core.specs.plane.Bounds.{IsWithin}
use Rattle.survey_core.proofs.lemmas.shapes.EnvelopeLemmas.{phases_more}
use Rattle.survey_core.proofs.shapes.envelope_bounds.EnvelopeBounds.of.Goals as goal

pub loop-phase-init : goal.loop-phase-init
loop-phase-init c = λ g none low. absurd (omega arith)

pub loop-phase-preserved : goal.loop-phase-preserved
loop-phase-preserved c =
    phases_more c.as_slice-phases.result.now c.loop-phase.phase-index c.loop-phase.bounds c.joined-bounds.result c.box_round.result c.phase-item.result
    c.loop-phase-test.true c.phase-item.is c.joined-bounds.ensures.one c.joined-bounds.ensures.other c.box_round.ensures c.loop-phase.invariant

pub returns-clause-within : goal.returns-clause-within
returns-clause-within c = λ g none low.
    subst (λ (phases : List (List Cell)). All (IsWithin c.loop-phase.bounds) (get_or phases g none)) c.as_slice-phases.ensures.value
    (c.loop-phase.invariant g none (omega arith))
