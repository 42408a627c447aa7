use Rattle.std.proofs.Common.{◌<◌, ℕ, All, List, get_or}
use Rattle.plane_core.specs.declared.plane.cell.Cell.{Cell}
use Rattle.plane_core.specs.plane.Bounds.{IsWithin}
use Rattle.survey_core.proofs.shapes.envelope_bounds.EnvelopeBounds.of.Given as goal

abbrev pub invariant-loop-phase : goal.invariant-loop-phase
invariant-loop-phase l = (g : ℕ) (none : List Cell) → g < l.phase-index → All (IsWithin l.bounds) (get_or l.phases g none)
