use Rattle.std.proofs.Common.{◌≡◌}
use Rattle.survey_core.specs.shapes.Envelopes.{StayClear, times}
use Rattle.survey_core.proofs.shapes.envelope_bounds.are_clear_for.Given as goal

abbrev pub invariant-loop : goal.invariant-loop
invariant-loop l = record {
  x : l.offset.x ≡ times l.counter l.step.x;
  y : l.offset.y ≡ times l.counter l.step.y;
  clear : StayClear l.counter l.one l.other;
}
