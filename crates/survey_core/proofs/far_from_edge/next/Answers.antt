use Rattle.std.proofs.Common.{◌∙◌, sym, arith}
use Rattle.std.proofs.lemmas.Bool.{false≢true}
use Rattle.plane_core.specs.plane.Refusals.{RefusesStep}
use Rattle.plane_core.specs.declared.generation.StepError.TheVariants.{Edge}
use Rattle.plane_core.proofs.lemmas.plane.SpeedLemmas.{inside_edge}
use Rattle.survey_core.proofs.far_from_edge.next.Goals as goal

-- the step isn't refused at the edge, because no cell touches the edge
pub refusal-requires : goal.refusal-requires
refusal-requires c = record {
  inland = λ edge.
      let on : RefusesStep c.args.pattern.now Edge = rw edge at c.in-Err.ensures.refused in
      false≢true (sym (inside_edge c.args.pattern.now 999999 (omega arith) c.requires) ∙ on);
}
