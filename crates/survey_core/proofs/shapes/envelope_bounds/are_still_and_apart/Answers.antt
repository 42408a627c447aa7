use Rattle.std.proofs.Common.{◌∙◌, sym}
use Rattle.survey_core.proofs.lemmas.shapes.EnvelopeLemmas.{still_apart}
use Rattle.survey_core.proofs.shapes.envelope_bounds.are_still_and_apart.Goals as goal

pub returns : goal.returns
returns c = λ e horizon.
    still_apart horizon c.args.one.now c.args.other.now (c.is_still.ensures.0 c.if-not-is_still.false) (c.is_still-2.ensures.0 c.if-not-is_still-2.false)
    (sym c.are_boxes_apart.ensures ∙ e)
