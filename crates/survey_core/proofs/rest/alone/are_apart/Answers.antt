use Rattle.std.proofs.Common.{◌∙◌, sym}
use Rattle.survey_core.proofs.lemmas.rest.ApartLemmas.{apart_by_boxes}
use Rattle.survey_core.proofs.lemmas.shapes.EnvelopeLemmas.{clear_is_far}
use Rattle.survey_core.proofs.rest.alone.are_apart.Goals as goal

pub returns-then-are_boxes_apart : goal.returns-then-are_boxes_apart
returns-then-are_boxes_apart c = λ e.
    apart_by_boxes c.args.one.now c.args.other.now c.box_round.result c.box_round-2.result c.box_round.ensures c.box_round-2.ensures
    (λ a b. clear_is_far c.box_round.result c.box_round-2.result a b (sym c.are_boxes_apart.ensures ∙ c.if-are_boxes_apart.true))
