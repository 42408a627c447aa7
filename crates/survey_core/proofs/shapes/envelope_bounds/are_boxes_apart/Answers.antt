use Rattle.std.proofs.Common.{◌≡◌, ◌∙◌, ap, pos, rules, sym}
use Rattle.survey_core.specs.shapes.Envelopes.{is_gap, is_past}
use Rattle.survey_core.proofs.lemmas.shapes.EnvelopeLemmas.{above_is_clear, past_at}
use Rattle.survey_core.proofs.shapes.envelope_bounds.are_boxes_apart.Goals as goal

pub returns-then-above : goal.returns-then-above
returns-then-above c =
    let past : c.is_past-above.result ≡ is_past c.args.other.bottom (pos 0) c.args.one.top (pos 0) =
    past_at _ c.args.other.bottom c.args.one.top (search rules) (search rules) c.is_past-above.ensures in
    above_is_clear c.args.one c.args.other (sym past ∙ c.if-above.true)

pub returns : goal.returns
returns c = ap is_gap c.between-gaps.ensures
