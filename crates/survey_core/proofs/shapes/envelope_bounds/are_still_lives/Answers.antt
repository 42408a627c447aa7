use Rattle.survey_core.proofs.lemmas.shapes.EnvelopeLemmas.{still_lives_stay_apart}
use Rattle.survey_core.proofs.shapes.envelope_bounds.are_still_lives.Goals as goal

pub returns-then-is_still_life : goal.returns-then-is_still_life
returns-then-is_still_life c = λ e horizon.
    still_lives_stay_apart horizon c.args.one.now c.args.other.now (c.is_still_life.ensures c.if-is_still_life.true) (c.is_still_life-then-is_still_life.ensures e)
