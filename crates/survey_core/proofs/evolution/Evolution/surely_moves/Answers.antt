use Rattle.std.proofs.Common.{ap, refl, sym}
use Rattle.survey_core.specs.evolution.Evolutions.{kept}
use Rattle.plane_core.specs.plane.Generations.{after}
use Rattle.plane_core.specs.plane.Rules.{Numbers}
use Rattle.survey_core.proofs.lemmas.evolution.RemovedLemmas.{whole_restless}
use Rattle.survey_core.proofs.lemmas.rest.RuledOutLemmas.{ruled_out_moves, ruled_out_same}
use Rattle.survey_core.proofs.evolution.Evolution.surely_moves.Goals as goal

pub returns-in-Shown : goal.returns-in-Shown
returns-in-Shown c seen rest =
    let is = rw c.in-Shown.is at c.requires in
    let h = c.in-Shown.split in
    let ahead = c.in-Shown.ahead in
    let rule = c.args.rule.now in
    let cells = sym (ap (kept c.args.rule.now) c.in-Shown.is) in
    ruled_out_moves c.args.rule.now c.args.profile.now (kept c.args.rule.now c.args.self.now)
    (ruled_out_same _ _ _ _ _ _ _ _ refl cells c.horizon-horizon.ensures.horizon c.period-period.ensures.period
    (whole_restless rule h.time h.board.cells h.spaceships.items ahead c.horizon-horizon.result c.period-period.result is.0.1.off is.1
    (ruled_out_same _ _ _ _ _ _ _ _ is.0.0 (ap (λ (r : Numbers). after r h.board.cells ahead) is.0.0) refl refl (c.rules_out_rest-in-Shown.ensures seen)))) rest

pub returns-in-Listed : goal.returns-in-Listed
returns-in-Listed c seen rest =
    let cells = sym (ap (kept c.args.rule.now) c.in-Listed.is) in
    ruled_out_moves c.args.rule.now c.args.profile.now (kept c.args.rule.now c.args.self.now)
    (ruled_out_same _ _ _ _ _ _ _ _ refl cells c.horizon-horizon.ensures.horizon c.period-period.ensures.period (c.rules_out_rest.ensures seen)) rest
