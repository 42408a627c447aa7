use Rattle.std.proofs.Common.{◌∙◌, ◌-◌, ◌≤◌, FitsSigned, ap, arith, refl, rules, sym, w32}
use Rattle.std.specs.List.{list_all}
use Rattle.std.proofs.lemmas.Bool.{false≢true}
use Rattle.std.proofs.lemmas.Int.{to_z-of_z}
use Rattle.plane_core.specs.plane.Cells.{on_plane}
use Rattle.survey_core.proofs.lemmas.evolution.SplitPatternLemmas.{spaceship_on_plane}
use Rattle.survey_core.proofs.lemmas.evolution.SpaceshipLemmas.{spaceship_moved}
use Rattle.survey_core.proofs.evolution.escaped_spaceships.at_time.Goals as goal

pub returns-in-Ok : goal.returns-in-Ok
returns-in-Ok c =
    let spaceship = c.args.spaceship.now in
    let across_fits : FitsSigned w32 spaceship.recurrence.dx = search rules in
    let down_fits : FitsSigned w32 spaceship.recurrence.dy = search rules in
    let x_fits : FitsSigned w32 c.steps.result = search rules in
    let y_fits : FitsSigned w32 c.steps-2.result = search rules in
    spaceship_moved c.args.rule.now spaceship.recurrence spaceship.cells c.in_ok-phase.phase c.in-Ok.cells (c.args.time - spaceship.since) _ _ _ _ c.requires.traced.comes
    c.in_ok-phase.ensures (to_z-of_z w32 c.steps.result x_fits ∙ c.steps.ensures) (to_z-of_z w32 c.steps-2.result y_fits ∙ c.steps-2.ensures)
    (to_z-of_z w32 spaceship.recurrence.dx across_fits) (to_z-of_z w32 spaceship.recurrence.dy down_fits) c.in-Ok.ensures.shifted

-- the shift isn't refused, because the spaceship lies on the plane at this time
pub unreachable-requires : goal.unreachable-requires
unreachable-requires c =
    let spaceship = c.args.spaceship.now in
    let across_fits : FitsSigned w32 spaceship.recurrence.dx = search rules in
    let down_fits : FitsSigned w32 spaceship.recurrence.dy = search rules in
    let x_fits : FitsSigned w32 c.steps.result = search rules in
    let y_fits : FitsSigned w32 c.steps-2.result = search rules in
    let age : c.args.time - spaceship.since ≤ 810001 = omega (arith, c.requires.early) in
    let there = spaceship_moved c.args.rule.now spaceship.recurrence spaceship.cells c.in_ok-phase.phase _ (c.args.time - spaceship.since) _ _ _ _ c.requires.traced.comes
    c.in_ok-phase.ensures (to_z-of_z w32 c.steps.result x_fits ∙ c.steps.ensures) (to_z-of_z w32 c.steps-2.result y_fits ∙ c.steps-2.ensures)
    (to_z-of_z w32 spaceship.recurrence.dx across_fits) (to_z-of_z w32 spaceship.recurrence.dy down_fits) refl in
    let off = rw c.in-Err-OutOfPlane.field-0-is at c.in-Err-OutOfPlane.ensures.refused in
    false≢true (sym off ∙ ap (list_all on_plane) there
    ∙ spaceship_on_plane c.args.rule.now spaceship.cells (c.args.time - spaceship.since) c.requires.traced.small.near age)
