use Rattle.std.proofs.Common.{◌≡◌, ◌==◌, ◌∙◌, ℕ, List, ap, length, rules, subst, sym, vec_len}
use Rattle.plane_core.specs.declared.plane.cell.Cell.{Cell}
use Rattle.plane_core.specs.plane.Generations.{after}
use Rattle.plane_core.specs.plane.Rules.{Numbers}
use Rattle.survey_core.specs.evolution.Evolutions.{kept}
use Rattle.survey_core.specs.evolution.SplitPatterns.{whole_of}
use Rattle.survey_core.proofs.lemmas.evolution.EvolutionLemmas.{still_ahead}
use Rattle.survey_core.proofs.lemmas.evolution.SplitPatternLemmas.{still_whole}
use Rattle.survey_core.proofs.evolution.Evolution.is_still.Goals as goal

-- if no spaceship was removed and the board is still, the pattern is the same again after every even number of
-- generations
pub returns-then-is_empty : goal.returns-then-is_empty
returns-then-is_empty c seen rule is_kept n even =
    let is = rw c.in-Shown.is at is_kept in
    let split = c.in-Shown.split in
    let cells = sym (ap (kept rule) c.in-Shown.is) in
    let still : after rule split.board.cells n ≡ split.board.cells =
    subst (λ (r : Numbers). after r split.board.cells n ≡ split.board.cells) is.0.0 (c.is_still.ensures seen n even) in
    let long : length split.spaceships.items ≡ vec_len split.spaceships = search rules in
    ap (λ (S : List Cell). after rule S n) (sym cells)
    ∙ still_ahead rule (whole_of rule split) c.in-Shown.field-1 n
    (still_whole rule split.time n split.board.cells split.spaceships.items c.is_empty.result
    (c.is_empty.ensures ∙ ap (λ (k : ℕ). k == 0) (sym long)) c.if-is_empty.true
    is.0.1.off.in_order still) ∙ cells
