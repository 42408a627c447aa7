use Rattle.std.proofs.Common.{◌≡◌, ◌∙◌, ◌≤◌, IfOk, List, ap, arith, subst, sym}
use Rattle.plane_core.specs.declared.plane.cell.Cell.{Cell}
use Rattle.plane_core.specs.plane.Generations.{after, next}
use Rattle.plane_core.proofs.lemmas.plane.GenerationLemmas.{after-none}
use Rattle.plane_core.proofs.lemmas.plane.SpeedLemmas.{after-suc}
use Rattle.survey_core.specs.declared.evolution.Evolution.TheVariants.{Shown}
use Rattle.survey_core.specs.evolution.Evolutions.{IsKept, kept}
use Rattle.survey_core.specs.evolution.SplitPatterns.{whole_at, whole_of}
use Rattle.survey_core.proofs.evolution.Evolution.pattern_now.Goals as goal

-- the case in which `ahead` is 0: the pattern now is the whole split pattern
pub returns-then-ahead-eq0 : goal.returns-then-ahead-eq0
returns-then-ahead-eq0 c =
    let rule = c.args.rule.now in
    let split = c.in-Shown.split in
    let none : 0 ≡ c.in-Shown.ahead = omega (arith, c.if-ahead-eq0.true) in
    subst (λ (S : List Cell). IfOk c.whole.result (λ pattern. pattern ≡ S))
    (ap (whole_at rule split.time split.board.cells) c.as_slice-spaceships.ensures.value ∙ sym (after-none rule (whole_of rule split))
    ∙ ap (after rule (whole_of rule split)) none ∙ ap (kept rule) (sym c.in-Shown.is)) c.whole.ensures

-- the case in which `ahead` is 1: the pattern now is the next generation of the whole split pattern
pub returns-else-ahead-eq0 : goal.returns-else-ahead-eq0
returns-else-ahead-eq0 c =
    let rule = c.args.rule.now in
    let split = c.in-Shown.split in
    let is : IsKept rule (Shown split c.in-Shown.ahead) = subst (IsKept rule) c.in-Shown.is c.requires in
    let few : c.in-Shown.ahead ≤ 1 = is.1 in
    let one : 1 ≡ c.in-Shown.ahead = omega (arith, c.if-ahead-eq0.false) in
    subst (λ (S : List Cell). IfOk c.next.result (λ pattern. pattern ≡ S))
    (ap (next rule) (sym (after-none rule (whole_of rule split))) ∙ sym (after-suc rule (whole_of rule split) 0)
    ∙ ap (after rule (whole_of rule split)) one ∙ ap (kept rule) (sym c.in-Shown.is)) c.next.ensures
