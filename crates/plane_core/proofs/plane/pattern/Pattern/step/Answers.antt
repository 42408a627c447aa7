use Rattle.std.proofs.Common.{◌≡◌, ◌∙◌, ap, List}
use Rattle.plane_core.specs.declared.plane.cell.Cell.{Cell}
use Rattle.plane_core.specs.plane.Cells.{has}
use Rattle.plane_core.specs.plane.Generations.{lives, next}
use Rattle.plane_core.specs.plane.Parts.{HasRun}
use Rattle.plane_core.specs.plane.Rules.{Numbers}
use Rattle.plane_core.proofs.lemmas.plane.GenerationLemmas.{after-one, has-next}
use Rattle.plane_core.proofs.plane.pattern.Pattern.step.Goals as goal

each_cell : (rule : Numbers) (S later : List Cell) → later ≡ next rule S → (x : Cell) → has later x ≡ lives rule S x
each_cell rule S later is x = ap (λ (cells : List Cell). has cells x) is ∙ has-next rule S x

-- the step in a window
pub returns-in-Some-clause-every_cell : goal.returns-in-Some-clause-every_cell
returns-in-Some-clause-every_cell c =
    let is : c.in-Some.pattern ≡ next c.args.rule.now c.args.self.now = rw c.in-Some.is at c.in_ok-pattern.ensures in
    each_cell c.args.rule.now c.args.self.now c.in-Some.pattern is

-- the step on a board
pub returns-in-Some-2-clause-next : goal.returns-in-Some-2-clause-next
returns-in-Some-2-clause-next c =
    let ran : HasRun c.args.rule.now c.args.self.now 1 c.in-Some-2.pattern = rw c.in-Some-2.is at c.in_ok-pattern-2.ensures in
    ran.after ∙ after-one c.args.rule.now c.args.self.now

pub returns-in-Some-2-clause-every_cell : goal.returns-in-Some-2-clause-every_cell
returns-in-Some-2-clause-every_cell c =
    let ran : HasRun c.args.rule.now c.args.self.now 1 c.in-Some-2.pattern = rw c.in-Some-2.is at c.in_ok-pattern-2.ensures in
    each_cell c.args.rule.now c.args.self.now c.in-Some-2.pattern (ran.after ∙ after-one c.args.rule.now c.args.self.now)

-- the step cell by cell
pub returns-clause-every_cell : goal.returns-clause-every_cell
returns-clause-every_cell c = each_cell c.args.rule.now c.args.self.now c.in_ok-counted.field-0 c.in_ok-counted.ensures
