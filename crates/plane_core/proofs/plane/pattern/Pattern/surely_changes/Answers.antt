use Rattle.std.proofs.Common.{List, arith, subst}
use Rattle.plane_core.specs.windows.LonePatterns.{FillsRows}
use Rattle.plane_core.specs.declared.plane.cell.Cell.{Cell}
use Rattle.plane_core.specs.plane.Generations.{NeverRecurs}
use Rattle.plane_core.specs.plane.Rules.{Numbers}
use Rattle.plane_core.proofs.lemmas.engine.WindowRoundLemmas.{inland_within}
use Rattle.plane_core.proofs.lemmas.plane.SpeedLemmas.{run_inside}
use Rattle.plane_core.proofs.plane.pattern.Pattern.surely_changes.Goals as goal

pub returns-clause-new : goal.returns-clause-new
returns-clause-new c = λ seen.
    let left = c.in-Some.origin.left in
    let top = c.in-Some.origin.top in
    let fills = subst (λ (S : List Cell). FillsRows left top c.rows_of-rows.result S) c.cells.ensures.cells c.rows_of-rows.ensures in
    subst (λ (rule : Numbers). NeverRecurs rule c.args.self.now c.args.generations) c.new.ensures
    (c.never_recurs.ensures seen c.args.self.now left top fills)

pub returns-clause-inside : goal.returns-clause-inside
returns-clause-inside c = λ seen g low.
    run_inside c.args.rule.now c.args.self.now 951000 g 49000 (inland_within c.in-Some.origin c.args.self.now c.in-Some.ensures.inland c.in-Some.ensures.inside)
    (omega arith) (omega (arith, low, c.if-generations-gt-FAR.false))
