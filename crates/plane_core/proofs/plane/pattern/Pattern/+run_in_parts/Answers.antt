use Rattle.std.proofs.Common.{List, arith, subst}
use Rattle.plane_core.specs.declared.plane.cell.Cell.{Cell}
use Rattle.plane_core.specs.declared.plane.orientation.Orientation.TheVariants.{Diagonal}
use Rattle.plane_core.specs.plane.Cells.{IsPattern}
use Rattle.plane_core.specs.plane.Orientations.{image}
use Rattle.plane_core.specs.plane.Parts.{HasRun}
use Rattle.plane_core.proofs.lemmas.plane.CutLemmas.{is_pattern-drop, is_pattern-take, run_from_parts, run_from_turned}
use Rattle.plane_core.proofs.plane.pattern.Pattern.+run_in_parts.Goals as goal

pub run_in_parts-returns-in-Some-cut : goal.run_in_parts-returns-in-Some-cut
run_in_parts-returns-in-Some-cut t c =
    let S = c.args.self.now in
    let n = c.args.generations in
    let ran : HasRun c.args.rule.now c.in_ok-turned.turned n c.in-Some-2.later = rw c.in-Some-2.is at c.in_ok-later.ensures in
    let turned : HasRun c.args.rule.now (image Diagonal S) n c.in-Some-2.later =
    subst (λ (T : List Cell). HasRun c.args.rule.now T n c.in-Some-2.later) c.in_ok-turned.ensures.turned ran in
    run_from_turned c.args.rule.now S n c.in-Some-2.later c.in_ok-whole.whole c.in_ok-turned.ensures.pattern.in_order turned c.in_ok-whole.ensures.turned

pub run_sides-returns : goal.run_sides-returns
run_sides-returns t c =
    let S = c.args.self.now in
    let one = rw (c.in-Some.is, c.split_at.ensures.front, c.cells.ensures.cells) at c.in_ok-above.ensures in
    let other = rw (c.in-Some-2.is, c.split_at.ensures.back, c.cells.ensures.cells) at c.in_ok-below.ensures in
    run_from_parts c.args.rule.now S c.args.cut c.args.generations c.in-Some.above c.in-Some-2.below c.in_ok-whole.whole c.cells.ensures.pattern.in_order
    c.requires.cut one other c.in_ok-whole.ensures

pub run_sides-run_side-requires : goal.run_sides-run_side-requires
run_sides-run_side-requires t c =
    let part : IsPattern c.split_at.result.0.now =
    rw (c.split_at.ensures.front, c.cells.ensures.cells) (is_pattern-take c.args.self.now c.args.cut c.cells.ensures.pattern) in
    (omega arith, (c.requires.generations, (c.requires.cuts, part)))

pub run_sides-run_side-requires-2 : goal.run_sides-run_side-requires-2
run_sides-run_side-requires-2 t c =
    let part : IsPattern c.split_at.result.1.now =
    rw (c.split_at.ensures.back, c.cells.ensures.cells) (is_pattern-drop c.args.self.now c.args.cut c.cells.ensures.pattern) in
    (omega arith, (c.requires.generations, (c.requires.cuts, part)))
