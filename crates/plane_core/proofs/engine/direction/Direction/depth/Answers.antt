use Rattle.std.proofs.Common.{FitsSigned, rules, w32}
use Rattle.plane_core.proofs.lemmas.plane.CellLemmas.{x_passed, y_passed}
use Rattle.std.proofs.Common.{◌+ℤ◌, ◌∙◌, ap, arith}
use Rattle.plane_core.specs.engine.Directions.{counted}
use Rattle.plane_core.proofs.lemmas.plane.CoordinateLemmas.{passed_is, sum_of, x_within, y_within}
use Rattle.plane_core.proofs.engine.direction.Direction.depth.Goals as goal

pub counted-requires : goal.counted-requires
counted-requires c = let f : FitsSigned w32 c.args.cell.x = search rules in x_passed c.args.cell f c.requires

pub counted-requires-2 : goal.counted-requires-2
counted-requires-2 c = let f : FitsSigned w32 c.args.cell.y = search rules in y_passed c.args.cell f c.requires

pub overflow_add-result : goal.overflow_add-result
overflow_add-result c = (sum_of c.counted.result c.counted-2.result c.counted.ensures.small c.counted-2.ensures.small).fits

pub returns : goal.returns
returns c =
    let way = c.args.self in
    let cell = c.args.cell in
    let across = c.counted.ensures.counted ∙ ap (counted way.right) (passed_is cell.x (omega (arith, x_within cell c.requires))) in
    let along = c.counted-2.ensures.counted ∙ ap (counted way.down) (passed_is cell.y (omega (arith, y_within cell c.requires))) in
    (sum_of c.counted.result c.counted-2.result c.counted.ensures.small c.counted-2.ensures.small).is ∙ (λ i. across i +ℤ along i)
