use Rattle.std.proofs.Common.{rules, w32}
use Rattle.std.proofs.lemmas.Int.{to_z-of_z}
use Rattle.plane_core.proofs.lemmas.plane.CellLemmas.{near_x_passed, near_y_passed}
use Rattle.plane_core.proofs.plane.cell.Cell.moved.Goals as goal

pub stepped-x-requires-clause-at : goal.stepped-x-requires-clause-at
stepped-x-requires-clause-at c = near_x_passed c.args.self (search rules) c.requires.near

pub stepped-y-requires-clause-at : goal.stepped-y-requires-clause-at
stepped-y-requires-clause-at c = near_y_passed c.args.self (search rules) c.requires.near

pub stepped-x-requires-clause-step : goal.stepped-x-requires-clause-step
stepped-x-requires-clause-step c = rw (to_z-of_z w32 c.args.dx c.ranges.dx) c.requires.right

pub stepped-y-requires-clause-step : goal.stepped-y-requires-clause-step
stepped-y-requires-clause-step c = rw (to_z-of_z w32 c.args.dy c.ranges.dy) c.requires.down
