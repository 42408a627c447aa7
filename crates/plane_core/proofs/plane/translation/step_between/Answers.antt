use Rattle.std.proofs.Common.{rules}
use Rattle.plane_core.proofs.lemmas.plane.CellLemmas.{x_passed, y_passed}
use Rattle.plane_core.proofs.plane.translation.step_between.Goals as goal

pub difference-requires-clause-from : goal.difference-requires-clause-from
difference-requires-clause-from c = x_passed c.args.from (search rules) c.requires.from

pub difference-requires-clause-to : goal.difference-requires-clause-to
difference-requires-clause-to c = x_passed c.args.to (search rules) c.requires.to

pub difference-requires-2-clause-from : goal.difference-requires-2-clause-from
difference-requires-2-clause-from c = y_passed c.args.from (search rules) c.requires.from

pub difference-requires-2-clause-to : goal.difference-requires-2-clause-to
difference-requires-2-clause-to c = y_passed c.args.to (search rules) c.requires.to
