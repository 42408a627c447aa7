use Rattle.std.proofs.Common.{rules}
use Rattle.plane_core.proofs.lemmas.plane.CellLemmas.{x_passed, y_passed}
use Rattle.plane_core.proofs.clusters.union_find.are_near.Goals as goal

pub apart-requires-clause-a : goal.apart-requires-clause-a
apart-requires-clause-a c = x_passed c.args.one (search rules) c.requires.one

pub apart-requires-clause-b : goal.apart-requires-clause-b
apart-requires-clause-b c = x_passed c.args.other (search rules) c.requires.other

pub apart-requires-2-clause-a : goal.apart-requires-2-clause-a
apart-requires-2-clause-a c = y_passed c.args.one (search rules) c.requires.one

pub apart-requires-2-clause-b : goal.apart-requires-2-clause-b
apart-requires-2-clause-b c = y_passed c.args.other (search rules) c.requires.other
