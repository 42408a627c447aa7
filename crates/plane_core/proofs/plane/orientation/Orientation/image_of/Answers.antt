use Rattle.std.proofs.Common.{rules}
use Rattle.plane_core.proofs.lemmas.plane.CellLemmas.{x_passed, y_passed}
use Rattle.plane_core.proofs.plane.orientation.Orientation.image_of.Goals as goal

pub negated-requires : goal.negated-requires
negated-requires c = y_passed c.args.cell (search rules) c.requires

pub negated-requires-in-Half : goal.negated-requires-in-Half
negated-requires-in-Half c = x_passed c.args.cell (search rules) c.requires

pub negated-requires-in-Half-2 : goal.negated-requires-in-Half-2
negated-requires-in-Half-2 c = y_passed c.args.cell (search rules) c.requires

pub negated-requires-in-ThreeQuarter : goal.negated-requires-in-ThreeQuarter
negated-requires-in-ThreeQuarter c = x_passed c.args.cell (search rules) c.requires

pub negated-requires-in-Mirror : goal.negated-requires-in-Mirror
negated-requires-in-Mirror c = x_passed c.args.cell (search rules) c.requires

pub negated-requires-in-Flip : goal.negated-requires-in-Flip
negated-requires-in-Flip c = y_passed c.args.cell (search rules) c.requires

pub negated-requires-in-AntiDiagonal : goal.negated-requires-in-AntiDiagonal
negated-requires-in-AntiDiagonal c = y_passed c.args.cell (search rules) c.requires

pub negated-requires-in-AntiDiagonal-2 : goal.negated-requires-in-AntiDiagonal-2
negated-requires-in-AntiDiagonal-2 c = x_passed c.args.cell (search rules) c.requires
