use Rattle.std.proofs.Common.{◌∙◌, FitsSigned, ap, rules, w32}
use Rattle.std.proofs.lemmas.Int.{to_z-of_z}
use Rattle.plane_core.specs.engine.Directions.{depth_in}
use Rattle.plane_core.proofs.lemmas.engine.DirectionLemmas.{cell_along, cell_on_plane}
use Rattle.plane_core.proofs.engine.board.reach.depth_at.Goals as goal

pub depth-requires : goal.depth-requires
depth-requires c =
    cell_on_plane c.args.at c.args.word_column c.args.row c.args.column c.along.result c.requires.word_column c.requires.row c.requires.column c.requires.plane
    (cell_along c.args.at c.args.word_column c.args.row c.args.column c.corner.result c.along.result c.corner.ensures.corner c.along.ensures)

pub returns : goal.returns
returns c =
    let f : FitsSigned w32 c.depth.result = search rules in
    to_z-of_z w32 c.depth.result f ∙ c.depth.ensures
    ∙ ap (depth_in c.args.way)
    (cell_along c.args.at c.args.word_column c.args.row c.args.column c.corner.result c.along.result c.corner.ensures.corner c.along.ensures)
