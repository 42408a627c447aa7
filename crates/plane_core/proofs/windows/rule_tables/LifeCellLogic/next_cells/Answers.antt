use Rattle.std.proofs.Common.{arith}
use Rattle.plane_core.proofs.lemmas.windows.RuleLogicLemmas.{answers_neighbours, lane_life}
use Rattle.plane_core.proofs.windows.rule_tables.LifeCellLogic.next_cells.Goals as goal

pub returns : goal.returns
returns c =
    answers_neighbours c.args.up c.args.here c.args.down c.args.now _ c.requires (λ j i low inside.
    lane_life c.args.up c.args.here.beside c.args.down c.added-low.result c.only_one.result c.args.now j i (omega arith) (omega arith) (omega arith) low
    (c.added-low.ensures j i low) (c.only_one.ensures j i low))
