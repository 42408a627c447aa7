use Rattle.std.proofs.Common.{arith}
use Rattle.plane_core.proofs.lemmas.engine.LeapLemmas.{run_odd, run_even}
use Rattle.plane_core.proofs.engine.leap.run.Goals as goal

pub returns-then-count-eq1 : goal.returns-then-count-eq1
returns-then-count-eq1 g c =
    run_odd g.row.N (g.A.CellLogic.rule c.args.rule.now) c.args.count c.args.window.now c.generations_with_logic.new.window c.difference_of.result c.requires.few
    (omega arith) c.generations_with_logic.ensures c.difference_of.ensures

pub returns : goal.returns
returns g c =
    run_even g.row.N (g.A.CellLogic.rule c.args.rule.now) c.args.count c.args.window.now c.generations_with_logic-2.new.window c.generations_with_logic-3.new.window
    c.difference_of-2.result (omega arith) c.requires.few (omega arith) c.generations_with_logic-2.ensures c.generations_with_logic-3.ensures c.difference_of-2.ensures
