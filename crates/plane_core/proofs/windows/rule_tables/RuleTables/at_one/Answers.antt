use Rattle.std.proofs.Common.{arith}
use Rattle.plane_core.proofs.lemmas.windows.RuleLogicLemmas.{lane_answer}
use Rattle.plane_core.proofs.windows.rule_tables.RuleTables.at_one.Goals as goal

pub returns : goal.returns
returns c j i low inside =
    let self = c.args.self.now in
    lane_answer self.rule c.args.n _ _ c.args.now j i c.fits-now.0 low (self.dead_right c.args.n i (omega arith) inside)
    (self.change_right c.args.n i (omega arith) inside)
