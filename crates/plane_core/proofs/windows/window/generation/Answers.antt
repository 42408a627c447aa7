use Rattle.std.proofs.Common.{subst, sym}
use Rattle.plane_core.specs.windows.RuleLogic.{rule_of}
use Rattle.plane_core.specs.windows.Windows.{IsNextWindow}
use Rattle.plane_core.specs.declared.windows.rule_logic.RuleLogic.{RuleLogic}
use Rattle.plane_core.proofs.windows.window.generation.Goals as goal

pub returns-in-Life : goal.returns-in-Life
returns-in-Life g c =
    subst (λ (a : RuleLogic). IsNextWindow (rule_of a) g.row.N c.args.window.now c.generation_with_logic.new.window) (sym c.in-Life.is) c.generation_with_logic.ensures

pub returns-in-Any : goal.returns-in-Any
returns-in-Any g c =
    subst (λ (a : RuleLogic). IsNextWindow (rule_of a) g.row.N c.args.window.now c.generation_with_logic-in-Any.new.window) (sym c.in-Any.is)
    c.generation_with_logic-in-Any.ensures
