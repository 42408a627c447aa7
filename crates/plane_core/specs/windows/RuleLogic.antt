-- The rule that each rule logic applies to decide which cells are alive next.
use Rattle.plane_core.specs.declared.windows.rule_logic.RuleLogic.{RuleLogic}
use Rattle.plane_core.specs.declared.windows.rule_logic.RuleLogic.TheVariants.{Life, Any}
use Rattle.plane_core.specs.plane.Rules.{Numbers}
use Rattle.plane_core.specs.windows.Words.{life}

-- the rule that the logic applies: Life, or the rule of its tables
abbrev pub rule_of : RuleLogic → Numbers
rule_of Life = life
rule_of (Any logic) = logic.rule
