use Rattle.plane_core.specs.windows.RuleLogic.{rule_of}
use Rattle.plane_core.proofs.lemmas.one_sided.AgainLemmas.{IsChanging}
use Rattle.plane_core.proofs.one_sided.follow.follow.Given as goal

abbrev pub invariant-loop-age : goal.invariant-loop-age
invariant-loop-age g l = IsChanging (rule_of l.rule) g.row.N l.start l.now l.kept l.columns l.age
