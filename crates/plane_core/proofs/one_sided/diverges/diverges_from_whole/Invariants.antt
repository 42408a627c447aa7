use Rattle.plane_core.specs.windows.RuleLogic.{rule_of}
use Rattle.plane_core.proofs.lemmas.one_sided.DivergesLemmas.{AreMade}
use Rattle.plane_core.proofs.one_sided.diverges.diverges_from_whole.Given as goal

abbrev pub invariant-loop-made : goal.invariant-loop-made
invariant-loop-made g l = AreMade (rule_of l.rule) g.row.N l.initial.whole l.initial.alone l.whole l.alone l.made
