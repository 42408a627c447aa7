use Rattle.std.proofs.Common.{◌-◌}
use Rattle.plane_core.proofs.lemmas.windows.WindowLemmas.{AreMadeTo}
use Rattle.plane_core.proofs.windows.window.generation_with_logic.Given as goal

abbrev pub invariant-loop-k : goal.invariant-loop-k
invariant-loop-k g l = AreMadeTo (g.A.CellLogic.rule l.rule) g.row.N l.initial.window l.window l.up l.here l.k

abbrev pub decreases-loop-k : goal.decreases-loop-k
decreases-loop-k g l = g.row.N - l.k

abbrev pub invariant-loop-k-2 : goal.invariant-loop-k-2
invariant-loop-k-2 g l = AreMadeTo (g.A.CellLogic.rule l.rule) g.row.N l.fn.window l.window l.up l.here l.k

abbrev pub decreases-loop-k-2 : goal.decreases-loop-k-2
decreases-loop-k-2 g l = g.row.N - l.k
