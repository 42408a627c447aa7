use Rattle.plane_core.specs.windows.Windows.{IsLaterWindow}
use Rattle.plane_core.proofs.windows.window.generations_with_logic.Given as goal

abbrev pub invariant-loop : goal.invariant-loop
invariant-loop g l = IsLaterWindow (g.A.CellLogic.rule l.rule) g.row.N l.initial.window l.window l.counter
