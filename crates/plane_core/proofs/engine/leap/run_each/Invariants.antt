use Rattle.std.proofs.Common.{take}
use Rattle.std.specs.List.{All}
use Rattle.plane_core.specs.engine.LeapWindows.{IsOnBoard}
use Rattle.plane_core.proofs.lemmas.engine.LeapLemmas.{AreRunFirst}
use Rattle.plane_core.proofs.engine.leap.run_each.Given as goal

abbrev pub invariant-loop-k : goal.invariant-loop-k
invariant-loop-k g l = record {
  on_board : All (IsOnBoard l.at) (take l.k l.windows);
  run : AreRunFirst l.at l.words (g.A.CellLogic.rule l.rule) l.count l.windows l.held l.boxes.items l.k;
}
