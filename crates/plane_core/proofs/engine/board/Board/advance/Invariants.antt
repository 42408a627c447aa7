use Rattle.std.proofs.Common.{◌≡◌, ◌≤◌, ◌-◌}
use Rattle.plane_core.specs.plane.Generations.{after}
use Rattle.plane_core.proofs.engine.board.Board.advance.Given as goal

abbrev pub invariant-loop-made : goal.invariant-loop-made
invariant-loop-made l = record {
  rule : l.self.rule ≡ l.fn.self.rule;
  most : l.made ≤ l.most;
  after : l.self.cells ≡ after l.fn.self.rule l.fn.self.cells l.made;
}

abbrev pub decreases-loop-made : goal.decreases-loop-made
decreases-loop-made l = l.most - l.made
