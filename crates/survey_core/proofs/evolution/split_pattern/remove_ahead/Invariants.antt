use Rattle.std.proofs.Common.{◌≡◌}
use Rattle.survey_core.specs.evolution.SplitPatterns.{AreCandidates, IsSplitAt, whole_at}
use Rattle.survey_core.proofs.evolution.split_pattern.remove_ahead.Given as goal

abbrev pub invariant-loop-cluster : goal.invariant-loop-cluster
invariant-loop-cluster l = record {
  rule : l.board.rule ≡ l.fn.board.rule;
  split : IsSplitAt l.rule l.time l.board.cells l.spaceships.items;
  whole : whole_at l.rule l.time l.board.cells l.spaceships.items ≡ whole_at l.rule l.time l.fn.board.cells l.fn.spaceships.items;
  clusters : AreCandidates l.board.cells l.spaceships.items l.clusters;
}
