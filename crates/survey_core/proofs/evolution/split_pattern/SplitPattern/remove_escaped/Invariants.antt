use Rattle.std.proofs.Common.{◌≡◌}
use Rattle.survey_core.specs.evolution.SplitPatterns.{AreCandidates, IsSplit, whole_of}
use Rattle.survey_core.proofs.evolution.split_pattern.SplitPattern.remove_escaped.Given as goal

abbrev pub invariant-loop : goal.invariant-loop
invariant-loop l = record {
  is_split : IsSplit l.rule l.self;
  whole : whole_of l.rule l.self ≡ whole_of l.rule l.fn.self;
  clusters : AreCandidates l.self.board.cells l.self.spaceships.items l.clusters;
}
