use Rattle.haul_core.proofs.JoinedScores.{Added}
use Rattle.haul_core.proofs.book.scores.add_scores.Given as goal

abbrev pub invariant-loop-index : goal.invariant-loop-index
invariant-loop-index l = Added l.fn.scores.entries l.scores.entries l.others.entries l.index
