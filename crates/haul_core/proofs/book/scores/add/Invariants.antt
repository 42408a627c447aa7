use Rattle.haul_core.proofs.ScoreLemmas.{Adding}
use Rattle.haul_core.proofs.book.scores.add.Given as goal

abbrev pub invariant-loop-object : goal.invariant-loop-object
invariant-loop-object l = Adding l.fn.scores.entries l.scores.entries l.objects l.number l.object-index
