use Rattle.plane_core.proofs.lemmas.one_sided.NeverRecursLemmas.{AreAlikeBelow}
use Rattle.plane_core.proofs.windows.window_queries.are_alike.Given as goal

abbrev pub invariant-loop-k : goal.invariant-loop-k
invariant-loop-k g l = AreAlikeBelow l.one l.other l.differ l.k
