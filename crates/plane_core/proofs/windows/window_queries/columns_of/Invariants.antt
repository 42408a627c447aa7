use Rattle.plane_core.proofs.lemmas.one_sided.NeverRecursLemmas.{HasJoined}
use Rattle.plane_core.proofs.windows.window_queries.columns_of.Given as goal

abbrev pub invariant-loop-k : goal.invariant-loop-k
invariant-loop-k g l = HasJoined l.window l.all l.k
