use Rattle.haul_core.proofs.SampleLemmas.{Putting}
use Rattle.haul_core.proofs.book.samples.put.Given as goal

abbrev pub invariant-loop-place : goal.invariant-loop-place
invariant-loop-place l = Putting l.fn.numbers l.count l.number l.numbers l.left l.place
