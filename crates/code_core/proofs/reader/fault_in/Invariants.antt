use Rattle.std.proofs.Common.{length}
use Rattle.code_core.proofs.ReaderLoops.{Passed}
use Rattle.code_core.proofs.reader.fault_in.Given as goal

abbrev pub invariant-loop-token : goal.invariant-loop-token
invariant-loop-token l = Passed l.text l.remainder l.has_cell

abbrev pub decreases-loop-token : goal.decreases-loop-token
decreases-loop-token l = length l.remainder
