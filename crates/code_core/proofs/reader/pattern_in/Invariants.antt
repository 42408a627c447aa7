use Rattle.std.proofs.Common.{length}
use Rattle.code_core.proofs.ReaderLoops.{Gathered}
use Rattle.code_core.proofs.reader.pattern_in.Given as goal

abbrev pub invariant-loop-token : goal.invariant-loop-token
invariant-loop-token l = Gathered l.text l.remainder l.cells.items l.head.strip l.head.x

abbrev pub decreases-loop-token : goal.decreases-loop-token
decreases-loop-token l = length l.remainder
