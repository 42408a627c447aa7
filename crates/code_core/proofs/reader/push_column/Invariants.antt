use Rattle.std.proofs.Common.{◌≡◌, ◌++◌}
use Rattle.code_core.proofs.ReaderCells.{lit_above}
use Rattle.code_core.proofs.reader.push_column.Given as goal

abbrev pub invariant-loop-i : goal.invariant-loop-i
invariant-loop-i l = l.cells.items ≡ l.fn.cells.items ++ lit_above l.i l.head.strip l.head.x l.value
