use Rattle.std.proofs.Common.{List}
use Rattle.plane_core.specs.declared.plane.cell.Cell.{Cell}
use Rattle.code_core.specs.Recurrences.{Follows}
use Rattle.code_core.proofs.recurrence.search.Given as goal

-- the state of the search, with a list of the earlier generations, which the program doesn't keep
abbrev pub invariant-loop-age : goal.invariant-loop-age
invariant-loop-age l = (before : List (List Cell)) × Follows l.rule l.pattern l.age before l.latest
