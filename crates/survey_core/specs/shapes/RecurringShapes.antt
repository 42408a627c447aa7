-- Patterns that recur within a limit.
use Rattle.std.specs.Prelude.{ℕ, List}
use Rattle.plane_core.specs.declared.plane.cell.Cell.{Cell}
use Rattle.plane_core.specs.plane.Rules.{Numbers}
use Rattle.code_core.specs.declared.recurrence.Recurrence.{Recurrence}
use Rattle.code_core.specs.Recurrences.{Recurs}

-- some generation from 1 to the limit is the pattern again, possibly displaced
abbrev pub RecursWithin : Numbers → ℕ → List Cell → Type 0
RecursWithin rule limit cells = (r : Recurrence) × Recurs rule cells limit r
