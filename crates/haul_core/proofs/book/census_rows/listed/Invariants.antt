use Rattle.std.proofs.Common.{◌≡◌, map}
use Rattle.haul_core.specs.RowSteps.{row_from}
use Rattle.haul_core.proofs.book.census_rows.listed.Given as goal

abbrev pub invariant-loop-code : goal.invariant-loop-code
invariant-loop-code l = l.rows.items ≡ map (λ entry. row_from entry.0 entry.1) l.yielded
