use Rattle.std.proofs.Common.{◌≡◌, sum_by, take}
use Rattle.haul_core.proofs.book.census_rows.sum_of_totals.Given as goal

abbrev pub invariant-loop-row : goal.invariant-loop-row
invariant-loop-row l = l.sum ≡ sum_by (λ row. row.total) (take l.row-index l.rows)
