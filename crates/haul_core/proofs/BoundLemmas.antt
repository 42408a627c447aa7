-- How many objects a census can have.
use Rattle.std.proofs.Common.{◌^◌, ◌*◌, ◌-◌, ◌<◌, ◌≤◌, ℕ, List, arith, length, sum_by}
use Rattle.haul_core.specs.declared.book.census_rows.Row.{Row}
use Rattle.haul_core.specs.Books.{Held}
use Rattle.haul_core.specs.Keeping.{KeepsBook, Sums}
use Rattle.haul_core.specs.Rows.{AreRowsOf}
use Rattle.haul_core.proofs.JoinLemmas.{size_below}
use Rattle.haul_core.proofs.KeepLemmas.{same_length}
use Rattle.haul_core.proofs.MissingLemmas.{missing_counted}
use Rattle.haul_core.proofs.SumLemmas.{sum_within}
use Rattle.ranges.specs.Ranges.{number_bound}

module _ (held : Held) (count : ℕ) (workers : List (ℕ × ℕ)) (sums : Sums) (k : KeepsBook held count workers sums) (rows : List Row)
    (are : AreRowsOf k.surveys rows) where
  abbrev objects : ℕ
  objects = sum_by (λ (row : Row). row.total) rows

  few : objects ≤ length held.taken * (2 ^ 64 - 1)
  few = let long = same_length held count workers sums k in
      let most = sum_within k.surveys rows are k.sum.few in
      omega (arith, most, long)

  -- fewer than 2^104 objects: at most 2^40 soups were taken, and each has fewer than 2^64
  pub bounded : objects < 2 ^ 104
  bounded =
      let counted = missing_counted held.terms.ranges held.taken k.normal k.within k.distinct in
      let below = size_below number_bound held.terms.ranges k.normal k.below in
      omega (arith, few, counted, below)

  pub bounded_opened : length held.taken ≤ 2 ^ 24 → objects < 2 ^ 88
  bounded_opened small = omega (arith, few, small)
