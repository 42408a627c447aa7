-- The rows of a census: one for each code of an object that the taken soups left.
use Rattle.std.specs.Prelude.{◌≡◌, ◌≤◌, ℕ, All, List, map, true}
use Rattle.std.specs.Cmp.Lexicographic.{slice_cmp}
use Rattle.std.specs.List.{list_any}
use Rattle.std.specs.List.Sorted.{IsStrictlySortedBy}
use Rattle.std.specs.Ordering.{nat_cmp}
use Rattle.survey_core.specs.shapes.Objects.{is_code}
use Rattle.haul_core.specs.declared.book.census_rows.Row.{Row}
use Rattle.haul_core.specs.Samples.{AreLeastThree}
use Rattle.haul_core.specs.Totals.{Survey, numbers_with, total}

-- the code of each row, in order
abbrev pub codes_of : List Row → List (List ℕ)
codes_of rows = map (λ row. row.code) rows

-- the codes of the rows are in ASCII order, each once
abbrev pub AreInOrder : List Row → Type 0
AreInOrder rows = IsStrictlySortedBy (slice_cmp nat_cmp) (codes_of rows)

-- a code's row: its total, at least 1, and the three lowest numbers (or all) of soups that left an object with the code
pub record IsRowOf (surveys : List Survey) (row : Row) : Type 0 where
  pub some : 1 ≤ row.total
  pub total_is : row.total ≡ total surveys row.code
  pub samples_are : AreLeastThree (numbers_with surveys row.code) row.samples

-- the rows have each code of an object that the soups left, once and in ASCII order, and no other code
pub record AreRowsOf (surveys : List Survey) (rows : List Row) : Type 0 where
  pub in_order : AreInOrder rows
  pub each : All (IsRowOf surveys) rows
  pub whole : (code : List ℕ) → 1 ≤ total surveys code → list_any (is_code code) (codes_of rows) ≡ true
