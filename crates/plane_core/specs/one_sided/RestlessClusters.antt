-- Patterns that are known not to be at rest, because of one cluster that is run alone.
use Rattle.std.specs.Prelude.{◌≡◌, ◌+◌, ◌*◌, ◌<◌, ◌≤◌, ◌⊎◌, ℕ, ℤ, true, false, List}
use Rattle.std.specs.Int.{bit_at}
use Rattle.plane_core.specs.windows.LonePatterns.{FillsRows}
use Rattle.plane_core.specs.declared.plane.cell.Cell.{Cell}
use Rattle.plane_core.specs.plane.Cells.{InOrder, has}
use Rattle.plane_core.specs.clusters.Clusters.{IsCluster}
use Rattle.plane_core.specs.plane.Generations.{NeverRecurs, after}
use Rattle.plane_core.specs.plane.Rules.{Numbers}
use Rattle.plane_core.specs.windows.Rows.{ShowsInside}
use Rattle.plane_core.specs.windows.Windows.{IsShownInside, row_at}

-- the cluster diverges: run alone, it has a live cell that the whole pattern doesn't have, at some generation up to the
-- horizon
pub record Diverges (rule : Numbers) (whole cluster : List Cell) (horizon : ℕ) : Type 0 where
  pub generation : ℕ
  pub early : generation ≤ horizon
  pub cell : Cell
  pub alone : has (after rule cluster generation) cell ≡ true
  pub missing : has (after rule whole generation) cell ≡ false

-- some cluster of the pattern diverges from it within the horizon, or doesn't recur within the period
pub record HasRestlessCluster (rule : Numbers) (cells : List Cell) (horizon period : ℕ) : Type 0 where
  pub cluster : List Cell
  pub is : IsCluster cells cluster
  pub why : Diverges rule cells cluster horizon ⊎ NeverRecurs rule cluster period

-- each pattern that the window of n vectors shows, at least `depth` inside its border, has a restless cluster
abbrev pub AreAllRestless : Numbers → ℕ → List (List ℕ) → ℕ → ℕ → ℕ → Type 0
AreAllRestless rule n window depth horizon period =
    (cells : List Cell) (left top : ℤ) → InOrder cells → IsShownInside n left top depth window cells → HasRestlessCluster rule cells horizon period

-- a cell in column i of row r, at least `depth` inside the border, is alive in window `alone` and dead in `whole`
pub record HasDivergingCell (n : ℕ) (whole alone : List (List ℕ)) (depth : ℕ) : Type 0 where
  pub r : ℕ
  pub i : ℕ
  pub above : depth ≤ r
  pub below : r + depth < 4 * n
  pub west : depth ≤ i
  pub east : i + depth < 64
  pub lit : bit_at (row_at n alone r) i ≡ 1
  pub dark : bit_at (row_at n whole r) i ≡ 0

-- each cluster shown in window `alone` diverges from each pattern shown in window `whole`, where both are shown at
-- least `depth` inside the border
abbrev pub DivergesFromWhole : Numbers → ℕ → List (List ℕ) → List (List ℕ) → ℕ → ℕ → Type 0
DivergesFromWhole rule n whole alone depth horizon =
    (cells cluster : List Cell) (left top : ℤ) → InOrder cells → InOrder cluster → IsShownInside n left top depth whole cells
    → IsShownInside n left top depth alone cluster → Diverges rule cells cluster horizon

-- if the 64 rows of `alone` hold a cluster, it diverges from each pattern that the rows of `whole` show at least
-- `depth` inside the border
abbrev pub DivergesInRows : Numbers → List ℕ → List ℕ → ℕ → ℕ → Type 0
DivergesInRows rule whole alone depth horizon =
    (cells cluster : List Cell) (left top : ℤ) → InOrder cells → ShowsInside left top depth whole cells → FillsRows left top alone cluster
    → Diverges rule cells cluster horizon
