-- How clusters are found: the places of a pattern's list of cells become a forest, in which each place leads to an
-- earlier place or is a root.
use Rattle.std.specs.Prelude.{◌≡◌, ◌+◌, ◌-◌, ◌<◌, ◌≤◌, ◌==◌, ◌+ℤ◌, ◌<ℤ◌, ℕ, ℤ, pos, negsuc, List, [], ◌∷◌, cond, drop, get_or, length, take}
use Rattle.std.specs.List.{AllPairs}
use Rattle.std.specs.declared.cmp.Ordering.TheVariants.{Less}
use Rattle.plane_core.specs.declared.plane.cell.Cell.{Cell}
use Rattle.plane_core.specs.declared.clusters.union_find.RowPlaces.{RowPlaces}
use Rattle.plane_core.specs.declared.clusters.union_find.RowsAbove.{RowsAbove}
use Rattle.plane_core.specs.plane.Cells.{cell_at, cell_cmp, king_distance, moved_by}
use Rattle.plane_core.specs.clusters.Clusters.{FirstBefore, Linked}

-- the cell at a place
abbrev pub cell_of : List Cell → ℕ → Cell
cell_of cells k = get_or cells k (cell_at (pos 0) (pos 0))

-- the parent of a place: the place to which it leads
abbrev pub parent_of : List ℕ → ℕ → ℕ
parent_of parents k = get_or parents k 0

-- no place leads to a later one
abbrev pub LeadsBack : List ℕ → Type 0
LeadsBack parents = (k : ℕ) → k < length parents → parent_of parents k ≤ k

-- a forest: no place leads to a later one, and the cell of each place is linked to the cell of its parent
pub record IsForest (cells : List Cell) (parents : List ℕ) : Type 0 where
  pub size : length parents ≡ length cells
  pub back : LeadsBack parents
  pub linked : (k : ℕ) → k < length parents → Linked cells (cell_of cells k) (cell_of cells (parent_of parents k))

-- each place has the label of the place to which it leads
abbrev pub Labels : List ℕ → (ℕ → ℕ) → Type 0
Labels parents label = (k : ℕ) → k < length parents → label (parent_of parents k) ≡ label k

-- two places are in the same tree: every labelling that agrees along the links gives them the same label
abbrev pub Joined : List ℕ → ℕ → ℕ → Type 0
Joined parents j k = (label : ℕ → ℕ) → Labels parents label → label j ≡ label k

-- places that were joined are still joined
abbrev pub Keeps : List ℕ → List ℕ → Type 0
Keeps old new = (label : ℕ → ℕ) → Labels new label → Labels old label

-- any two places before `place` whose cells are near each other are joined
abbrev pub JoinsAll : List Cell → List ℕ → ℕ → Type 0
JoinsAll cells parents place =
    (j k : ℕ) → j < k → k < place → king_distance (cell_of cells j) (cell_of cells k) ≤ 2 → Joined parents j k

-- the cell just before `place` is near both the cell at `place` and the earlier cell at `k`, so it joins the two
pub record IsBridged (cells : List Cell) (k place : ℕ) : Type 0 where
  pub earlier : k + 1 < place
  pub left : king_distance (cell_of cells k) (cell_of cells (place - 1)) ≤ 2
  pub right : king_distance (cell_of cells (place - 1)) (cell_of cells place) ≤ 2

-- the cells at `k` and `place` are near each other, and the cell just before `place` doesn't join them
pub record NeedsJoin (cells : List Cell) (k place : ℕ) : Type 0 where
  pub near : king_distance (cell_of cells k) (cell_of cells place) ≤ 2
  pub alone : ¬ IsBridged cells k place

-- if an earlier cell is near the cell at `place`, in a row above it, and left of `column`, the two are bridged
abbrev pub IsFresh : List Cell → ℤ → ℕ → Type 0
IsFresh cells column place = (k : ℕ) → k < place → (cell_of cells k).y <ℤ (cell_of cells place).y → (cell_of cells k).x <ℤ column
    → king_distance (cell_of cells k) (cell_of cells place) ≤ 2 → IsBridged cells k place

-- A range of places before `place` whose cells are in the row of `from`. If the range omits a cell of this row at a
-- place before `place`, the omitted cell comes before `from`.
pub record IsRow (cells : List Cell) (row : RowPlaces) (place : ℕ) (from : Cell) : Type 0 where
  pub order : row.from ≤ row.end
  pub few : row.end ≤ place
  pub passed : (k : ℕ) → k < row.from → cell_cmp (cell_of cells k) from ≡ Less
  pub level : (k : ℕ) → row.from ≤ k → k < row.end → (cell_of cells k).y ≡ from.y
  pub later : (k : ℕ) → row.end ≤ k → k < place → from.y <ℤ (cell_of cells k).y

-- the two rows above the cell at `place`; they omit only cells that are too far to the left to be near this cell
pub record AreRowsAbove (cells : List Cell) (rows : RowsAbove) (place : ℕ) : Type 0 where
  pub few : rows.begin ≤ place
  pub begun : (k : ℕ) → k < rows.begin → (cell_of cells k).y <ℤ ((cell_of cells place).y +ℤ negsuc 1)
  pub above : IsRow cells rows.above place (moved_by (negsuc 1) (negsuc 0) (cell_of cells place))
  pub top : IsRow cells rows.top place (moved_by (negsuc 1) (negsuc 1) (cell_of cells place))

-- the cells whose places have the number n
abbrev pub numbered : ℕ → List ℕ → List Cell → List Cell
numbered n [] cells = []
numbered n (m ∷ ms) [] = []
numbered n (m ∷ ms) (c ∷ cs) = cond (m == n) (c ∷ numbered n ms cs) (numbered n ms cs)

-- each place before `place` has the number of its cluster, and each cluster consists so far of the cells with its
-- number
pub record ArePutInClusters (cells : List Cell) (parents numbers : List ℕ) (clusters : List (List Cell)) (place : ℕ) : Type 0 where
  pub size : length numbers ≡ place
  pub few : place ≤ length cells
  pub labels : (k : ℕ) → k < place → get_or numbers (parent_of parents k) 0 ≡ get_or numbers k 0
  pub below : (k : ℕ) → k < place → get_or numbers k 0 < length clusters
  pub lists : (n : ℕ) → n < length clusters → get_or clusters n [] ≡ numbered n numbers cells
  pub used : (n : ℕ) → n < length clusters → (k : ℕ) × (k < place) × (get_or numbers k 0 ≡ n)
  pub linked : (j k : ℕ) → j < place → k < place → get_or numbers j 0 ≡ get_or numbers k 0 → Linked cells (cell_of cells j) (cell_of cells k)
  pub in_order : AllPairs FirstBefore clusters

-- in `parents`, each place before `place` has the number of its cluster, and each place from `place` on still leads to
-- its parent in the forest
pub record IsGatheringCells (cells : List Cell) (parents : List ℕ) (clusters : List (List Cell)) (place : ℕ) : Type 0 where
  pub forest : List ℕ
  pub is_forest : IsForest cells forest
  pub joined : JoinsAll cells forest (length cells)
  pub size : length parents ≡ length cells
  pub passed : ArePutInClusters cells forest (take place parents) clusters place
  pub others : drop place parents ≡ drop place forest
