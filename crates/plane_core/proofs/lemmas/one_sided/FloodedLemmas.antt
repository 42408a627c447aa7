-- A flood in a window is a cluster of each pattern that the window shows.
use Rattle.std.proofs.Common.{◌≡◌, ◌≢◌, ◌==◌, ◌&&◌, ◌+◌, ◌*◌, ◌/◌, ◌%◌, ◌<◌, ◌≤◌, ◌⊎◌, ℕ, ℤ, ◌+ℤ◌, ◌-ℤ◌, pos, unsigned_abs, Bool, true, false}
use Rattle.std.proofs.Common.{List, [], ◌∷◌, filter, slice_index, ap, ◌∙◌, sym, subst, refl, arith, inl, inr}
use Rattle.std.specs.Cmp.{both_ways as both_true}
use Rattle.std.specs.Int.{bit_at}
use Rattle.std.proofs.lemmas.Bool.{and_parts, eqb-true}
use Rattle.std.proofs.lemmas.Int.{ints}
use Rattle.plane_core.specs.declared.plane.cell.Cell.{Cell}
use Rattle.plane_core.specs.declared.engine.frame.Frame.{Frame}
use Rattle.plane_core.specs.plane.Cells.{InOrder, cell_at, distance, has, same_cell}
use Rattle.plane_core.specs.clusters.Clusters.{IsCluster, Leads, Linked}
use Rattle.plane_core.specs.one_sided.Floods.{AreNear, IsFlooded}
use Rattle.plane_core.specs.windows.Rows.{ShowsInRows, bit_in}
use Rattle.plane_core.specs.engine.Frames.{board_cell, word_of}
use Rattle.plane_core.specs.windows.LonePatterns.{FillsRows, IsInWindow}
use Rattle.plane_core.specs.engine.OnBoard.{cells_on}
use Rattle.plane_core.specs.windows.Windows.{IsShownInside, row_at}
use Rattle.plane_core.proofs.lemmas.plane.CaseLemmas.{same_or_not}
use Rattle.plane_core.proofs.lemmas.plane.CellLemmas.{same_cell-itself, same_cell-same, same_cells}
use Rattle.plane_core.proofs.lemmas.clusters.ClusterLemmas.{linked-has}
use Rattle.plane_core.proofs.lemmas.engine.OnBoardLemmas.{bit_of_cell, cells_in_order, placed, shows_cells}
use Rattle.plane_core.proofs.lemmas.plane.SetLemmas.{has-filter, in_order-filter, same_lists}
use Rattle.plane_core.proofs.lemmas.windows.WindowLemmas.{in_window}
use Rattle.plane_core.proofs.lemmas.Between.{FloodsCluster}

-- ---- the flood as a cluster

-- the column and the row that a cell has in the window
column_in : ℤ → Cell → ℕ
column_in left c = unsigned_abs (c.x -ℤ left)

row_in : ℤ → Cell → ℕ
row_in top c = unsigned_abs (c.y -ℤ top)

-- the cell is in the window, and its bit is in the flood
is_flooded : List ℕ → ℤ → ℤ → Cell → Bool
is_flooded flood left top c = same_cell c (in_window left top (column_in left c) (row_in top c)) && (bit_in flood (row_in top c) (column_in left c) == 1)

pub cluster_in : List ℕ → ℤ → ℤ → List Cell → List Cell
cluster_in flood left top cells = filter (is_flooded flood left top) cells

column_seen : (left top : ℤ) (i r : ℕ) → column_in left (in_window left top i r) ≡ i
unfolding column_in
column_seen left top i r = omega (arith, ints)

row_seen : (left top : ℤ) (i r : ℕ) → row_in top (in_window left top i r) ≡ r
unfolding row_in
row_seen left top i r = omega (arith, ints)

-- a cell of the window is flooded exactly if its bit in the flood is 1
seen_flooded : (flood : List ℕ) (left top : ℤ) (i r : ℕ) → is_flooded flood left top (in_window left top i r) ≡ (bit_in flood r i == 1)
unfolding is_flooded
seen_flooded flood left top i r =
    let c = in_window left top i r in
    (λ t. same_cell c (in_window left top (column_seen left top i r t) (row_seen left top i r t))
    && (bit_in flood (row_seen left top i r t) (column_seen left top i r t) == 1))
    ∙ ap (λ (b : Bool). b && (bit_in flood r i == 1)) (same_cell-itself c)

-- a cell that is in the flood
record IsSpot (flood : List ℕ) (left top : ℤ) (c : Cell) : Type 0 where
  r : ℕ
  i : ℕ
  place : c ≡ in_window left top i r
  lit : bit_in flood r i ≡ 1

spot_of : (flood : List ℕ) (left top : ℤ) (c : Cell) → is_flooded flood left top c ≡ true → IsSpot flood left top c
unfolding is_flooded
spot_of flood left top c e =
    let both = and_parts (same_cell c (in_window left top (column_in left c) (row_in top c))) _ e in
    record {
      r = row_in top c;
      i = column_in left c;
      place = same_cell-same c (in_window left top (column_in left c) (row_in top c)) both.0;
      lit = eqb-true _ 1 both.1;
    }

spot-flooded : (flood : List ℕ) (left top : ℤ) (c : Cell) → IsSpot flood left top c → is_flooded flood left top c ≡ true
spot-flooded flood left top c s =
    ap (is_flooded flood left top) s.place ∙ seen_flooded flood left top s.i s.r ∙ ap (λ (m : ℕ). m == 1) s.lit

-- a path from a cell of the flood ends in the flood
walks : (rows flood : List ℕ) (left top : ℤ) (row column : ℕ) (cells : List Cell) → IsFlooded rows flood row column → ShowsInRows left top rows cells
    → (c d : Cell) (path : List Cell) → Leads cells c path d → IsSpot flood left top c → IsSpot flood left top d
walks rows flood left top row column cells is shows c d [] leads s = subst (IsSpot flood left top) leads s
walks rows flood left top row column cells is shows c d (e ∷ es) leads s = walks rows flood left top row column cells is shows e d es leads.2 next
  where
    well : (4 ≤ s.r) × (s.r < 60) × (4 ≤ s.i) × (s.i < 60)
    well = let w = is.inside s.r s.i s.lit in (w.above, w.below, w.west, w.east)

    x : c.x ≡ left +ℤ pos s.i
    x = ap (λ (a : Cell). a.x) s.place

    y : c.y ≡ top +ℤ pos s.r
    y = ap (λ (a : Cell). a.y) s.place

    close : (distance c.x e.x ≤ 2) × (distance c.y e.y ≤ 2)
    close = let n = leads.1 in (omega arith, omega arith)

    place_of : (a b l : ℤ) (m : ℕ) → a ≡ l +ℤ pos m → distance a b ≤ 2 → 4 ≤ m → (k : ℕ) × (b ≡ l +ℤ pos k) × (AreNear 2 k m)
    place_of a b l m at near low = (
      unsigned_abs (b -ℤ l),
      omega (arith, ints),
      record { low = omega (arith, ints); high = omega (arith, ints) },
    )

    next : IsSpot flood left top e
    next =
        let i = place_of c.x e.x left s.i x close.0 well.2 in
        let r = place_of c.y e.y top s.r y close.1 well.0 in
        let a = well.0 in let b = well.1 in let w = well.2 in let v = well.3 in
        let p = i.2.low in let q = i.2.high in let m = r.2.low in let n = r.2.high in
        let place : e ≡ in_window left top i.0 r.0 = λ t. cell_at (i.1 t) (r.1 t) in
        let alive : (bit_in rows r.0 i.0 == 1) ≡ true =
        sym (shows r.0 i.0 (omega arith) (omega arith) (omega arith) (omega arith)) ∙ ap (has cells) (sym place) ∙ leads.0 in
        record {
          r = r.0;
          i = i.0;
          place = place;
          lit = is.closed r.0 i.0 (omega arith) (omega arith) (omega arith) s.r s.i s.lit r.2 i.2 (eqb-true _ 1 alive);
        }

pub flooded_cluster : (rows flood : List ℕ) (left top : ℤ) (row column : ℕ) (cells : List Cell) → IsFlooded rows flood row column
    → ShowsInRows left top rows cells → InOrder cells → IsCluster cells (cluster_in flood left top cells)
unfolding cluster_in
flooded_cluster rows flood left top row column cells is shows o = record {
  in_order = in_order-filter (is_flooded flood left top) cells o;
  start = in_window left top column row;
  has_start = linked-has cells (in_window left top column row) (in_window left top column row) (is.linked cells left top shows row column is.start);
  members = λ d. (there d, back d);
}
  where
    there : (d : Cell) → has (filter (is_flooded flood left top) cells) d ≡ true → Linked cells (in_window left top column row) d
    there d e =
        let both = and_parts (has cells d) _ (sym (has-filter (is_flooded flood left top) cells d) ∙ e) in
        let s = spot_of flood left top d both.1 in
        subst (Linked cells (in_window left top column row)) (sym s.place) (is.linked cells left top shows s.r s.i s.lit)

    back : (d : Cell) → Linked cells (in_window left top column row) d → has (filter (is_flooded flood left top) cells) d ≡ true
    back d a =
        let first : IsSpot flood left top (in_window left top column row) = record { r = row; i = column; place = refl; lit = is.start } in
        let s = walks rows flood left top row column cells is shows (in_window left top column row) d a.path a.leads first in
        has-filter (is_flooded flood left top) cells d
        ∙ (λ t. linked-has cells (in_window left top column row) d a t && spot-flooded flood left top d s t)

-- the rows of the flood hold the cluster
pub flooded_held : (rows flood : List ℕ) (left top : ℤ) (row column : ℕ) (cells : List Cell) → IsFlooded rows flood row column
    → ShowsInRows left top rows cells → InOrder cells → FillsRows left top flood (cluster_in flood left top cells)
unfolding cluster_in
flooded_held rows flood left top row column cells is shows o = record {
  in_order = in_order-filter (is_flooded flood left top) cells o;
  inside = λ c e. lies c (and_parts (has cells c) _ (sym (has-filter (is_flooded flood left top) cells c) ∙ e)).1;
  shown = λ r i low near. has-filter (is_flooded flood left top) cells (in_window left top i r) ∙ both r i (same_or_not (bit_in flood r i) 1);
}
  where
    lies : (c : Cell) → is_flooded flood left top c ≡ true → IsInWindow 16 left top c
    lies c e =
        let s = spot_of flood left top c e in
        let w = is.inside s.r s.i s.lit in
        let n = w.below in let v = w.east in
        let x : c.x ≡ left +ℤ pos s.i = ap (λ (a : Cell). a.x) s.place in
        let y : c.y ≡ top +ℤ pos s.r = ap (λ (a : Cell). a.y) s.place in
        record { west = omega (arith, ints); north = omega (arith, ints); east = omega (arith, ints); south = omega (arith, ints) }

    both : (r i : ℕ) → (bit_in flood r i ≡ 1) ⊎ (bit_in flood r i ≢ 1)
        → (has cells (in_window left top i r) && is_flooded flood left top (in_window left top i r)) ≡ (bit_in flood r i == 1)
    both r i (inl lit) =
        (λ t. linked-has cells (in_window left top column row) (in_window left top i r) (is.linked cells left top shows r i lit) t
        && seen_flooded flood left top i r t)
    both r i (inr dark) = dead (has cells (in_window left top i r)) _ _ (seen_flooded flood left top i r) (not_one (bit_in flood r i) dark)
      where
        not_one : (m : ℕ) → m ≢ 1 → (m == 1) ≡ false
        not_one m apart = go (m == 1) refl
          where
            go : (b : Bool) → (m == 1) ≡ b → b ≡ false
            go true e = absurd (apart (eqb-true m 1 e))
            go false e = refl

        dead : (a b d : Bool) → b ≡ d → d ≡ false → (a && b) ≡ d
        dead true b d e f = e
        dead false b d e f = sym f

-- if a window shows a pattern at least `depth` inside its border, and `depth` is at most 2, the rows of the window show
-- the pattern except in the two outermost columns and rows on each side
pub shown_rows : (window : List (List ℕ)) (rows : List ℕ) (left top : ℤ) (depth : ℕ) (cells : List Cell) → depth ≤ 2
    → ((r : ℕ) → r < 64 → slice_index rows r ≡ row_at 16 window r) → IsShownInside 16 left top depth window cells → ShowsInRows left top rows cells
shown_rows window rows left top depth cells few unpacked shown r i a b d e =
    shown r i (omega arith) (omega arith) (omega arith) (omega arith) ∙ ap (λ (w : ℕ). bit_at w i == 1) (sym (unpacked r (omega arith)))

pub cluster_flooded : (window : List (List ℕ)) (rows flood : List ℕ) (row column : ℕ) → ((r : ℕ) → r < 64 → slice_index rows r ≡ row_at 16 window r)
    → IsFlooded rows flood row column → (depth : ℕ) → depth ≤ 2 → FloodsCluster window flood depth
cluster_flooded window rows flood row column unpacked is depth few cells left top o shown =
    let shows = shown_rows window rows left top depth cells few unpacked shown in (
      cluster_in flood left top cells,
      record {
        is = flooded_cluster rows flood left top row column cells is shows o;
        held = flooded_held rows flood left top row column cells is shows o;
      },
    )

-- ---- the flood as a board

-- on a board of one word column and 64 rows, the rows of the flood show a cluster of the pattern
pub flooded_pattern : (at : Frame) (rows flood : List ℕ) (row column : ℕ) (cells : List Cell) → at.word_columns ≡ 1 → at.rows ≡ 64
    → IsFlooded rows flood row column → ShowsInRows at.left at.top rows cells → InOrder cells → IsCluster cells (cells_on at flood)
unfolding cluster_in
flooded_pattern at rows flood row column cells word_columns high is shows o =
    subst (λ (cluster : List Cell). IsCluster cells cluster)
    (same_lists (cluster_in flood at.left at.top cells) (cells_on at flood) (in_order-filter (is_flooded flood at.left at.top) cells o)
    (cells_in_order at flood)
    (λ c. both_true (has (cluster_in flood at.left at.top cells) c) (has (cells_on at flood) c) (there c) (back c)))
    (flooded_cluster rows flood at.left at.top row column cells is shows o)
  where
    -- the cell at bit i of row r is the same on the board and in the window
    cell : (s r i : ℕ) → s ≡ 0 → board_cell at s r i ≡ in_window at.left at.top i r
    cell s r i first = same_cells _ _ _ _ (let e = first in omega (arith, ints)) refl

    word : (s r : ℕ) → s ≡ 0 → word_of at s r ≡ r
    word s r first = ap (λ (n : ℕ). n * at.rows + r) first ∙ omega arith

    there : (c : Cell) → has (cluster_in flood at.left at.top cells) c ≡ true → has (cells_on at flood) c ≡ true
    there c e =
        let s = spot_of flood at.left at.top c (and_parts (has cells c) _ (sym (has-filter (is_flooded flood at.left at.top) cells c) ∙ e)).1 in
        let w = is.inside s.r s.i s.lit in
        let a = w.below in let b = w.east in
        ap (has (cells_on at flood)) (s.place ∙ sym (cell 0 s.r s.i refl))
        ∙ shows_cells at flood 0 s.r s.i (omega (arith, word_columns)) (omega (arith, high)) (omega arith)
        ∙ ap (λ (n : ℕ). bit_at (slice_index flood n) s.i == 1) (word 0 s.r refl) ∙ ap (λ (n : ℕ). n == 1) s.lit

    back : (c : Cell) → has (cells_on at flood) c ≡ true → has (cluster_in flood at.left at.top cells) c ≡ true
    back c e =
        let bit = bit_of_cell at flood c e in
        let k = bit.0 in
        let spot = placed at k bit.1 in
        let word_column = k / 64 / at.rows in
        let r = k / 64 % at.rows in
        let i = k % 64 in
        let first : word_column ≡ 0 = let low = spot.word_column in omega (arith, word_columns, low) in
        let place : c ≡ in_window at.left at.top i r = bit.3 ∙ cell word_column r i first in
        let lit : bit_in flood r i ≡ 1 =
        ap (λ (n : ℕ). bit_at (slice_index flood n) i) (sym (word word_column r first) ∙ spot.word) ∙ eqb-true _ 1 bit.2 in
        let alive = linked-has cells (in_window at.left at.top column row) (in_window at.left at.top i r)
        (is.linked cells at.left at.top shows r i lit) in
        has-filter (is_flooded flood at.left at.top) cells c
        ∙ (λ t. (ap (has cells) place ∙ alive) t && spot-flooded flood at.left at.top c (record { r = r; i = i; place = place; lit = lit }) t)
