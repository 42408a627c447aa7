-- The next generation of a board, made in windows and listed row by row.
use Rattle.std.proofs.Common.{◌≡◌, ◌≢◌, ◌==◌, ◌∙◌, ◌+◌, ◌-◌, ◌*◌, ◌/◌, ◌%◌, ◌<◌, ◌≤◌, ℕ, ℤ, pos, ◌+ℤ◌, ◌-ℤ◌, ◌≤ℤ◌, ◌<ℤ◌, Bool, true, false, List, [], ◌∷◌, ◌++◌}
use Rattle.std.proofs.Common.{All, Any, arith, refl, ap, sym, subst, inl, inr, ◌⊎◌, get_or, length, max, min, slice_index, take, unsigned_abs, bit_and, bit_or}
use Rattle.std.specs.Int.{bit_at}
use Rattle.std.proofs.lemmas.Bool.{eqb-true, false≢true}
use Rattle.std.proofs.lemmas.Int.{ints}
use Rattle.std.proofs.lemmas.List.Elements.{All-nil, All-push}
use Rattle.std.proofs.lemmas.Nat.Bits.{bit_at_and, bit_at_or}
use Rattle.plane_core.specs.declared.plane.cell.Cell.{Cell}
use Rattle.plane_core.specs.declared.engine.board.next_pattern.NextRows.{NextRows}
use Rattle.plane_core.specs.declared.engine.frame.Frame.{Frame}
use Rattle.plane_core.specs.declared.engine.row_spans.Hull.{Hull}
use Rattle.plane_core.specs.declared.engine.row_spans.RowSpan.{RowSpan}
use Rattle.plane_core.specs.plane.Bounds.{AreSidesWithin, IsWithin}
use Rattle.plane_core.specs.plane.Cells.{IsPattern, cell_at, distance, has, king_distance, on_plane, plane_bound, set_of}
use Rattle.plane_core.specs.plane.Generations.{after, next}
use Rattle.plane_core.specs.plane.Rules.{Numbers}
use Rattle.plane_core.specs.engine.Frames.{LieOn, bounds_of}
use Rattle.plane_core.specs.engine.Listing.{AreAmong, HasRead}
use Rattle.plane_core.specs.engine.NextListing.{AreBandOf, AreNextRows, AreOnBoard, HasListedAbove, HasListedRows, HasRim, IsNextWindowOf, LiesInHull, ShowsInnerRows}
use Rattle.plane_core.specs.engine.OnBoard.{cells_on}
use Rattle.plane_core.specs.engine.RowSpans.{HoldsSpans, IsInHull, LieInSpans}
use Rattle.plane_core.specs.engine.WindowIo.{AreRowsRead, IsInnerColumn, bit_on, cell_on, inner_mask}
use Rattle.plane_core.specs.windows.Windows.{IsNextWindow, IsShownInside, row_at}
use Rattle.plane_core.proofs.lemmas.engine.ActiveBoxLemmas.{any_pushed, any_take_more}
use Rattle.plane_core.proofs.lemmas.engine.FrameLemmas.{spot_inside, spot_of}
use Rattle.plane_core.proofs.lemmas.engine.LeapLemmas.{shown_read, shows_bit}
use Rattle.plane_core.proofs.lemmas.engine.OnBoardLemmas.{cells_in_order, cells_lie_on}
use Rattle.plane_core.proofs.lemmas.engine.QuietLemmas.{none-after}
use Rattle.plane_core.proofs.lemmas.engine.WindowIoLemmas.{inner_bit}
use Rattle.plane_core.proofs.lemmas.plane.BoxRoundLemmas.{lies_in}
use Rattle.plane_core.proofs.lemmas.plane.CaseLemmas.{less_or_not, same_or_not}
use Rattle.plane_core.proofs.lemmas.plane.GenerationLemmas.{after-none}
use Rattle.plane_core.proofs.lemmas.plane.PartLemmas.{near-after}
use Rattle.plane_core.proofs.lemmas.plane.RunLemmas.{in_order-after}
use Rattle.plane_core.proofs.lemmas.plane.SetLemmas.{is_set_of}
use Rattle.plane_core.proofs.lemmas.plane.SpeedLemmas.{after-suc}
use Rattle.plane_core.proofs.lemmas.windows.WindowLemmas.{same_cell_at, shown_next}
use Rattle.plane_core.proofs.lemmas.Between.{IsReadAt}

-- ---- one window

-- the pattern after one generation is the next generation
pub after-one : (rule : Numbers) (S : List Cell) → after rule S 1 ≡ next rule S
after-one rule S = after-suc rule S 0 ∙ ap (next rule) (after-none rule S)

-- a bit that is 0 in the union of the first r + 1 rows is 0 in each of these rows
pub rows_more : (rows : List ℕ) (r all : ℕ) → ((i : ℕ) → bit_at all i ≡ 0 → (k : ℕ) → k < r → bit_at (slice_index rows k) i ≡ 0)
    → (i : ℕ) → bit_at (bit_or all (slice_index rows r)) i ≡ 0 → (k : ℕ) → k < r + 1 → bit_at (slice_index rows k) i ≡ 0
rows_more rows r all before i none k low = go (same_or_not k r)
  where
    both : bit_at (bit_or all (slice_index rows r)) i ≡ max (bit_at all i) (bit_at (slice_index rows r) i)
    both = bit_at_or all (slice_index rows r) i

    go : (k ≡ r) ⊎ (k ≢ r) → bit_at (slice_index rows k) i ≡ 0
    go (inl same) = ap (λ (n : ℕ). bit_at (slice_index rows n) i) same ∙ omega (arith, both, none)
    go (inr apart) = before i (omega (arith, both, none)) k (omega arith)

-- a window that was read and run shows the next generation in its inner part
pub next_shown : (at : Frame) (words : List ℕ) (rule : Numbers) (x y : ℕ) (window later : List (List ℕ)) (rows : List ℕ) → x / 64 + 1 < at.word_columns
    → y + 40 ≤ at.rows → IsReadAt at words x y 10 window → IsNextWindow rule 10 window later
    → ((r : ℕ) → r < 40 → slice_index rows r ≡ row_at 10 later r) → AreNextRows at words rule x y rows
next_shown at words rule x y window later rows columns fits read run unpacked cells order shows r i a b d e =
    ap (λ (S : List Cell). has S (cell_on at (x + i) (y + r))) (after-one rule cells)
    ∙ ap (has (next rule cells)) (same_cell_at _ _ (left +ℤ pos i) (top +ℤ pos r) (omega (arith, ints)) (omega (arith, ints)))
    ∙ shown r i (omega arith) (omega arith) (omega arith) (omega arith)
    ∙ ap (λ (w : ℕ). bit_at w i == 1) (sym (unpacked r (omega arith)))
  where
    left : ℤ
    left = at.left +ℤ pos x

    top : ℤ
    top = at.top +ℤ pos y

    shown : IsShownInside 10 left top 1 later (next rule cells)
    shown = shown_next rule cells 10 left top 0 window later order
        (shown_read at (record { left = left; top = top; rows = 40 }) words x y 10 window cells columns fits refl refl shows read) run

-- a column or row next to an inner one is in the window
near_by : (first at : ℤ) (from i end : ℕ) → 4 ≤ i → end ≤ 60 → i < end → distance (first +ℤ pos (from + i)) at ≤ 1
    → (unsigned_abs (at -ℤ (first +ℤ pos from)) < end + 1) × (at ≡ first +ℤ pos (from + unsigned_abs (at -ℤ (first +ℤ pos from))))
near_by first at from i end low most high near = (omega (arith, ints, near), omega (arith, ints, near))

-- if the window has no live cell, its inner part has none in the next generation
pub empty_shown : (at : Frame) (words : List ℕ) (rule : Numbers) (x y : ℕ) (rows : List ℕ) → x / 64 + 1 < at.word_columns → y + 40 ≤ at.rows
    → AreRowsRead at words x y 40 rows → ((r i : ℕ) → r < 40 → bit_at (slice_index rows r) i ≡ 0) → AreNextRows at words rule x y rows
empty_shown at words rule x y rows columns fits read empty cells order shows r i d_low e a_low b =
    none-after rule cells 1 (cell_on at (x + i) (y + r)) dead ∙ ap (λ (n : ℕ). n == 1) (sym (empty r i (omega arith)))
  where
    at_spot : (d : Cell) (u v : ℕ) → u < 64 → v < 40 → d ≡ cell_on at (x + u) (y + v) → ¬ (has cells d ≡ true)
    at_spot d u v hu hv is alive =
        let bit = read v u hv hu in
        let none : bit_on at words (x + u) (y + v) ≡ 0 = sym bit ∙ empty v u hv in
        false≢true (sym (ap (has cells) is ∙ shows_bit at words cells (x + u) (y + v) shows (omega arith) (omega arith) ∙ ap (λ (n : ℕ). n == 1) none) ∙ alive)

    dead : (d : Cell) → king_distance (cell_on at (x + i) (y + r)) d ≤ 1 → ¬ (has cells d ≡ true)
    dead d near =
        let across = near_by at.left d.x x i 60 a_low (omega arith) b (omega (arith, near)) in
        let down = near_by at.top d.y y r 36 d_low (omega arith) e (omega (arith, near)) in
        at_spot d (unsigned_abs (d.x -ℤ (at.left +ℤ pos x))) (unsigned_abs (d.y -ℤ (at.top +ℤ pos y))) (omega (arith, across.0)) (omega (arith, down.0))
        (same_cell_at d.x d.y _ _ across.1 down.1)

-- ---- a band of windows

pub band_none : (at : Frame) (y from : ℕ) (cells : List Cell) (windows : List NextRows) → windows ≡ [] → AreBandOf at y from from cells windows
band_none at y from cells windows none = record {
  each = subst (All (IsNextWindowOf at y cells)) (sym none) (All-nil (IsNextWindowOf at y cells));
  covered = λ u v a b d e. absurd (omega arith);
}

-- with one more window, the windows show 56 more columns of the band
pub band_more : (at : Frame) (y from x : ℕ) (cells : List Cell) (windows new : List NextRows) (window : NextRows) → window.x ≡ x
    → IsNextWindowOf at y cells window → new ≡ windows ++ window ∷ [] → AreBandOf at y from (x + 4) cells windows → AreBandOf at y from (x + 56 + 4) cells new
band_more at y from x cells windows new window here is pushed before = record {
  each = subst (All (IsNextWindowOf at y cells)) (sym pushed) (All-push (IsNextWindowOf at y cells) windows window before.each is);
  covered = λ u v a b d e alive. any_pushed (λ (w : NextRows). IsInnerColumn w.x u) windows new window pushed (place u v a b d e alive (less_or_not u (x + 4)));
}
  where
    place : (u v : ℕ) → y + 4 ≤ v → v < y + 36 → from ≤ u → u < x + 56 + 4 → has cells (cell_on at u v) ≡ true → (u < x + 4) ⊎ (x + 4 ≤ u)
        → Any (λ (w : NextRows). IsInnerColumn w.x u) windows ⊎ IsInnerColumn window.x u
    place u v a b d e alive (inl low) = inl (before.covered u v a b d low alive)
    place u v a b d e alive (inr past) =
        inr (record { i = u - x; low = omega arith; high = omega arith; is = omega (arith, here) })

-- a window without live cells can be skipped: the band has no live cell in its 56 columns, so the windows so far still
-- show all live cells of the band before column x + 60
pub band_skipped : (at : Frame) (y from x : ℕ) (cells : List Cell) (windows : List NextRows) (rows : List ℕ) → ShowsInnerRows at x y rows cells
    → ((r i : ℕ) → r < 40 → bit_at (slice_index rows r) i ≡ 0) → AreBandOf at y from (x + 4) cells windows → AreBandOf at y from (x + 56 + 4) cells windows
band_skipped at y from x cells windows rows shown empty before = record {
  each = before.each;
  covered = λ u v a b d e alive. place u v a b d e alive (less_or_not u (x + 4));
}
  where
    place : (u v : ℕ) → y + 4 ≤ v → v < y + 36 → from ≤ u → u < x + 56 + 4 → has cells (cell_on at u v) ≡ true → (u < x + 4) ⊎ (x + 4 ≤ u)
        → Any (λ (w : NextRows). IsInnerColumn w.x u) windows
    place u v a b d e alive (inl low) = before.covered u v a b d low alive
    place u v a b d e alive (inr past) =
        let column : u ≡ x + (u - x) = omega arith in
        let row : v ≡ y + (v - y) = omega arith in
        absurd (false≢true (sym ((λ t. has cells (cell_on at (column t) (row t))) ∙ shown (v - y) (u - x) (omega arith) (omega arith) (omega arith) (omega arith)
        ∙ ap (λ (n : ℕ). n == 1) (empty (v - y) (u - x) (omega arith))) ∙ alive))

-- windows that show a band in the columns before `wide` also show it in the columns before `end`, if `end` is at most
-- `wide`
pub band_within : (at : Frame) (y from end wide : ℕ) (cells : List Cell) (windows : List NextRows) → end ≤ wide → AreBandOf at y from wide cells windows
    → AreBandOf at y from end cells windows
band_within at y from end wide cells windows low band = record {
  each = band.each;
  covered = λ u v a b d e alive. band.covered u v a b d (omega arith) alive;
}

-- ---- rows, one window after another

-- the live cells of row v in the inner parts of the windows have been listed
pub record HasListedRow (at : Frame) (v : ℕ) (cells : List Cell) (windows : List NextRows) (old new : List Cell) : Type 0 where
  pub grows : AreAmong new old
  pub sound : AreAmong cells old → AreAmong cells new
  pub complete : (u : ℕ) → Any (λ window. IsInnerColumn window.x u) windows → has cells (cell_on at u v) ≡ true → has new (cell_on at u v) ≡ true

pub row_none : (at : Frame) (v : ℕ) (cells old : List Cell) → HasListedRow at v cells [] old old
row_none at v cells old = record { grows = λ c e. e; sound = λ among. among; complete = λ u some. absurd (omega (arith, some.2)) }

-- masking a word keeps its inner bits
masked_one : (word i : ℕ) → 4 ≤ i → i < 60 → bit_at word i ≡ 1 → bit_at (bit_and word inner_mask) i ≡ 1
masked_one word i low high one = go (inner_bit i)
  where
    both : bit_at (bit_and word inner_mask) i ≡ min (bit_at word i) (bit_at inner_mask i)
    both = bit_at_and word inner_mask i

    go : ((bit_at inner_mask i ≡ 1) × (4 ≤ i) × (i < 60)) ⊎ ((bit_at inner_mask i ≡ 0) × (4 ≤ i → i < 60 → ⊥)) → bit_at (bit_and word inner_mask) i ≡ 1
    go (inl inner) = let mask = inner.0 in omega (arith, both, one, mask)
    go (inr outer) = absurd (outer.1 low high)

one_masked : (word i : ℕ) → bit_at (bit_and word inner_mask) i ≡ 1 → (4 ≤ i) × (i < 60) × (bit_at word i ≡ 1)
one_masked word i one = go (inner_bit i)
  where
    both : bit_at (bit_and word inner_mask) i ≡ min (bit_at word i) (bit_at inner_mask i)
    both = bit_at_and word inner_mask i

    go : ((bit_at inner_mask i ≡ 1) × (4 ≤ i) × (i < 60)) ⊎ ((bit_at inner_mask i ≡ 0) × (4 ≤ i → i < 60 → ⊥)) → (4 ≤ i) × (i < 60) × (bit_at word i ≡ 1)
    go (inl inner) = let mask = inner.0 in (inner.1, inner.2, omega (arith, both, one, mask))
    go (inr outer) = let mask = outer.0 in absurd (omega (arith, both, one, mask))

-- after a row of window k is read, this row of the first k + 1 windows has been listed
pub row_more : (at : Frame) (y r k : ℕ) (cells : List Cell) (windows : List NextRows) (window : NextRows) (word : ℕ) (first : Cell) (old mid new : List Cell)
    → 4 ≤ r → r < 36 → k < length windows → window ≡ get_or windows k window → IsNextWindowOf at y cells window
    → word ≡ bit_and (slice_index window.rows r) inner_mask → first ≡ cell_on at window.x (y + r) → HasListedRow at (y + r) cells (take k windows) old mid
    → HasRead word first mid 64 new → HasListedRow at (y + r) cells (take (k + 1) windows) old new
row_more at y r k cells windows window word first old mid new low high there is shows word_is first_is before read = record {
  grows = λ c e. read.grows c (before.grows c e);
  sound = λ among. read.sound cells alive (before.sound among);
  complete = λ u some live. found u live (any_take_more (λ (w : NextRows). IsInnerColumn w.x u) windows k window there some);
}
  where
    cell : (i : ℕ) → cell_at (first.x +ℤ pos i) first.y ≡ cell_on at (window.x + i) (y + r)
    cell i = ap (λ (c : Cell). cell_at (c.x +ℤ pos i) c.y) first_is
        ∙ same_cell_at _ _ (at.left +ℤ pos (window.x + i)) (at.top +ℤ pos (y + r)) (omega (arith, ints)) refl

    alive : (i : ℕ) → i < 64 → bit_at word i ≡ 1 → has cells (cell_at (first.x +ℤ pos i) first.y) ≡ true
    alive i small one =
        let inner = one_masked (slice_index window.rows r) i (ap (λ (w : ℕ). bit_at w i) (sym word_is) ∙ one) in
        ap (has cells) (cell i) ∙ shows.shown r i low high inner.0 inner.1 ∙ ap (λ (n : ℕ). n == 1) inner.2

    found : (u : ℕ) → has cells (cell_on at u (y + r)) ≡ true
        → Any (λ (w : NextRows). IsInnerColumn w.x u) (take k windows) ⊎ IsInnerColumn (get_or windows k window).x u → has new (cell_on at u (y + r)) ≡ true
    found u live (inl earlier) = read.grows (cell_on at u (y + r)) (before.complete u earlier live)
    found u live (inr here) =
        let inner : IsInnerColumn window.x u = subst (λ (w : NextRows). IsInnerColumn w.x u) (sym is) here in
        let column : u ≡ window.x + inner.i = inner.is in
        let bit : bit_at (slice_index window.rows r) inner.i ≡ 1 =
        eqb-true _ 1 (sym (shows.shown r inner.i low high inner.low inner.high) ∙ ap (λ (n : ℕ). has cells (cell_on at n (y + r))) (sym column) ∙ live) in
        let small : inner.i < 60 = inner.high in
        ap (λ (n : ℕ). has new (cell_on at n (y + r))) column ∙ ap (has new) (sym (cell inner.i))
        ∙ read.complete inner.i (omega arith) (ap (λ (w : ℕ). bit_at w inner.i) word_is ∙ masked_one (slice_index window.rows r) inner.i inner.low inner.high bit)

pub rows_none : (at : Frame) (y : ℕ) (cells : List Cell) (windows : List NextRows) (old : List Cell) → HasListedRows at y 4 cells windows old old
rows_none at y cells windows old = record { grows = λ c e. e; sound = λ among. among; complete = λ u r low high. absurd (omega arith) }

-- after row r of the windows is listed, the rows before r + 1 have been listed
pub listed_more : (at : Frame) (y r : ℕ) (cells : List Cell) (windows : List NextRows) (old mid new : List Cell) → HasListedRows at y r cells windows old mid
    → HasListedRow at (y + r) cells windows mid new → HasListedRows at y (r + 1) cells windows old new
listed_more at y r cells windows old mid new before row = record {
  grows = λ c e. row.grows c (before.grows c e);
  sound = λ among. row.sound (before.sound among);
  complete = λ u q low high some live. found u q low high some live (same_or_not q r);
}
  where
    found : (u q : ℕ) → 4 ≤ q → q < r + 1 → Any (λ (w : NextRows). IsInnerColumn w.x u) windows → has cells (cell_on at u (y + q)) ≡ true
        → (q ≡ r) ⊎ (q ≢ r) → has new (cell_on at u (y + q)) ≡ true
    found u q low high some live (inl same) =
        ap (λ (n : ℕ). has new (cell_on at u (y + n))) same ∙ row.complete u some (ap (λ (n : ℕ). has cells (cell_on at u (y + n))) (sym same) ∙ live)
    found u q low high some live (inr apart) = row.grows (cell_on at u (y + q)) (before.complete u q low (omega arith) some live)

-- ---- the board

-- the cell is in column u and row v of the board, which are at most one column and one row outside the hull
pub record IsSpotOf (at : Frame) (hull : Hull) (c : Cell) : Type 0 where
  pub u : ℕ
  pub v : ℕ
  pub is : c ≡ cell_on at u v
  pub left : 64 * hull.word_columns.from ≤ u + 1
  pub right : u ≤ 64 * hull.word_columns.end
  pub top : hull.rows.from ≤ v + 1
  pub bottom : v ≤ hull.rows.end

pub next_spot : (at : Frame) (rule : Numbers) (words : List ℕ) (hull : Hull) (c : Cell) → HasRim at hull → LiesInHull at hull (cells_on at words)
    → has (after rule (cells_on at words) 1) c ≡ true → IsSpotOf at hull c
next_spot at rule words hull c rim held alive = spot (near-after rule cells 1 c alive)
  where
    cells : List Cell
    cells = cells_on at words

    beside : (d : Cell) (a b : ℕ) → pos a ≡ d.x -ℤ at.left → pos b ≡ d.y -ℤ at.top → king_distance c d ≤ 1 → IsInHull hull (a / 64) b → IsSpotOf at hull c
    beside d a b across down near inside =
        let wl = inside.word_column.low in
        let wh = inside.word_column.high in
        let rl = inside.row.low in
        let rh = inside.row.high in
        let left = rim.left in
        let top = rim.top in
        record {
          u = unsigned_abs (c.x -ℤ at.left);
          v = unsigned_abs (c.y -ℤ at.top);
          is = same_cell_at c.x c.y _ _ (omega (arith, ints)) (omega (arith, ints));
          left = omega (arith, ints);
          right = omega (arith, ints);
          top = omega (arith, ints);
          bottom = omega (arith, ints);
        }

    natural : (d a : ℤ) → a ≤ℤ d → pos (unsigned_abs (d -ℤ a)) ≡ d -ℤ a
    natural d a h = omega (arith, ints)

    spot : ((d : Cell) × (has cells d ≡ true) × (king_distance c d ≤ 1)) → IsSpotOf at hull c
    spot (d, live, near) =
        let within : IsWithin (bounds_of at) d = cells_lie_on at words d live in
        let a = unsigned_abs (d.x -ℤ at.left) in
        let b = unsigned_abs (d.y -ℤ at.top) in
        let p : pos a ≡ d.x -ℤ at.left = natural d.x at.left within.left in
        let q : pos b ≡ d.y -ℤ at.top = natural d.y at.top within.top in
        let on = spot_inside at d a b within p q in
        beside d a b p q near (held (a / 64) b (a % 64) on.0 on.1 (omega arith) (ap (has cells) (sym (spot_of at d a b p q)) ∙ live))

-- if the board has a rim around the hull, the next generation is on the board
pub next_on : (at : Frame) (rule : Numbers) (words : List ℕ) (hull : Hull) → HasRim at hull → LiesInHull at hull (cells_on at words)
    → LieOn at (after rule (cells_on at words) 1)
next_on at rule words hull rim held c alive = within (next_spot at rule words hull c rim held alive)
  where
    within : IsSpotOf at hull c → IsWithin (bounds_of at) c
    within spot =
        let x : c.x ≡ at.left +ℤ pos spot.u = ap (λ (d : Cell). d.x) spot.is in
        let y : c.y ≡ at.top +ℤ pos spot.v = ap (λ (d : Cell). d.y) spot.is in
        let right = spot.right in
        let bottom = spot.bottom in
        let columns = rim.right in
        let rows = rim.bottom in
        record { left = omega (arith, ints); top = omega (arith, ints); right = omega (arith, ints); bottom = omega (arith, ints) }

-- no cell of the next generation is above the first band, so nothing is missing from the empty list
pub above_none : (at : Frame) (rule : Numbers) (words : List ℕ) (hull : Hull) (new : List Cell) → HasRim at hull → LiesInHull at hull (cells_on at words)
    → new ≡ [] → HasListedAbove at (hull.rows.from - 5 + 4) (after rule (cells_on at words) 1) new
above_none at rule words hull new rim held none = record {
  sound = λ c e. absurd (false≢true (sym (ap (λ (S : List Cell). has S c) none) ∙ e));
  complete = λ c alive above.
      let spot = next_spot at rule words hull c rim held alive in
      let y : c.y ≡ at.top +ℤ pos spot.v = ap (λ (d : Cell). d.y) spot.is in
      let top = spot.top in
      let rows = rim.top in
      absurd (omega (arith, ints));
}

-- once the band of rows y + 4 to y + 35 has been listed, all cells above row y + 36 have been listed
pub above_more : (at : Frame) (rule : Numbers) (words : List ℕ) (hull : Hull) (y : ℕ) (windows : List NextRows) (old new : List Cell) → HasRim at hull
    → LiesInHull at hull (cells_on at words)
    → AreBandOf at y (64 * hull.word_columns.from - 5 + 4) (64 * hull.word_columns.end + 1) (after rule (cells_on at words) 1) windows
    → HasListedRows at y 36 (after rule (cells_on at words) 1) windows old new → HasListedAbove at (y + 4) (after rule (cells_on at words) 1) old
    → HasListedAbove at (y + 32 + 4) (after rule (cells_on at words) 1) new
above_more at rule words hull y windows old new rim held band listed before = record {
  sound = listed.sound before.sound;
  complete = λ c alive above. found c alive above (next_spot at rule words hull c rim held alive);
}
  where
    found : (c : Cell) → has (after rule (cells_on at words) 1) c ≡ true → c.y <ℤ (at.top +ℤ pos (y + 32 + 4)) → IsSpotOf at hull c → has new c ≡ true
    found c alive above spot = go (less_or_not spot.v (y + 4))
      where
        y_is : c.y ≡ at.top +ℤ pos spot.v
        y_is = ap (λ (d : Cell). d.y) spot.is

        go : (spot.v < y + 4) ⊎ (y + 4 ≤ spot.v) → has new c ≡ true
        go (inl early) = listed.grows c (before.complete c alive (omega (arith, ints, y_is, early)))
        go (inr late) =
            let left = spot.left in
            let right = spot.right in
            let from = rim.left in
            let high : spot.v < y + 36 = omega (arith, ints, y_is, above) in
            let live : has (after rule (cells_on at words) 1) (cell_on at spot.u spot.v) ≡ true = ap (has (after rule (cells_on at words) 1)) (sym spot.is) ∙ alive in
            let row : y + (spot.v - y) ≡ spot.v = omega arith in
            ap (has new) spot.is ∙ ap (λ (n : ℕ). has new (cell_on at spot.u n)) (sym row)
            ∙ listed.complete spot.u (spot.v - y) (omega arith) (omega arith)
            (band.covered spot.u spot.v late high (omega arith) (omega arith) live)
            (ap (λ (n : ℕ). has (after rule (cells_on at words) 1) (cell_on at spot.u n)) row ∙ live)

-- after the last band, all cells are listed
pub all_listed : (at : Frame) (rule : Numbers) (words : List ℕ) (hull : Hull) (y : ℕ) (new : List Cell) → HasRim at hull → LiesInHull at hull (cells_on at words)
    → hull.rows.end < y + 4 → HasListedAbove at (y + 4) (after rule (cells_on at words) 1) new → AreOnBoard at (after rule (cells_on at words) 1) new
all_listed at rule words hull y new rim held end listed = record {
  same = λ c. both_true (has new c) (has (after rule (cells_on at words) 1) c) (listed.sound c) (complete c);
  on = next_on at rule words hull rim held;
}
  where
    complete : (c : Cell) → has (after rule (cells_on at words) 1) c ≡ true → has new c ≡ true
    complete c alive =
        let spot = next_spot at rule words hull c rim held alive in
        let y_is : c.y ≡ at.top +ℤ pos spot.v = ap (λ (d : Cell). d.y) spot.is in
        let bottom = spot.bottom in
        listed.complete c alive (omega (arith, ints))

    both_true : (a b : Bool) → (a ≡ true → b ≡ true) → (b ≡ true → a ≡ true) → a ≡ b
    both_true true b there back = sym (there refl)
    both_true false true there back = back refl
    both_true false false there back = refl

-- if each live cell is in the spans and the hull holds the spans, each live cell is in the hull
pub hull_held : (at : Frame) (words : List ℕ) (spans : List RowSpan) (hull : Hull) → LieInSpans at spans (cells_on at words)
    → HoldsSpans spans at.word_columns hull → LiesInHull at hull (cells_on at words)
hull_held at words spans hull live holds s r i hs hr hi alive = holds s r hs (live s r i hs hr hi alive)

-- the listed cells, in order, are the next generation
pub next_listed : (at : Frame) (rule : Numbers) (words : List ℕ) (new set : List Cell) → AreOnBoard at (after rule (cells_on at words) 1) new → set ≡ set_of new
    → set ≡ next rule (cells_on at words)
next_listed at rule words new set are is =
    is ∙ sym (is_set_of (after rule (cells_on at words) 1) new (in_order-after rule (cells_on at words) 1 (cells_in_order at words)) (λ c. sym (are.same c)))
    ∙ after-one rule (cells_on at words)

-- if the board is on the plane, the next generation is a pattern
pub next_is_pattern : (at : Frame) (rule : Numbers) (words : List ℕ) (new set : List Cell) → AreSidesWithin plane_bound (bounds_of at)
    → AreOnBoard at (after rule (cells_on at words) 1) new → set ≡ set_of new → IsPattern set
unfolding on_plane
next_is_pattern at rule words new set sides are is = subst IsPattern (sym (next_listed at rule words new set are is ∙ sym (after-one rule (cells_on at words)))) (record {
  in_order = in_order-after rule (cells_on at words) 1 (cells_in_order at words);
  on_plane = lies_in (after rule (cells_on at words) 1) (bounds_of at) plane_bound are.on sides;
})
