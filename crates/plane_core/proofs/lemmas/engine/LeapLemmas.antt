-- The board after a leap.
use Rattle.std.proofs.Common.{◌≡◌, ◌==◌, ◌+◌, ◌-◌, ◌*◌, ◌/◌, ◌%◌, ◌<◌, ◌≤◌, ℕ, ℤ, pos, ◌+ℤ◌, cond, List, [], length, length-set, set}
use Rattle.std.proofs.Common.{arith, refl, ap, ◌∙◌, sym, subst, inl, inr, ◌⊎◌, replicate, get_or, slice_index, slice_index_or}
use Rattle.std.proofs.Common.{IsSomeAnd, Option}
use Rattle.std.specs.Int.{bit_at}
use Rattle.std.specs.List.{All}
use Rattle.std.proofs.lemmas.Bool.{cases_eq, cases_lt}
use Rattle.std.proofs.lemmas.Int.{ints}
use Rattle.std.proofs.lemmas.List.{get_or_default, get_or-replicate, get_or-set_other, get_or-set_same}
use Rattle.std.proofs.lemmas.Nat.{div_below, mod_below}
use Rattle.std.proofs.lemmas.Nat.Bits.{bit_at-zero}
use Rattle.plane_core.specs.declared.plane.bounds.Bounds.{Bounds}
use Rattle.plane_core.specs.declared.plane.cell.Cell.{Cell}
use Rattle.plane_core.specs.declared.engine.difference_box.DifferenceMask.{DifferenceMask}
use Rattle.plane_core.specs.declared.engine.frame.Frame.{Frame}
use Rattle.plane_core.specs.declared.engine.leap_window.LeapWindow.{LeapWindow}
use Rattle.plane_core.specs.plane.Bounds.{AreSidesWithin, IsWithin}
use Rattle.plane_core.specs.engine.ActiveBoxes.{HoldsDifference, IsInOne, box_bound}
use Rattle.plane_core.specs.plane.Cells.{InOrder, has}
use Rattle.plane_core.specs.engine.WindowDifferences.{DiffersOnlyIn}
use Rattle.plane_core.specs.windows.Rows.{ShowsInAllRows}
use Rattle.plane_core.specs.engine.Frames.{Shows, board_cell, word_of}
use Rattle.plane_core.specs.plane.Generations.{after}
use Rattle.plane_core.specs.engine.Leaps.{ArePutBack, AreRun, IsRun, IsRunAt, ShowsInner}
use Rattle.plane_core.specs.engine.WindowIo.{AreRowsRead, IsInner, IsPutBack, bit_on, cell_on}
use Rattle.plane_core.specs.engine.LeapWindows.{MarksDifferences, IsInnerCell, compared_with}
use Rattle.plane_core.specs.plane.Rules.{Numbers}
use Rattle.plane_core.specs.windows.Windows.{IsLaterWindow, IsShownInside, row_at}
use Rattle.plane_core.proofs.lemmas.engine.ActiveBoxLemmas.{HoldFirst, hold_more}
use Rattle.plane_core.proofs.lemmas.engine.WindowIoLemmas.{read_packed}
use Rattle.plane_core.proofs.lemmas.plane.RunLemmas.{after-plus, in_order-after}
use Rattle.plane_core.proofs.lemmas.windows.WindowLemmas.{same_cell_at}
use Rattle.plane_core.proofs.lemmas.Between.{HasLeapt, IsReadAt}

-- ---- what has changed in a window

marks_differences : (n : ℕ) (p : LeapWindow) (one other : List Cell) (x y : List (List ℕ)) (change : DifferenceMask) → p.rows ≡ 4 * n
    → IsShownInside n p.left p.top 4 x one → IsShownInside n p.left p.top 4 y other → DiffersOnlyIn n change x y → MarksDifferences p one other change
marks_differences n p one other x y change height sx sy differs = record {
  columns = λ i r a b d e none.
      let inside : r + 4 < 4 * n = omega (arith, e, height) in
      sx r i d inside a (omega (arith, b)) ∙ ap (λ (n : ℕ). n == 1) (differs.columns r i d inside a b none)
      ∙ sym (sy r i d inside a (omega (arith, b)));
  rows = λ i r a b d e none.
      let inside : r + 4 < 4 * n = omega (arith, e, height) in
      sx r i d inside a (omega (arith, b)) ∙ ap (λ (n : ℕ). n == 1) (differs.rows r i d inside a b none)
      ∙ sym (sy r i d inside a (omega (arith, b)));
}

-- a window of empty rows shows the empty pattern
empty_window : (n : ℕ) (left top : ℤ) → IsShownInside n left top 4 (replicate n (replicate 4 0)) []
empty_window n left top r i a b d e =
    let some : 0 < n = omega (arith, b) in
    let low : r < 4 * n = omega (arith, b) in
    let vector : get_or (replicate n (replicate 4 0)) (r % n) [] ≡ replicate 4 0 = get_or-replicate n (r % n) (replicate 4 0) [] (mod_below r n some) in
    let row : row_at n (replicate n (replicate 4 0)) r ≡ 0 =
    ap (λ (v : List ℕ). slice_index v (r / n)) vector ∙ get_or-replicate 4 (r / n) 0 0 (div_below r n 4 some low) in
    ap (λ (n : ℕ). n == 1) (sym (ap (λ (w : ℕ). bit_at w i) row ∙ bit_at-zero i))

-- If window y is window x after one or three generations, and `change` marks where y differs from an empty window, then
-- y and `change` are the result of running x for these generations.
pub run_odd : (n : ℕ) (rule : Numbers) (count : ℕ) (x y : List (List ℕ)) (change : DifferenceMask) → count ≤ 4 → count % 2 ≡ 1 → IsLaterWindow rule n x y count
    → DiffersOnlyIn n change y (replicate n (replicate 4 0)) → IsRun n rule count x y change
run_odd n rule count x y change few odd made differs p cells height o shown = (
  later,
  subst (λ (S : List Cell). MarksDifferences p (after rule cells count) S change) (sym none)
      (marks_differences n p (after rule cells count) [] y (replicate n (replicate 4 0)) change height later (empty_window n p.left p.top) differs),
)
  where
    later : IsShownInside n p.left p.top 4 y (after rule cells count)
    later r i a b d e = made cells p.left p.top 0 o shown r i (omega arith) (omega arith) (omega arith) (omega arith)

    none : compared_with rule cells count ≡ []
    none = ap (λ (n : ℕ). cond (n == 0) (after rule cells (count - 2)) []) odd

-- If window z is window x after two or four generations, y is the window two generations before z, and `change` marks
-- where z differs from y, then z and `change` are the result of running x for these generations.
pub run_even : (n : ℕ) (rule : Numbers) (count : ℕ) (x y z : List (List ℕ)) (change : DifferenceMask) → 2 ≤ count → count ≤ 4 → count % 2 ≡ 0
    → IsLaterWindow rule n x y (count - 2) → IsLaterWindow rule n y z 2 → DiffersOnlyIn n change z y → IsRun n rule count x z change
run_even n rule count x y z change some few even first second differs p cells height o shown = (
  later,
  subst (λ (S : List Cell). MarksDifferences p (after rule cells count) S change) (sym before)
      (marks_differences n p (after rule cells count) (after rule cells (count - 2)) z y change height later earlier differs),
)
  where
    shown_then : IsShownInside n p.left p.top (0 + (count - 2)) y (after rule cells (count - 2))
    shown_then = first cells p.left p.top 0 o shown

    earlier : IsShownInside n p.left p.top 4 y (after rule cells (count - 2))
    earlier r i a b d e = shown_then r i (omega arith) (omega arith) (omega arith) (omega arith)

    sum : after rule (after rule cells (count - 2)) 2 ≡ after rule cells count
    sum = let whole : count - 2 + 2 ≡ count = omega arith in after-plus rule cells (count - 2) 2 ∙ ap (after rule cells) whole

    shown_now : IsShownInside n p.left p.top (0 + (count - 2) + 2) z (after rule cells count)
    shown_now =
        subst (λ (S : List Cell). IsShownInside n p.left p.top (0 + (count - 2) + 2) z S) sum
        (second (after rule cells (count - 2)) p.left p.top (0 + (count - 2)) (in_order-after rule cells (count - 2) o) shown_then)

    later : IsShownInside n p.left p.top 4 z (after rule cells count)
    later r i a b d e = shown_now r i (omega arith) (omega arith) (omega arith) (omega arith)

    before : compared_with rule cells count ≡ after rule cells (count - 2)
    before = ap (λ (n : ℕ). cond (n == 0) (after rule cells (count - 2)) []) even

-- ---- what a board shows, by columns and rows

pub shows_bit : (at : Frame) (words : List ℕ) (cells : List Cell) (u v : ℕ) → Shows at words cells → u < 64 * at.word_columns → v < at.rows
    → has cells (cell_on at u v) ≡ (bit_on at words u v == 1)
shows_bit at words cells u v shows hu hv =
    ap (has cells) (same_cell_at _ _ (at.left +ℤ pos (64 * (u / 64) + u % 64)) (at.top +ℤ pos v) (omega (arith, ints)) refl)
    ∙ shows (u / 64) v (u % 64) (omega arith) hv (omega arith)

bit_of_lane : (at : Frame) (words : List ℕ) (s r i : ℕ) → i < 64 → bit_on at words (64 * s + i) r ≡ bit_at (slice_index words (word_of at s r)) i
bit_of_lane at words s r i low =
    let word_column : (64 * s + i) / 64 ≡ s = omega arith in
    let bit : (64 * s + i) % 64 ≡ i = omega arith in
    λ t. bit_at (slice_index words (word_of at (word_column t) r)) (bit t)

-- a window that was read shows what the board shows
pub shown_read : (at : Frame) (p : LeapWindow) (words : List ℕ) (x y n : ℕ) (window : List (List ℕ)) (cells : List Cell) → x / 64 + 1 < at.word_columns
    → y + 4 * n ≤ at.rows → p.left ≡ at.left +ℤ pos x → p.top ≡ at.top +ℤ pos y → Shows at words cells → IsReadAt at words x y n window
    → IsShownInside n p.left p.top 0 window cells
shown_read at p words x y n window cells word_columns rows left top shows read r i a low d inside =
    ap (has cells) (same_cell_at _ _ (at.left +ℤ pos (x + i)) (at.top +ℤ pos (y + r)) (omega (arith, ints)) (omega (arith, ints)))
    ∙ shows_bit at words cells (x + i) (y + r) shows (omega arith) (omega arith)
    ∙ ap (λ (m : ℕ). m == 1) (sym (read r i (omega arith) (omega arith)))

-- rows that were read show what the board shows
pub rows_shown : (at : Frame) (left top : ℤ) (words : List ℕ) (x y : ℕ) (rows : List ℕ) (cells : List Cell) → x / 64 + 1 < at.word_columns → y + 64 ≤ at.rows
    → left ≡ at.left +ℤ pos x → top ≡ at.top +ℤ pos y → Shows at words cells → AreRowsRead at words x y 64 rows → ShowsInAllRows left top rows cells
rows_shown at left top words x y rows cells word_columns fit west north shows read r i hr hi =
    ap (has cells) (same_cell_at _ _ (at.left +ℤ pos (x + i)) (at.top +ℤ pos (y + r)) (omega (arith, ints)) (omega (arith, ints)))
    ∙ shows_bit at words cells (x + i) (y + r) shows (omega arith) (omega arith) ∙ ap (λ (m : ℕ). m == 1) (sym (read r i hr hi))

-- the window packed from rows shows what the rows show
pub window_shown : (left top : ℤ) (rows : List ℕ) (window : List (List ℕ)) (cells : List Cell) → ShowsInAllRows left top rows cells
    → ((r : ℕ) → r < 64 → row_at 16 window r ≡ slice_index rows r) → IsShownInside 16 left top 0 window cells
window_shown left top rows window cells shows packed r i a low d inside =
    shows r i (omega (arith, low)) (omega (arith, inside)) ∙ ap (λ (w : ℕ). bit_at w i == 1) (sym (packed r (omega (arith, low))))

-- in the inner part of a window that was read and run, the rows show the board `count` generations later
pub run_place : (at : Frame) (p : LeapWindow) (words : List ℕ) (rule : Numbers) (count x y n : ℕ) (read : List ℕ) (window later : List (List ℕ)) (rows : List ℕ)
    (change : DifferenceMask) → p.rows ≡ 4 * n → x / 64 + 1 < at.word_columns → y + p.rows ≤ at.rows → p.left ≡ at.left +ℤ pos x → p.top ≡ at.top +ℤ pos y
    → AreRowsRead at words x y (4 * n) read → ((r : ℕ) → r < 4 * n → row_at n window r ≡ slice_index read r) → IsRun n rule count window later change
    → ((r : ℕ) → r < 4 * n → slice_index rows r ≡ row_at n later r) → IsRunAt at words rule count p rows change
run_place at p words rule count x y n read window later rows change height word_columns fit left top is_read packed run unpacked cells o shows =
    let both =
    run p cells height o
    (shown_read at p words x y n window cells word_columns (omega (arith, fit, height)) left top shows (read_packed at words x y n read window is_read packed)) in (
      λ r i a b d e.
          let inside : r + 4 < 4 * n = omega (arith, b, height) in
          both.0 r i a inside d (omega (arith, e)) ∙ ap (λ (w : ℕ). bit_at w i == 1) (sym (unpacked r (omega (arith, inside)))),
      both.1,
    )

-- ---- one window after another

-- Each of the first `done` windows was run: its rows in `held` show the board `count` generations later. If that
-- generation and the pattern that it is compared with differ in an inner cell of the window, the cell is in a box.
pub record AreRunFirst (at : Frame) (words : List ℕ) (rule : Numbers) (count : ℕ) (places : List LeapWindow) (held : List (List ℕ))
    (boxes : List Bounds) (done : ℕ) : Type 0 where
  pub long : length places ≤ length held
  pub run : (k : ℕ) (p : LeapWindow) (cells : List Cell) → k < done → InOrder cells → Shows at words cells
      → ShowsInner (slice_index_or places k p) (slice_index_or held k []) (after rule cells count)
  pub differences : (cells : List Cell) → InOrder cells → Shows at words cells
      → HoldFirst done places (after rule cells count) (compared_with rule cells count) boxes
  pub sides : All (AreSidesWithin box_bound) boxes

pub run_more : (at : Frame) (words : List ℕ) (rule : Numbers) (count : ℕ) (places : List LeapWindow) (held : List (List ℕ)) (boxes boxes2 : List Bounds)
    (done : ℕ) (q : LeapWindow) (rows : List ℕ) (change : DifferenceMask) (found : Option Bounds) → AreRunFirst at words rule count places held boxes done
    → done < length places → IsRunAt at words rule count (get_or places done q) rows change
    → ((one other : List Cell) → MarksDifferences (get_or places done q) one other change → HoldsDifference (get_or places done q) one other found)
    → ((c : Cell) → IsInOne boxes c → IsInOne boxes2 c)
    → ((c : Cell) → IsSomeAnd found (λ b. IsWithin b c) → IsInOne boxes2 c) → All (AreSidesWithin box_bound) boxes2
    → AreRunFirst at words rule count places (set held done rows) boxes2 (done + 1)
run_more at words rule count places held boxes boxes2 done q rows change found before less here difference kept added sides = record {
  long = omega (arith, before.long, length-set held done rows);
  run = λ k p cells low o shows. each k p cells o shows low (cases_eq k done);
  differences = λ cells o shows.
      hold_more done places (after rule cells count) (compared_with rule cells count) boxes boxes2 found q less
      (difference _ _ (here cells o shows).1) kept added (before.differences cells o shows);
  sides = sides;
}
  where
    inside : done < length held
    inside = omega (arith, before.long, less)

    each : (k : ℕ) (p : LeapWindow) (cells : List Cell) → InOrder cells → Shows at words cells → k < done + 1 → (k ≡ done) ⊎ (k ≡ done → ⊥)
        → ShowsInner (slice_index_or places k p) (slice_index_or (set held done rows) k []) (after rule cells count)
    each k p cells o shows low (inl same) =
        subst (λ (m : ℕ). ShowsInner (slice_index_or places m p) (slice_index_or (set held done rows) m []) (after rule cells count)) (sym same)
        (subst (λ (a : List ℕ). ShowsInner (slice_index_or places done p) a (after rule cells count)) (sym (get_or-set_same held done rows [] inside))
        (subst (λ (r : LeapWindow). ShowsInner r rows (after rule cells count)) (get_or_default places done q p less) (here cells o shows).0))
    each k p cells o shows low (inr apart) =
        subst (λ (a : List ℕ). ShowsInner (slice_index_or places k p) a (after rule cells count))
        (sym (get_or-set_other held done k rows [] apart)) (before.run k p cells (omega (arith, low, apart)) o shows)

-- ---- putting back

-- a cell of the inner part is in an inner column and an inner row
inner_place : (at : Frame) (p : LeapWindow) (x y end u v : ℕ) → p.left ≡ at.left +ℤ pos x → p.top ≡ at.top +ℤ pos y → end + 4 ≡ p.rows
    → IsInnerCell p (cell_on at u v) → IsInner x y end u v
inner_place at p x y end u v left top height inner =
    let a = inner.left in
    let b = inner.right in
    let d = inner.top in
    let e = inner.bottom in
    record {
      column = record { i = u - x; low = omega (arith, ints); high = omega (arith, ints); is = omega (arith, ints) };
      row = record { r = v - y; low = omega (arith, ints); high = omega (arith, ints); is = omega (arith, ints) };
    }

pub back_more : (at : Frame) (places : List LeapWindow) (held : List (List ℕ)) (old mid new : List ℕ) (k x y end : ℕ)
    → ((p : LeapWindow) → (slice_index_or places k p).left ≡ at.left +ℤ pos x)
    → ((p : LeapWindow) → (slice_index_or places k p).top ≡ at.top +ℤ pos y) → ((p : LeapWindow) → end + 4 ≡ (slice_index_or places k p).rows)
    → ArePutBack at places held k old mid
    → IsPutBack at x y end (slice_index_or held k []) mid new → ArePutBack at places held (k + 1) old new
back_more at places held old mid new k x y end left top height before put cells shown u v hu hv =
    split (put u v hu hv) (before cells (λ m p low. shown m p (omega arith)) u v hu hv)
  where
    some_place : LeapWindow
    some_place = record { left = pos 0; top = pos 0; rows = 0 }

    split : ((c : IsInner x y end u v) × (bit_on at new u v ≡ bit_at (slice_index (slice_index_or held k []) c.row.r) c.column.i))
        ⊎ ((IsInner x y end u v → ⊥) × (bit_on at new u v ≡ bit_on at mid u v))
        → (has cells (cell_on at u v) ≡ (bit_on at mid u v == 1))
        ⊎ (((m : ℕ) (p : LeapWindow) → m < k → IsInnerCell (slice_index_or places m p) (cell_on at u v) → ⊥) × (bit_on at mid u v ≡ bit_on at old u v))
        → (has cells (cell_on at u v) ≡ (bit_on at new u v == 1))
        ⊎ (((m : ℕ) (p : LeapWindow) → m < k + 1 → IsInnerCell (slice_index_or places m p) (cell_on at u v) → ⊥) × (bit_on at new u v ≡ bit_on at old u v))
    split (inl (c, is)) known =
        let column = c.column.is in
        let row = c.row.is in
        let west = left some_place in
        let north = top some_place in
        let high = c.row.high in
        let below : c.row.r + 4 < (slice_index_or places k some_place).rows = omega (arith, high, height some_place) in
        inl (ap (has cells) (same_cell_at _ _ ((slice_index_or places k some_place).left +ℤ pos c.column.i)
        ((slice_index_or places k some_place).top +ℤ pos c.row.r) (omega (arith, ints)) (omega (arith, ints)))
        ∙ shown k some_place (omega arith) c.row.r c.column.i c.row.low below c.column.low c.column.high ∙ ap (λ (n : ℕ). n == 1) (sym is))
    split (inr (off, kept)) (inl same) = inl (same ∙ ap (λ (n : ℕ). n == 1) (sym kept))
    split (inr (off, kept)) (inr (none, same)) = inr (each, kept ∙ same)
      where
        each : (m : ℕ) (p : LeapWindow) → m < k + 1 → IsInnerCell (slice_index_or places m p) (cell_on at u v) → ⊥
        each m p low inner = by_place (cases_lt m k)
          where
            by_place : (m < k) ⊎ (k ≤ m) → ⊥
            by_place (inl less) = none m p less inner
            by_place (inr last) =
                let is : m ≡ k = omega arith in
                off (inner_place at (slice_index_or places k p) x y end u v (left p) (top p) (height p)
                (subst (λ (q : ℕ). IsInnerCell (slice_index_or places q p) (cell_on at u v)) is inner))

-- ---- the whole leap

pub leapt : (at : Frame) (rule : Numbers) (count : ℕ) (places : List LeapWindow) (held : List (List ℕ)) (boxes : List Bounds) (old new : List ℕ)
    → AreRun at old rule count places held boxes → ArePutBack at places held (length places) old new → HasLeapt at rule count places old new
leapt at rule count places held boxes old new ran put cells o shows off s r i hs hr hi =
    split (put (after rule cells count) (λ k p low. ran.run k p cells low o shows) (64 * s + i) r (omega arith) hr)
  where
    c : Cell
    c = board_cell at s r i

    new_bit : bit_on at new (64 * s + i) r ≡ bit_at (slice_index new (word_of at s r)) i
    new_bit = bit_of_lane at new s r i hi

    split : (has (after rule cells count) c ≡ (bit_on at new (64 * s + i) r == 1))
        ⊎ (((k : ℕ) (p : LeapWindow) → k < length places → IsInnerCell (slice_index_or places k p) c → ⊥)
        × (bit_on at new (64 * s + i) r ≡ bit_on at old (64 * s + i) r))
        → has (after rule cells count) c ≡ (bit_at (slice_index new (word_of at s r)) i == 1)
    split (inl is) = is ∙ ap (λ (n : ℕ). n == 1) new_bit
    split (inr (none, kept)) =
        off c (λ (k, p, low, is, inner). none k p low (subst (λ (q : LeapWindow). IsInnerCell q c) (sym is) inner))
        ∙ shows s r i hs hr hi
        ∙ ap (λ (n : ℕ). n == 1) (sym (bit_of_lane at old s r i hi) ∙ sym kept ∙ new_bit)
