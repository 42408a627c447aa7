-- The box around a change: if two patterns differ in an inner cell of a window, the box contains this cell.
use Rattle.std.proofs.Common.{◌≡◌, ◌≢◌, ◌+◌, ◌-◌, ◌^◌, ◌<◌, ◌≤◌, ℕ, zero, suc, ℤ, pos, ◌+ℤ◌, ◌-ℤ◌, ◌<ℤ◌, ◌≤ℤ◌, w64, unsigned_abs}
use Rattle.std.proofs.Common.{arith, refl, ap, ◌∙◌, sym, inl, inr, ◌⊎◌, List}
use Rattle.std.specs.Int.{bit_at, leading_zeros, trailing_zeros}
use Rattle.std.proofs.lemmas.Int.{ints}
use Rattle.std.proofs.lemmas.Nat.{leading_top}
use Rattle.std.proofs.lemmas.Nat.Bits.{bit_at-lt, bit_at-trailing_zeros, bit_at_above}
use Rattle.plane_core.specs.declared.plane.bounds.Bounds.{Bounds}
use Rattle.plane_core.specs.declared.plane.cell.Cell.{Cell}
use Rattle.plane_core.specs.declared.engine.difference_box.DifferenceMask.{DifferenceMask}
use Rattle.plane_core.specs.declared.engine.difference_box.BitSpan.{BitSpan}
use Rattle.plane_core.specs.declared.engine.leap_window.LeapWindow.{LeapWindow}
use Rattle.plane_core.specs.plane.Bounds.{IsWithin}
use Rattle.plane_core.specs.engine.ActiveBoxes.{HasBits, IsInReach, box_bound}
use Rattle.plane_core.specs.plane.Cells.{cell_at, has}
use Rattle.plane_core.specs.plane.Bounds.{AreSidesWithin}
use Rattle.plane_core.specs.engine.LeapWindows.{MarksDifferences, IsInnerCell}
use Rattle.plane_core.proofs.lemmas.plane.CaseLemmas.{less_or_not}

-- ---- the bits of a word

zero_or_one : (n i : ℕ) → (bit_at n i ≡ 0) ⊎ (bit_at n i ≡ 1)
zero_or_one n i = either (bit_at n i) (bit_at-lt n i)
  where
    either : (b : ℕ) → b < 2 → (b ≡ 0) ⊎ (b ≡ 1)
    either zero h = inl refl
    either (suc b) h = inr (omega arith)

pub spans : (word : ℕ) → word ≢ 0 → word < 2 ^ 64
    → HasBits word (record { first = trailing_zeros w64 word; last = 63 - leading_zeros w64 word })
spans word some small = record { first = first; last = last; order = last low.0 low.1; high = omega arith }
  where
    lowest : (trailing_zeros w64 word < 64) × (bit_at word (trailing_zeros w64 word) ≡ 1) × ((i : ℕ) → i < trailing_zeros w64 word → bit_at word i ≡ 0)
    lowest = bit_at-trailing_zeros w64 word (omega arith) small

    low : (i : ℕ) × (bit_at word i ≡ 1)
    low = (trailing_zeros w64 word, lowest.1)

    top : (j : ℕ) × (leading_zeros w64 word + suc j ≡ 64) × (2 ^ j ≤ word) × (word < 2 ^ suc j)
    top = leading_top 64 word (omega arith) small

    one : (i : ℕ) → bit_at word i ≡ 1 → ¬ (bit_at word i ≡ 0)
    one i h e = absurd (omega arith)

    first : (i : ℕ) → bit_at word i ≡ 1 → trailing_zeros w64 word ≤ i
    first i h = either (less_or_not i (trailing_zeros w64 word))
      where
        either : (i < trailing_zeros w64 word) ⊎ (trailing_zeros w64 word ≤ i) → trailing_zeros w64 word ≤ i
        either (inl less) = absurd (one i h (lowest.2 i less))
        either (inr not_less) = not_less

    last : (i : ℕ) → bit_at word i ≡ 1 → i ≤ 63 - leading_zeros w64 word
    last i h = either (less_or_not top.0 i)
      where
        either : (top.0 < i) ⊎ (i ≤ top.0) → i ≤ 63 - leading_zeros w64 word
        either (inl above) = absurd (one i h (bit_at_above word (suc top.0) i top.3 (omega arith)))
        either (inr below) = let sum = top.1 in omega arith

-- ---- where two patterns differ

-- the change marks both the cell's column and its row in the window
pub record IsMarked (p : LeapWindow) (d : DifferenceMask) (c : Cell) : Type 0 where
  pub column : ℕ
  pub row : ℕ
  pub across : c.x ≡ p.left +ℤ pos column
  pub down : c.y ≡ p.top +ℤ pos row
  pub in_columns : bit_at d.columns column ≡ 1
  pub in_rows : bit_at d.rows row ≡ 1

pub marked : (p : LeapWindow) (one other : List Cell) (d : DifferenceMask) (c : Cell) → MarksDifferences p one other d → IsInnerCell p c
    → has one c ≢ has other c → IsMarked p d c
marked p one other d c holds inner ne = record {
  column = i;
  row = r;
  across = across;
  down = down;
  in_columns = either (zero_or_one d.columns i) (λ e. holds.columns i r left right top bottom e);
  in_rows = either (zero_or_one d.rows r) (λ e. holds.rows i r left right top bottom e);
}
  where
    i : ℕ
    i = unsigned_abs (c.x -ℤ p.left)

    r : ℕ
    r = unsigned_abs (c.y -ℤ p.top)

    offset : (a b : ℤ) (m n : ℕ) → (a +ℤ pos m) ≤ℤ b → (b +ℤ pos 4) <ℤ (a +ℤ pos n)
        → (b ≡ a +ℤ pos (unsigned_abs (b -ℤ a))) × (m ≤ unsigned_abs (b -ℤ a)) × (unsigned_abs (b -ℤ a) + 4 < n)
    offset a b m n h k = (omega (arith, ints), omega (arith, ints), omega (arith, ints))

    before : (x l : ℤ) → x ≤ℤ (l +ℤ pos 59) → (x +ℤ pos 4) <ℤ (l +ℤ pos 64)
    before x l h = omega (arith, ints)

    x : (c.x ≡ p.left +ℤ pos i) × (4 ≤ i) × (i + 4 < 64)
    x = offset p.left c.x 4 64 inner.left (before c.x p.left inner.right)

    y : (c.y ≡ p.top +ℤ pos r) × (4 ≤ r) × (r + 4 < p.rows)
    y = offset p.top c.y 4 p.rows inner.top inner.bottom

    across : c.x ≡ p.left +ℤ pos i
    across = x.0

    down : c.y ≡ p.top +ℤ pos r
    down = y.0

    left : 4 ≤ i
    left = x.1

    right : i < 60
    right = let h = x.2 in omega (arith, h)

    top : 4 ≤ r
    top = y.1

    bottom : r + 4 < p.rows
    bottom = y.2

    is : cell_at (p.left +ℤ pos i) (p.top +ℤ pos r) ≡ c
    is = λ t. cell_at (sym across t) (sym down t)

    either : {b : ℕ} → (b ≡ 0) ⊎ (b ≡ 1)
        → (b ≡ 0 → has one (cell_at (p.left +ℤ pos i) (p.top +ℤ pos r)) ≡ has other (cell_at (p.left +ℤ pos i) (p.top +ℤ pos r))) → b ≡ 1
    either (inl e) same = absurd (ne (sym (ap (λ (c : Cell). has one c) is) ∙ same e ∙ ap (λ (c : Cell). has other c) is))
    either (inr e) same = e

-- a change without marked columns or without marked rows marks no cell
pub marked_none_across : (p : LeapWindow) (d : DifferenceMask) (c : Cell) → ((i : ℕ) → bit_at d.columns i ≡ 0)
    → ¬ IsMarked p d c
marked_none_across p d c none m = let e = none m.column in let h = m.in_columns in absurd (omega arith)

pub marked_none_down : (p : LeapWindow) (d : DifferenceMask) (c : Cell) → ((i : ℕ) → bit_at d.rows i ≡ 0)
    → ¬ IsMarked p d c
marked_none_down p d c none m = let e = none m.row in let h = m.in_rows in absurd (omega arith)

-- the box from the first to the last marked column and row
pub record IsFrom (p : LeapWindow) (across down : BitSpan) (b : Bounds) : Type 0 where
  pub left : b.left ≡ p.left +ℤ pos across.first
  pub top : b.top ≡ p.top +ℤ pos down.first
  pub right : b.right ≡ p.left +ℤ pos across.last
  pub bottom : b.bottom ≡ p.top +ℤ pos down.last

pub marked_within : (p : LeapWindow) (d : DifferenceMask) (across down : BitSpan) (b : Bounds) (c : Cell)
    → HasBits d.columns across → HasBits d.rows down → IsFrom p across down b
    → IsMarked p d c → IsWithin b c
marked_within p d across down b c columns rows from m = record {
  left = low b.left p.left c.x across.first m.column from.left m.across (columns.first m.column m.in_columns);
  top = low b.top p.top c.y down.first m.row from.top m.down (rows.first m.row m.in_rows);
  right = high b.right p.left c.x across.last m.column from.right m.across (columns.last m.column m.in_columns);
  bottom = high b.bottom p.top c.y down.last m.row from.bottom m.down (rows.last m.row m.in_rows);
}
  where
    low : (l a x : ℤ) (i j : ℕ) → l ≡ a +ℤ pos i → x ≡ a +ℤ pos j → i ≤ j → l ≤ℤ x
    low l a x i j e f h = omega (arith, ints)

    high : (l a x : ℤ) (i j : ℕ) → l ≡ a +ℤ pos i → x ≡ a +ℤ pos j → j ≤ i → x ≤ℤ l
    high l a x i j e f h = omega (arith, ints)

pub sides_from : (p : LeapWindow) (m n : ℕ) (across down : BitSpan) (b : Bounds) → IsInReach p → HasBits m across → HasBits n down
    → IsFrom p across down b → AreSidesWithin box_bound b
sides_from p m n across down b reach columns rows from = record {
  left = side b.left p.left across.first from.left reach.left (let o = columns.order in let h = columns.high in omega arith);
  top = side b.top p.top down.first from.top reach.top (let o = rows.order in let h = rows.high in omega arith);
  right = side b.right p.left across.last from.right reach.left columns.high;
  bottom = side b.bottom p.top down.last from.bottom reach.top rows.high;
}
  where
    side : (l a : ℤ) (i : ℕ) → l ≡ a +ℤ pos i → unsigned_abs a ≤ 6291456 → i < 64 → unsigned_abs l ≤ 8388608
    side l a i e h k = omega (arith, ints)
