-- How deep cells are in a direction, and the deepest cell of a board.
use Rattle.std.proofs.Common.{◌≡◌, ◌≢◌, ◌==◌, ◌+◌, ◌-◌, ◌*◌, ◌/◌, ◌%◌, ◌^◌, ◌<◌, ◌≤◌, ℕ, ℤ, pos, ◌+ℤ◌, ◌-ℤ◌, ◌≤ℤ◌, Bool, true, false, not}
use Rattle.std.proofs.Common.{◌&&◌, ◌||◌, List, [], ◌∷◌, Option, None, Some, IfSome, FitsSigned, of_z, to_z, arith, refl, ap, ◌∙◌, sym, subst, inl, inr, ◌⊎◌}
use Rattle.std.proofs.Common.{zero, suc, min, max, bit_and, bit_or, unwrap_or, get_or, length, slice_index, take, unsigned_abs, w32, w64}
use Rattle.std.specs.Cmp.{both_ways as both_true}
use Rattle.std.specs.Int.{bit_at, bit_not, int_max, leading_zeros, trailing_zeros}
use Rattle.std.proofs.Math.Pow.{pow-lt}
use Rattle.std.proofs.lemmas.Bool.{eqb-true}
use Rattle.std.proofs.lemmas.Int.{clamps, ints, to_z-of_z}
use Rattle.std.proofs.lemmas.List.{take_more}
use Rattle.std.proofs.lemmas.Nat.{leading_top}
use Rattle.std.proofs.lemmas.Nat.Bits.{bit_at-lt, bit_at-pow_other, bit_at-pow_same, bit_at-trailing_zeros, bit_at-zero, bit_at_above}
use Rattle.std.proofs.lemmas.Nat.Bits.{bit_at_and, bit_at_cat_high}
use Rattle.std.proofs.lemmas.Nat.Bits.{bit_at_not, bit_at_or}
use Rattle.plane_core.specs.declared.plane.cell.Cell.{Cell}
use Rattle.plane_core.specs.declared.engine.direction.Direction.{Direction}
use Rattle.plane_core.specs.declared.plane.orientation.Orientation.{Orientation}
use Rattle.plane_core.specs.declared.engine.frame.Frame.{Frame}
use Rattle.plane_core.specs.declared.engine.row_spans.RowSpan.{RowSpan}
use Rattle.plane_core.specs.plane.Bounds.{AreSidesWithin}
use Rattle.plane_core.specs.plane.Cells.{cell_at, has, is_within, on_plane, plane_bound, same_cell}
use Rattle.plane_core.specs.engine.Directions.{GoesDeeper, HasDepth, IsReached, IsSeen, NoDeeper, counted, depth_in, inner_row, outer_column}
use Rattle.plane_core.specs.engine.Frames.{board_cell, bounds_of, word_of}
use Rattle.plane_core.specs.plane.Frontiers.{LiesUpTo, depth}
use Rattle.plane_core.specs.engine.OnBoard.{cells_on}
use Rattle.plane_core.specs.plane.Orientations.{turned_cell}
use Rattle.plane_core.specs.engine.RowSpans.{HasRow, LieInSpans, span_of}
use Rattle.plane_core.specs.plane.Without.{without}
use Rattle.plane_core.proofs.lemmas.plane.BoundsLemmas.{max_cases}
use Rattle.plane_core.proofs.lemmas.plane.CaseLemmas.{less_or_not, same_or_not}
use Rattle.plane_core.proofs.lemmas.plane.CellLemmas.{same_cell-itself, same_cell-same, same_cells}
use Rattle.plane_core.proofs.lemmas.plane.BoxRoundLemmas.{lies_near}
use Rattle.plane_core.proofs.lemmas.engine.ListingLemmas.{along_cell}
use Rattle.plane_core.proofs.lemmas.engine.OnBoardLemmas.{bit_of_cell, placed, shows_cells, spot_within}
use Rattle.plane_core.proofs.lemmas.engine.RemovalLemmas.{has-without, without-has}
use Rattle.plane_core.proofs.lemmas.plane.SetLemmas.{has-append}
use Rattle.plane_core.proofs.lemmas.Between.{IsGreater}

-- ---- the farthest bit of a word

pub last_one : (word : ℕ) → 0 < word → word < 2 ^ 64 → bit_at word (63 - leading_zeros w64 word) ≡ 1
last_one word some small =
    ap (bit_at word) at ∙ ap (λ (n : ℕ). bit_at n j) (sym whole) ∙ bit_at_cat_high 1 j (word - 2 ^ j) j below (omega arith) ∙ ap (bit_at 1) none
  where
    top : (j : ℕ) × (leading_zeros w64 word + suc j ≡ 64) × (2 ^ j ≤ word) × (word < 2 ^ suc j)
    top = leading_top 64 word some small

    j : ℕ
    j = top.0

    at : 63 - leading_zeros w64 word ≡ j
    at = omega (arith, top.1)

    whole : 1 * 2 ^ j + (word - 2 ^ j) ≡ word
    whole = omega (arith, top.2)

    below : word - 2 ^ j < 2 ^ j
    below = omega (arith, top.2, top.3)

    none : j - j ≡ 0
    none = omega arith

pub far_right : (right : Bool) (word i : ℕ) → right ≡ true → 0 < word → word < 2 ^ 64 → bit_at word i ≡ 1
    → counted right (pos i) ≤ℤ counted right (pos (63 - leading_zeros w64 word))
far_right right word i is some small one =
    subst (λ (r : Bool). counted r (pos i) ≤ℤ counted r (pos (63 - leading_zeros w64 word))) (sym is)
    (let l = last (less_or_not top.0 i) in omega (arith, ints))
  where
    top : (j : ℕ) × (leading_zeros w64 word + suc j ≡ 64) × (2 ^ j ≤ word) × (word < 2 ^ suc j)
    top = leading_top 64 word some small

    last : (top.0 < i) ⊎ (i ≤ top.0) → i ≤ 63 - leading_zeros w64 word
    last (inl above) = let none = bit_at_above word (suc top.0) i top.3 (omega arith) in absurd (omega (arith, none, one))
    last (inr below) = let sum = top.1 in omega arith

pub far_left : (right : Bool) (word i : ℕ) → right ≡ false → 0 < word → word < 2 ^ 64 → bit_at word i ≡ 1
    → counted right (pos i) ≤ℤ counted right (pos (trailing_zeros w64 word))
far_left right word i is some small one =
    subst (λ (r : Bool). counted r (pos i) ≤ℤ counted r (pos (trailing_zeros w64 word))) (sym is)
    (let f = first (less_or_not i (trailing_zeros w64 word)) in omega (arith, ints))
  where
    first : (i < trailing_zeros w64 word) ⊎ (trailing_zeros w64 word ≤ i) → trailing_zeros w64 word ≤ i
    first (inl before) = let none = (bit_at-trailing_zeros w64 word some small).2 i before in absurd (omega (arith, none, one))
    first (inr from) = from

pub first_one : (word : ℕ) → 0 < word → word < 2 ^ 64 → bit_at word (trailing_zeros w64 word) ≡ 1
first_one word some small = (bit_at-trailing_zeros w64 word some small).1

-- ---- the bits of cells in a row of a word column

pub bit_is : (word : ℕ) (first cell : Cell) (i : ℕ) → (bit_at word i ≡ 1 → cell_at (first.x +ℤ pos i) first.y ≡ cell)
    → (cell_at (first.x +ℤ pos i) first.y ≡ cell → bit_at word i ≡ 1) → (bit_at word i == 1) ≡ same_cell (cell_at (first.x +ℤ pos i) first.y) cell
bit_is word first cell i there back = both_true (bit_at word i == 1) (same_cell p cell)
    (λ e. ap (same_cell p) (sym (there (eqb-true (bit_at word i) 1 e))) ∙ same_cell-itself p)
    (λ e. ap (λ (n : ℕ). n == 1) (back (same_cell-same p cell e)))
  where
    p : Cell
    p = cell_at (first.x +ℤ pos i) first.y

pub one_bit : (first cell : Cell) (column i : ℕ) → column < 64 → cell.y ≡ first.y → cell.x ≡ first.x +ℤ pos column
    → (bit_at (1 * 2 ^ column % 2 ^ 64) i == 1) ≡ same_cell (cell_at (first.x +ℤ pos i) first.y) cell
one_bit first cell column i low row across = bit_is word first cell i (λ one. there (same_or_not i column) one) back
  where
    word : ℕ
    word = 1 * 2 ^ column % 2 ^ 64

    power : word ≡ 2 ^ column
    power = let p : 2 ^ column < 2 ^ 64 = pow-lt low in omega arith

    there : (i ≡ column) ⊎ (i ≢ column) → bit_at word i ≡ 1 → cell_at (first.x +ℤ pos i) first.y ≡ cell
    there (inl same) one = same_cells _ _ _ _ (omega (arith, ints, across, same)) (sym row)
    there (inr apart) one =
        let none : bit_at word i ≡ 0 = ap (λ (n : ℕ). bit_at n i) power ∙ bit_at-pow_other column i apart in absurd (omega (arith, none, one))

    back : cell_at (first.x +ℤ pos i) first.y ≡ cell → bit_at word i ≡ 1
    back e =
        let x : first.x +ℤ pos i ≡ cell.x = ap (λ (c : Cell). c.x) e in
        let same : i ≡ column = omega (arith, ints, across) in
        ap (bit_at word) same ∙ ap (λ (n : ℕ). bit_at n column) power ∙ bit_at-pow_same column

or_bits : (a b i : ℕ) → (bit_at (bit_or a b) i == 1) ≡ ((bit_at a i == 1) || (bit_at b i == 1))
or_bits a b i = ap (λ (n : ℕ). n == 1) (bit_at_or a b i) ∙ either (bit_at a i) (bit_at b i) (bit_at-lt a i) (bit_at-lt b i)
  where
    either : (m n : ℕ) → m < 2 → n < 2 → (max m n == 1) ≡ ((m == 1) || (n == 1))
    either zero zero p q = refl
    either zero (suc zero) p q = refl
    either (suc zero) zero p q = refl
    either (suc zero) (suc zero) p q = refl
    either (suc (suc m)) n p q = absurd (omega arith)
    either m (suc (suc n)) p q = absurd (omega arith)

-- if `bits` shows the first k cells and `bit` shows cell k, their union shows the first k + 1 cells
pub bits_more : (cells : List Cell) (k : ℕ) (d : Cell) (bits bit : ℕ) (c : Cell) (i : ℕ) → k < length cells
    → (bit_at bits i == 1) ≡ has (take k cells) c
    → (bit_at bit i == 1) ≡ same_cell c (get_or cells k d) → (bit_at (bit_or bits bit) i == 1) ≡ has (take (k + 1) cells) c
bits_more cells k d bits bit c i low before here =
    or_bits bits bit i ∙ (λ t. before t || here t) ∙ ap (λ (b : Bool). has (take k cells) c || b) (or_none (same_cell c (get_or cells k d)))
    ∙ sym (ap (λ (cs : List Cell). has cs c) (take_more cells k d low) ∙ has-append (take k cells) (get_or cells k d ∷ []) c)
  where
    or_none : (a : Bool) → a ≡ (a || false)
    or_none true = refl
    or_none false = refl

and_not_bits : (a b i : ℕ) → b < 2 ^ 64 → i < 64 → (bit_at (bit_and a (bit_not w64 b)) i == 1) ≡ ((bit_at a i == 1) && not (bit_at b i == 1))
and_not_bits a b i small low =
    ap (λ (n : ℕ). n == 1) (bit_at_and a (bit_not w64 b) i ∙ ap (min (bit_at a i)) (bit_at_not w64 b i small low))
    ∙ both (bit_at a i) (bit_at b i) (bit_at-lt a i) (bit_at-lt b i)
  where
    both : (m n : ℕ) → m < 2 → n < 2 → (min m (1 - n) == 1) ≡ ((m == 1) && not (n == 1))
    both zero zero p q = refl
    both zero (suc zero) p q = refl
    both (suc zero) zero p q = refl
    both (suc zero) (suc zero) p q = refl
    both (suc (suc m)) n p q = absurd (omega arith)
    both m (suc (suc n)) p q = absurd (omega arith)

pub row_without : (at : Frame) (words : List ℕ) (gone : List Cell) (s r word bits i : ℕ) → s < at.word_columns → r < at.rows → i < 64 → bits < 2 ^ 64
    → word ≡ slice_index words (word_of at s r) → (bit_at bits i == 1) ≡ has gone (board_cell at s r i)
    → (bit_at (bit_and word (bit_not w64 bits)) i == 1) ≡ has (without (cells_on at words) gone) (board_cell at s r i)
row_without at words gone s r word bits i hs hr hi small is here =
    and_not_bits word bits i small hi
    ∙ (λ t. (ap (λ (n : ℕ). bit_at n i == 1) is ∙ sym (shows_cells at words s r i hs hr hi)) t && not (here t))
    ∙ sym (has-without (cells_on at words) gone (board_cell at s r i))

-- ---- depths

-- in a row of a word column, the cell that is i columns to the right of the first cell is cell i
pub cell_along : (at : Frame) (s r i : ℕ) (first c : Cell) → first ≡ board_cell at s r 0 → c ≡ cell_at (first.x +ℤ pos i) first.y
    → c ≡ board_cell at s r i
cell_along at s r i first c begins is = is ∙ ap (λ (d : Cell). cell_at (d.x +ℤ pos i) d.y) begins ∙ along_cell at s r i

pub cell_on_plane : (at : Frame) (s r i : ℕ) (c : Cell) → s < at.word_columns → r < at.rows → i < 64 → AreSidesWithin plane_bound (bounds_of at)
    → c ≡ board_cell at s r i → on_plane c ≡ true
unfolding on_plane
cell_on_plane at s r i c hs hr hi plane is =
    ap (is_within plane_bound) is ∙ lies_near (bounds_of at) plane_bound (board_cell at s r i) plane (spot_within at s r i hs hr hi)

-- from step `first` on, the depth o of the outermost cell is at most the step plus m, the depth that was found
pub enough_steps : (o m : ℤ) (count apart first step : ℕ) → apart ≡ unsigned_abs (o -ℤ m) → first ≡ min count apart → first ≤ step → step < count
    → o ≤ℤ (m +ℤ pos step)
enough_steps o m count apart first step is least low high = omega (arith, ints)

-- a cell in the row that is `step` rows inwards is less deep than the outermost cell by at least `step`
inner_depth : (at : Frame) (way : Direction) (word_column : ℕ) (rows : RowSpan) (step i : ℕ) → step < rows.end - rows.from → i < 64
    → (depth_in way (board_cell at word_column (inner_row way.down rows step) i) +ℤ pos step)
    ≤ℤ depth_in way (board_cell at word_column (inner_row way.down rows 0) (outer_column way.right))
inner_depth at way word_column rows step i low small = by_cases way.right way.down
  where
    by_cases : (right down : Bool)
        → ((counted right (at.left +ℤ pos (64 * word_column + i)) +ℤ counted down (at.top +ℤ pos (inner_row down rows step))) +ℤ pos step)
        ≤ℤ (counted right (at.left +ℤ pos (64 * word_column + outer_column right)) +ℤ counted down (at.top +ℤ pos (inner_row down rows 0)))
    by_cases true true = omega (arith, ints)
    by_cases true false = omega (arith, ints)
    by_cases false true = omega (arith, ints)
    by_cases false false = omega (arith, ints)

pub no_deeper : (at : Frame) (way : Direction) (word_column : ℕ) (rows : RowSpan) (first : ℕ) (found : Option ℤ) (m outermost : ℤ) → found ≡ Some m
    → outermost ≡ depth_in way (board_cell at word_column (inner_row way.down rows 0) (outer_column way.right))
    → ((step : ℕ) → first ≤ step → step < rows.end - rows.from → outermost ≤ℤ (m +ℤ pos step)) → NoDeeper at way word_column rows first found
no_deeper at way word_column rows first found m outermost is outer within step low high i small =
    subst (λ (o : Option ℤ). IsReached o (depth_in way (board_cell at word_column (inner_row way.down rows step) i))) (sym is)
    (sum _ _ _ (pos step) (inner_depth at way word_column rows step i high small) outer (within step low high))
  where
    sum : (a o b p : ℤ) → (a +ℤ p) ≤ℤ b → o ≡ b → o ≤ℤ (m +ℤ p) → a ≤ℤ m
    sum a o b p h e k = omega (arith, ints)

-- in a row, a cell in a column further out is at least as deep
outer_depth : (at : Frame) (way : Direction) (word_column row i column : ℕ) → counted way.right (pos i) ≤ℤ counted way.right (pos column)
    → depth_in way (board_cell at word_column row i) ≤ℤ depth_in way (board_cell at word_column row column)
outer_depth at way word_column row i column far = by_cases way.right far (counted way.down (at.top +ℤ pos row))
  where
    by_cases : (right : Bool) → counted right (pos i) ≤ℤ counted right (pos column) → (z : ℤ)
        → (counted right (at.left +ℤ pos (64 * word_column + i)) +ℤ z) ≤ℤ (counted right (at.left +ℤ pos (64 * word_column + column)) +ℤ z)
    by_cases true h z = omega (arith, ints)
    by_cases false h z = omega (arith, ints)

-- ---- the greater of two depths

pub greater_or : (found : Option ℤ) (depth other most : ℤ) → FitsSigned w32 other → FitsSigned w32 depth
    → other ≡ unwrap_or found (to_z w32 (of_z w32 depth)) → most ≡ int_max (to_z w32 (of_z w32 other)) (to_z w32 (of_z w32 depth))
    → IsGreater found (to_z w32 (of_z w32 depth)) most
greater_or found depth other most fits_other fits is at =
    subst (λ (d : ℤ). IsGreater found d most) (sym (to_z-of_z w32 depth fits)) (by_cases found (is ∙ ap (unwrap_or found) (to_z-of_z w32 depth fits)))
  where
    greatest : most ≡ int_max other depth
    greatest = at ∙ (λ i. int_max (to_z-of_z w32 other fits_other i) (to_z-of_z w32 depth fits i))

    least : depth ≤ℤ most
    least = omega (arith, ints, clamps, greatest)

    by_cases : (found : Option ℤ) → other ≡ unwrap_or found depth → IsGreater found depth most
    by_cases None e = record { kept = λ z reached. absurd reached; least = least; either = inl (omega (arith, ints, clamps, greatest, e)) }
    by_cases (Some m) e = record { kept = λ z low. omega (arith, ints, clamps, greatest, e); least = least; either = one (max_cases other depth) }
      where
        one : (int_max other depth ≡ other) ⊎ (int_max other depth ≡ depth) → (most ≡ depth) ⊎ (Some m ≡ Some most)
        one (inl e') = inr (ap (λ (n : ℤ). Some n) (sym (greatest ∙ e' ∙ e)))
        one (inr e') = inl (greatest ∙ e')

-- ---- a row

pub goes_on : (way : Direction) (cells : List Cell) (found : Option ℤ) → GoesDeeper way cells found found
goes_on way cells found = record { kept = λ z h. h; some = λ h. h }

pub goes_deeper : (way : Direction) (cells : List Cell) (found mid later : Option ℤ) → GoesDeeper way cells found mid → GoesDeeper way cells mid later
    → GoesDeeper way cells found later
goes_deeper way cells found mid later first second = record { kept = λ z h. second.kept z (first.kept z h); some = λ h. second.some (first.some h) }

-- the bits of a word show the cells of the pattern in a row of a word column
abbrev pub IsRow : Frame → List Cell → ℕ → ℕ → ℕ → Type 0
IsRow at cells word_column row word = (i : ℕ) → i < 64 → (bit_at word i == 1) ≡ has cells (board_cell at word_column row i)

bit_of_live : (at : Frame) (cells : List Cell) (word_column row word i : ℕ) → IsRow at cells word_column row word → i < 64
    → has cells (board_cell at word_column row i) ≡ true → bit_at word i ≡ 1
bit_of_live at cells word_column row word i is low alive = eqb-true (bit_at word i) 1 (is i low ∙ alive)

pub row_seen : (at : Frame) (way : Direction) (cells : List Cell) (word_column row word column : ℕ) (deep later : ℤ) → IsRow at cells word_column row word
    → ((i : ℕ) → bit_at word i ≡ 1 → counted way.right (pos i) ≤ℤ counted way.right (pos column))
    → deep ≡ depth_in way (board_cell at word_column row column) → deep ≤ℤ later → IsSeen at way cells word_column row (Some later)
row_seen at way cells word_column row word column deep later is far at_column least i low alive =
    both _ _ (outer_depth at way word_column row i column (far i (bit_of_live at cells word_column row word i is low alive))) at_column
  where
    both : (a b : ℤ) → a ≤ℤ b → deep ≡ b → a ≤ℤ later
    both a b h e = omega (arith, ints)

pub row_deeper : (at : Frame) (way : Direction) (cells : List Cell) (word_column row word column : ℕ) (found : Option ℤ) (deep later : ℤ)
    → IsRow at cells word_column row word → column < 64 → bit_at word column ≡ 1 → deep ≡ depth_in way (board_cell at word_column row column)
    → ((z : ℤ) → IsReached found z → z ≤ℤ later) → (later ≡ deep) ⊎ (found ≡ Some later) → GoesDeeper way cells found (Some later)
row_deeper at way cells word_column row word column found deep later is low one at_column kept either = record {
  kept = kept;
  some = λ h. deepest either h;
}
  where
    deepest : (later ≡ deep) ⊎ (found ≡ Some later) → IfSome found (HasDepth way cells) → HasDepth way cells later
    deepest (inl here) h = record {
      cell = board_cell at word_column row column;
      alive = sym (is column low) ∙ ap (λ (n : ℕ). n == 1) one;
      depth = sym at_column ∙ sym here;
    }
    deepest (inr before) h = subst (λ (o : Option ℤ). IfSome o (HasDepth way cells)) before h

-- ---- a word column

-- a row whose word is 0 has no live cell, so it counts as seen
dead_row_seen : (at : Frame) (way : Direction) (words : List ℕ) (gone : List Cell) (word_column row : ℕ) (found : Option ℤ) → word_column < at.word_columns → row < at.rows
    → slice_index words (word_of at word_column row) ≡ 0 → IsSeen at way (without (cells_on at words) gone) word_column row found
dead_row_seen at way words gone word_column row found hs hr none i low alive =
    let one = eqb-true _ 1
    (sym (shows_cells at words word_column row i hs hr low) ∙ without-has (cells_on at words) gone (board_cell at word_column row i) alive) in
    let zero : bit_at (slice_index words (word_of at word_column row)) i ≡ 0 = ap (λ (n : ℕ). bit_at n i) none ∙ bit_at-zero i in
    absurd (omega (arith, one, zero))

seen_later : (at : Frame) (way : Direction) (cells : List Cell) (word_column row : ℕ) (found later : Option ℤ) → GoesDeeper way cells found later
    → IsSeen at way cells word_column row found → IsSeen at way cells word_column row later
seen_later at way cells word_column row found later deeper seen i low alive = deeper.kept _ (seen i low alive)

-- the row that is `step` rows inwards is a row of the board
inner_row_low : (down : Bool) (rows : RowSpan) (step limit : ℕ) → rows.end ≤ limit → step < rows.end - rows.from → inner_row down rows step < limit
inner_row_low true rows step limit most low = omega arith
inner_row_low false rows step limit most low = omega arith

-- the first `count` rows of a word column, from the outermost inwards, have been seen
abbrev pub AreSeen : Frame → Direction → List Cell → ℕ → RowSpan → ℕ → Option ℤ → Type 0
AreSeen at way cells word_column rows count found = (step : ℕ) → step < count → IsSeen at way cells word_column (inner_row way.down rows step) found

-- the rows from step `from` to before step `to` have no live cell
abbrev pub AreDeadRows : Frame → Direction → List ℕ → ℕ → RowSpan → ℕ → ℕ → Type 0
AreDeadRows at way words word_column rows from to =
    (step : ℕ) → from ≤ step → step < to → slice_index words (word_of at word_column (inner_row way.down rows step)) ≡ 0

pub dead_more : (at : Frame) (way : Direction) (words : List ℕ) (word_column : ℕ) (rows : RowSpan) (from step index row : ℕ)
    → AreDeadRows at way words word_column rows from step → row ≡ inner_row way.down rows step → index ≡ word_of at word_column row → slice_index words index ≡ 0
    → AreDeadRows at way words word_column rows from (step + 1)
dead_more at way words word_column rows from step index row before here is none k low less = split (same_or_not k step)
  where
    word : ℕ → ℕ
    word r = slice_index words (word_of at word_column r)

    split : (k ≡ step) ⊎ (k ≢ step) → word (inner_row way.down rows k) ≡ 0
    split (inl same) = ap (λ (n : ℕ). word (inner_row way.down rows n)) same ∙ ap word (sym here) ∙ ap (slice_index words) (sym is) ∙ none
    split (inr apart) = before k low (omega (arith, less, apart))

pub rows_seen : (at : Frame) (way : Direction) (words : List ℕ) (gone : List Cell) (word_column : ℕ) (rows : RowSpan) (step next : ℕ) (found later : Option ℤ)
    → word_column < at.word_columns → rows.end ≤ at.rows → next < rows.end - rows.from
    → AreSeen at way (without (cells_on at words) gone) word_column rows step found → AreDeadRows at way words word_column rows step next
    → GoesDeeper way (without (cells_on at words) gone) found later
    → IsSeen at way (without (cells_on at words) gone) word_column (inner_row way.down rows next) later
    → AreSeen at way (without (cells_on at words) gone) word_column rows (next + 1) later
rows_seen at way words gone word_column rows step next found later hs most low seen dead deeper here k near = first (less_or_not k step) (same_or_not k next)
  where
    S : List Cell
    S = without (cells_on at words) gone

    first : (k < step) ⊎ (step ≤ k) → (k ≡ next) ⊎ (k ≢ next) → IsSeen at way S word_column (inner_row way.down rows k) later
    first (inl before) other = seen_later at way S word_column (inner_row way.down rows k) found later deeper (seen k before)
    first (inr from) (inl same) = subst (λ (n : ℕ). IsSeen at way S word_column (inner_row way.down rows n) later) (sym same) here
    first (inr from) (inr apart) =
        dead_row_seen at way words gone word_column (inner_row way.down rows k) later hs
        (inner_row_low way.down rows k at.rows most (omega (arith, near, apart))) (dead k from (omega (arith, near, apart)))

-- the number of steps inwards from the outermost row to a row
step_to : (down : Bool) (rows : RowSpan) (row : ℕ) → rows.from ≤ row → row < rows.end
    → (step : ℕ) × (step < rows.end - rows.from) × (row ≡ inner_row down rows step)
step_to true rows row from to = (rows.end - (row + 1), omega arith, omega arith)
step_to false rows row from to = (row - rows.from, omega arith, omega arith)

pub word_column_seen : (at : Frame) (way : Direction) (words : List ℕ) (gone : List Cell) (word_column : ℕ) (rows : RowSpan) (step next end : ℕ) (found : Option ℤ)
    → word_column < at.word_columns → rows.end ≤ at.rows → end ≤ next → AreSeen at way (without (cells_on at words) gone) word_column rows step found
    → AreDeadRows at way words word_column rows step next → NoDeeper at way word_column rows end found
    → (row : ℕ) → rows.from ≤ row → row < rows.end → IsSeen at way (without (cells_on at words) gone) word_column row found
word_column_seen at way words gone word_column rows step next end found hs most past seen dead none row from to =
    let found_at = step_to way.down rows row from to in
    let k = found_at.0 in
    subst (λ (r : ℕ). IsSeen at way S word_column r found) (sym found_at.2) (go k found_at.1 (less_or_not k step) (less_or_not k next))
  where
    S : List Cell
    S = without (cells_on at words) gone

    go : (k : ℕ) → k < rows.end - rows.from → (k < step) ⊎ (step ≤ k) → (k < next) ⊎ (next ≤ k)
        → IsSeen at way S word_column (inner_row way.down rows k) found
    go k low (inl before) other = seen k before
    go k low (inr after) (inl near) =
        dead_row_seen at way words gone word_column (inner_row way.down rows k) found hs (inner_row_low way.down rows k at.rows most low) (dead k after near)
    go k low (inr after) (inr far) = λ i small alive. none k (omega (arith, past, far)) low i small

-- ---- all word columns

-- all rows of the first `count` word columns have been seen
abbrev pub AreWordColumnsSeen : Frame → Direction → List Cell → ℕ → Option ℤ → Type 0
AreWordColumnsSeen at way cells count found = (word_column row : ℕ) → word_column < count → row < at.rows → IsSeen at way cells word_column row found

pub word_columns_seen : (at : Frame) (way : Direction) (words : List ℕ) (spans : List RowSpan) (gone : List Cell) (word_column : ℕ) (rows : RowSpan)
    (found later : Option ℤ) → word_column < at.word_columns → LieInSpans at spans (cells_on at words)
    → ((n : ℕ) → n < at.rows → HasRow (span_of spans word_column) n → HasRow rows n)
    → AreWordColumnsSeen at way (without (cells_on at words) gone) word_column found → GoesDeeper way (without (cells_on at words) gone) found later
    → ((row : ℕ) → rows.from ≤ row → row < rows.end → IsSeen at way (without (cells_on at words) gone) word_column row later)
    → AreWordColumnsSeen at way (without (cells_on at words) gone) (word_column + 1) later
word_columns_seen at way words spans gone word_column rows found later hs live held before deeper here s row near hr = go (same_or_not s word_column)
  where
    S : List Cell
    S = without (cells_on at words) gone

    last : IsSeen at way S word_column row later
    last i low alive =
        let inside = live word_column row i hs hr low (without-has (cells_on at words) gone (board_cell at word_column row i) alive) in
        let spot = held row hr inside in
        here row spot.low spot.high i low alive

    go : (s ≡ word_column) ⊎ (s ≢ word_column) → IsSeen at way S s row later
    go (inl same) = subst (λ (t : ℕ). IsSeen at way S t row later) (sym same) last
    go (inr apart) = seen_later at way S s row found later deeper (before s row (omega (arith, near, apart)) hr)

pub all_seen : (at : Frame) (way : Direction) (words : List ℕ) (gone : List Cell) (found : Option ℤ)
    → AreWordColumnsSeen at way (without (cells_on at words) gone) at.word_columns found → (c : Cell) → has (without (cells_on at words) gone) c ≡ true
    → IsReached found (depth_in way c)
all_seen at way words gone found seen c e =
    let bit = bit_of_cell at words c (without-has (cells_on at words) gone c e) in
    let k = bit.0 in
    let spot = placed at k bit.1 in
    subst (λ (d : Cell). IsReached found (depth_in way d)) (sym bit.3)
    (seen (k / 64 / at.rows) (k / 64 % at.rows) spot.word_column spot.row (k % 64) (omega arith)
    (ap (λ (d : Cell). has (without (cells_on at words) gone) d) (sym bit.3) ∙ e))

-- if no live cell is deeper than the depth that was found, each cell of the turned pattern has at most this depth
pub reaches : (way : Orientation) (direction : Direction) (cells : List Cell) (found : Option ℤ)
    → ((c : Cell) → depth_in direction c ≡ depth (turned_cell way c)) → ((c : Cell) → has cells c ≡ true → IsReached found (depth_in direction c))
    → IfSome found (λ m. LiesUpTo way m cells)
reaches way direction cells None is seen = tt
reaches way direction cells (Some m) is seen = λ c e. subst (λ (z : ℤ). z ≤ℤ m) (is c) (seen c e)

-- if `cell` isn't the cell that is i columns to the right of `first`, bit i of the word 0 shows this
pub no_bit : (first cell : Cell) (i : ℕ) → (first.y ≡ cell.y → first.x +ℤ pos i ≡ cell.x → ⊥)
    → (bit_at 0 i == 1) ≡ same_cell (cell_at (first.x +ℤ pos i) first.y) cell
no_bit first cell i apart = bit_is 0 first cell i (λ one. absurd (omega (arith, one, bit_at-zero i)))
    (λ e. absurd (apart (ap (λ (c : Cell). c.y) e) (ap (λ (c : Cell). c.x) e)))

-- ---- a row without the cells that are gone

pub row_left : (at : Frame) (words : List ℕ) (gone : List Cell) (s r index bits : ℕ) (first : Cell) → s < at.word_columns → r < at.rows → bits < 2 ^ 64
    → index ≡ word_of at s r → first ≡ board_cell at s r 0
    → ((i : ℕ) → i < 64 → (bit_at bits i == 1) ≡ has gone (cell_at (first.x +ℤ pos i) first.y))
    → IsRow at (without (cells_on at words) gone) s r (bit_and (slice_index words index) (bit_not w64 bits))
row_left at words gone s r index bits first hs hr small is begins here i low =
    row_without at words gone s r (slice_index words index) bits i hs hr low small (ap (slice_index words) is)
    (here i low ∙ ap (λ (d : Cell). has gone d) (cell_along at s r i first _ begins refl))

pub none_seen : (at : Frame) (way : Direction) (cells : List Cell) (s r word : ℕ) (found : Option ℤ) → IsRow at cells s r word → word ≡ 0
    → IsSeen at way cells s r found
none_seen at way cells s r word found is none i low alive =
    let one = eqb-true _ 1 (is i low ∙ alive) in
    let zero : bit_at word i ≡ 0 = ap (λ (n : ℕ). bit_at n i) none ∙ bit_at-zero i in
    absurd (omega (arith, one, zero))
