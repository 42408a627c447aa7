-- The pattern that a board shows is a unique list of cells.
use Rattle.std.proofs.Common.{◌≡◌, ◌≢◌, ◌==◌, ◌+◌, ◌*◌, ◌/◌, ◌%◌, ◌<◌, ℕ, zero, suc, pos, ◌-ℤ◌, ◌≤ℤ◌, Bool, true, false, cond, List, ◌∷◌}
use Rattle.std.proofs.Common.{arith, refl, ap, ◌∙◌, sym, subst, inl, inr, ◌⊎◌, slice_index, unsigned_abs, ℤ}
use Rattle.std.specs.Int.{bit_at}
use Rattle.std.specs.Cmp.{both_ways as both_true}
use Rattle.std.proofs.lemmas.Int.{ints}
use Rattle.std.proofs.lemmas.Bool.{false≢true}
use Rattle.std.proofs.lemmas.Nat.{div_below, div-add-mod', div-mul-add, mod-mul-add}
use Rattle.std.proofs.Math.Nat.{mod-lt}
use Rattle.plane_core.specs.declared.engine.frame.Frame.{Frame}
use Rattle.plane_core.specs.declared.plane.cell.Cell.{Cell}
use Rattle.plane_core.specs.plane.Bounds.{IsWithin}
use Rattle.plane_core.specs.plane.Cells.{InOrder, has}
use Rattle.plane_core.specs.engine.Frames.{LieOn, Shows, bounds_of, board_cell, word_of}
use Rattle.plane_core.specs.engine.OnBoard.{cells_on, is_live_bit, lit_before, lit_cell}
use Rattle.plane_core.proofs.lemmas.plane.CaseLemmas.{same_or_not}
use Rattle.plane_core.proofs.lemmas.engine.FrameLemmas.{one_spot, spot_inside, spot_of, word-inside}
use Rattle.plane_core.proofs.lemmas.plane.SetLemmas.{has-cases, has-head, has-set_of, in_order-set_of, or_right, same_lists}

-- the cell of each bit that is 1 is listed
has-lit : (at : Frame) (ws : List ℕ) (n k : ℕ) → k < n → is_live_bit ws k ≡ true → has (lit_before at ws n) (lit_cell at k) ≡ true
has-lit at ws zero k low lit = absurd (omega arith)
has-lit at ws (suc n) k low lit = go (same_or_not k n) (is_live_bit ws n) refl (λ h. has-lit at ws n k h lit)
  where
    c : Cell
    c = lit_cell at k

    go : (k ≡ n) ⊎ (k ≢ n) → (b : Bool) → is_live_bit ws n ≡ b → (k < n → has (lit_before at ws n) c ≡ true)
        → has (cond b (lit_cell at n ∷ lit_before at ws n) (lit_before at ws n)) c ≡ true
    go (inl same) true is before =
        ap (λ (m : ℕ). has (lit_cell at n ∷ lit_before at ws n) (lit_cell at m)) same ∙ has-head (lit_cell at n) (lit_before at ws n)
    go (inl same) false is before = absurd (false≢true (sym is ∙ ap (λ (m : ℕ). is_live_bit ws m) (sym same) ∙ lit))
    go (inr apart) true is before = or_right _ _ (before (omega arith))
    go (inr apart) false is before = before (omega arith)

-- each listed cell is the cell of a bit that is 1
lit-has : (at : Frame) (ws : List ℕ) (n : ℕ) (c : Cell) → has (lit_before at ws n) c ≡ true → (k : ℕ) × (k < n) × (is_live_bit ws k ≡ true) × (c ≡ lit_cell at k)
lit-has at ws zero c e = absurd (false≢true e)
lit-has at ws (suc n) c e = go (is_live_bit ws n) refl e (lit-has at ws n c)
  where
    Found : ℕ → Type 0
    Found m = (k : ℕ) × (k < m) × (is_live_bit ws k ≡ true) × (c ≡ lit_cell at k)

    more : Found n → Found (suc n)
    more (k, low, lit, is) = (k, omega (arith, low), lit, is)

    go : (b : Bool) → is_live_bit ws n ≡ b → has (cond b (lit_cell at n ∷ lit_before at ws n) (lit_before at ws n)) c ≡ true
        → (has (lit_before at ws n) c ≡ true → Found n) → Found (suc n)
    go false is h before = more (before h)
    go true is h before = elim (has-cases (lit_cell at n) (lit_before at ws n) c h) [
      | inl same ↦ (n, omega arith, is, same)
      | inr rest ↦ more (before rest)
    ]

-- the number of bit i of row r of word column s, counted through the list of words
abbrev number_of : Frame → ℕ → ℕ → ℕ → ℕ
number_of at s r i = 64 * word_of at s r + i

lit_cell-number : (at : Frame) (s r i : ℕ) → r < at.rows → i < 64 → lit_cell at (number_of at s r i) ≡ board_cell at s r i
lit_cell-number at s r i hr hi =
    let word : number_of at s r i / 64 ≡ word_of at s r = omega arith in
    let word_column : number_of at s r i / 64 / at.rows ≡ s = ap (λ (m : ℕ). m / at.rows) word ∙ div-mul-add s at.rows r hr in
    let row : number_of at s r i / 64 % at.rows ≡ r = ap (λ (m : ℕ). m % at.rows) word ∙ mod-mul-add s at.rows r hr in
    let bit : number_of at s r i % 64 ≡ i = omega arith in
    λ j. board_cell at (word_column j) (row j) (bit j)

is_live_bit-number : (at : Frame) (ws : List ℕ) (s r i : ℕ) → i < 64 → is_live_bit ws (number_of at s r i) ≡ (bit_at (slice_index ws (word_of at s r)) i == 1)
is_live_bit-number at ws s r i hi =
    let word : number_of at s r i / 64 ≡ word_of at s r = omega arith in
    let bit : number_of at s r i % 64 ≡ i = omega arith in
    λ j. bit_at (slice_index ws (word j)) (bit j) == 1

-- bit k, counted through the list of words, is in a word column and a row of the board
pub record IsPlaced (at : Frame) (k : ℕ) : Type 0 where
  pub word_column : k / 64 / at.rows < at.word_columns
  pub row : k / 64 % at.rows < at.rows
  pub word : word_of at (k / 64 / at.rows) (k / 64 % at.rows) ≡ k / 64

pub placed : (at : Frame) (k : ℕ) → k < 64 * (at.word_columns * at.rows) → IsPlaced at k
placed at k low = record {
  word_column = div_below (k / 64) at.rows at.word_columns some few;
  row = mod-lt (k / 64) some;
  word = div-add-mod' (k / 64) at.rows;
}
  where
    few : k / 64 < at.word_columns * at.rows
    few = omega arith

    some : 0 < at.rows
    some = go at.rows refl
      where
        go : (h : ℕ) → at.rows ≡ h → 0 < h
        go zero none =
            let no_words : at.word_columns * at.rows ≡ at.word_columns * 0 = ap (λ (h : ℕ). at.word_columns * h) none in
            absurd (omega (arith, few, no_words))
        go (suc h) is = omega arith

-- ---- what a board shows

pub shows_cells : (at : Frame) (ws : List ℕ) → Shows at ws (cells_on at ws)
unfolding cells_on
shows_cells at ws s r i hs hr hi = has-set_of _ c ∙ both_true (has (lit_before at ws n) c) (bit_at (slice_index ws (word_of at s r)) i == 1) there back
  where
    n : ℕ
    n = 64 * (at.word_columns * at.rows)

    c : Cell
    c = board_cell at s r i

    there : has (lit_before at ws n) c ≡ true → (bit_at (slice_index ws (word_of at s r)) i == 1) ≡ true
    there e =
        let (k, low, lit, is) = lit-has at ws n c e in
        let (u, v, w) = one_spot at s r i (k / 64 / at.rows) (k / 64 % at.rows) (k % 64) hi (omega arith) is in
        let word : word_of at s r ≡ k / 64 = (λ j. word_of at (u j) (v j)) ∙ (placed at k low).word in
        (λ j. bit_at (slice_index ws (word j)) (w j) == 1) ∙ lit

    back : (bit_at (slice_index ws (word_of at s r)) i == 1) ≡ true → has (lit_before at ws n) c ≡ true
    back e =
        let inside = word-inside at s r hs hr in
        ap (λ (x : Cell). has (lit_before at ws n) x) (sym (lit_cell-number at s r i hr hi))
        ∙ has-lit at ws n (number_of at s r i) (omega (arith, inside)) (is_live_bit-number at ws s r i hi ∙ e)

-- each cell of a board's pattern is the cell of a bit that is 1
pub bit_of_cell : (at : Frame) (ws : List ℕ) (c : Cell) → has (cells_on at ws) c ≡ true
    → (k : ℕ) × (k < 64 * (at.word_columns * at.rows)) × (is_live_bit ws k ≡ true) × (c ≡ lit_cell at k)
unfolding cells_on
bit_of_cell at ws c e = lit-has at ws _ c (sym (has-set_of _ c) ∙ e)

-- the cell of each bit of a board is on the board
pub spot_within : (at : Frame) (s r i : ℕ) → s < at.word_columns → r < at.rows → i < 64 → IsWithin (bounds_of at) (board_cell at s r i)
spot_within at s r i hs hr hi = record {
  left = omega (arith, ints);
  top = omega (arith, ints);
  right = omega (arith, ints);
  bottom = omega (arith, ints);
}

pub cells_lie_on : (at : Frame) (ws : List ℕ) → LieOn at (cells_on at ws)
cells_lie_on at ws c e =
    let (k, low, lit, is) = bit_of_cell at ws c e in
    let spot = placed at k low in
    subst (λ (x : Cell). IsWithin (bounds_of at) x) (sym is)
    (spot_within at (k / 64 / at.rows) (k / 64 % at.rows) (k % 64) spot.word_column spot.row (omega arith))

pub cells_in_order : (at : Frame) (ws : List ℕ) → InOrder (cells_on at ws)
unfolding cells_on
cells_in_order at ws = in_order-set_of (lit_before at ws (64 * (at.word_columns * at.rows)))

natural : (d : ℤ) (a : ℤ) → a ≤ℤ d → pos (unsigned_abs (d -ℤ a)) ≡ d -ℤ a
natural d a h = omega (arith, ints)

-- if the board shows an ordered list of cells, all of them on the board, this list is the board's pattern
pub only_cells : (at : Frame) (ws : List ℕ) (S : List Cell) → InOrder S → LieOn at S → Shows at ws S → cells_on at ws ≡ S
only_cells at ws S o on shown = same_lists (cells_on at ws) S (cells_in_order at ws) o (λ c. both_true (has (cells_on at ws) c) (has S c) (there c) (back c))
  where
    there : (c : Cell) → has (cells_on at ws) c ≡ true → has S c ≡ true
    there c e =
        let (k, low, lit, is) = bit_of_cell at ws c e in
        let spot = placed at k low in
        ap (λ (x : Cell). has S x) is ∙ shown (k / 64 / at.rows) (k / 64 % at.rows) (k % 64) spot.word_column spot.row (omega arith)
        ∙ ap (λ (m : ℕ). bit_at (slice_index ws m) (k % 64) == 1) spot.word ∙ lit

    back : (c : Cell) → has S c ≡ true → has (cells_on at ws) c ≡ true
    back c e =
        let within = on c e in
        let a = unsigned_abs (c.x -ℤ at.left) in
        let d = unsigned_abs (c.y -ℤ at.top) in
        let p : pos a ≡ c.x -ℤ at.left = natural c.x at.left within.left in
        let q : pos d ≡ c.y -ℤ at.top = natural c.y at.top within.top in
        let is = spot_of at c a d p q in
        let inside = spot_inside at c a d within p q in
        ap (λ (x : Cell). has (cells_on at ws) x) is ∙ shows_cells at ws (a / 64) d (a % 64) inside.0 inside.1 (omega arith)
        ∙ sym (shown (a / 64) d (a % 64) inside.0 inside.1 (omega arith)) ∙ ap (λ (x : Cell). has S x) (sym is) ∙ e
