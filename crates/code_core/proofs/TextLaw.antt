-- The text of a pattern is spelled by tokens whose cells are the pattern at the corner.
use Rattle.std.proofs.Common.{◌≡◌, ℕ, ℤ, zero, suc, pos, neg_ℤ, ◌+ℤ◌, ◌≤ℤ◌, ◌+◌, ◌*◌, ◌/◌, ◌%◌, ◌≤◌, ◌<◌, Bool, true, false, ◌&&◌, ◌||◌, ◌⊎◌, inl}
use Rattle.std.proofs.Common.{inr, cond, List, ◌∷◌, nat_lt, Option, Some, None, filter, map, arith, refl, ap, subst, sym, ◌∙◌}
use Rattle.std.specs.Prelude.{unsigned_abs}
use Rattle.std.specs.List.{flat_map, range_with_len}
use Rattle.std.proofs.lemmas.Int.{ints}
use Rattle.std.proofs.lemmas.Bool.{and_parts, cases_lt, ltb-true}
use Rattle.plane_core.specs.declared.plane.bounds.Bounds.{Bounds}
use Rattle.plane_core.specs.declared.plane.cell.Cell.{Cell}
use Rattle.plane_core.specs.plane.Bounds.{IsWithin, at_corner, box_of, cornered, shifted}
use Rattle.plane_core.specs.plane.Cells.{InOrder, cell_at, distance, has, moved_by, same_cell, set_of}
use Rattle.plane_core.proofs.lemmas.plane.OrientationLemmas.{has-map_from}
use Rattle.plane_core.proofs.lemmas.plane.TransformLemmas.{in_order-shifted}
use Rattle.plane_core.proofs.lemmas.plaintext.PlaintextBox.{within-box_of}
use Rattle.plane_core.proofs.lemmas.plane.SetLemmas.{has-all, has-append, has-filter, has-head, is_set_of, or_right}
use Rattle.code_core.specs.declared.reader.Token.{Token}
use Rattle.code_core.specs.Columns.{token_cells}
use Rattle.code_core.specs.Texts.{HasTextShape, TextsHaveTheirShape, TextsSpellPatterns, boxed_text, fits_forty_square, text, tokens_of}
use Rattle.code_core.proofs.StripLemmas.{spelled}
use Rattle.code_core.proofs.TextLemmas.{tokens_of-lawful, tokens_of-shape}
use Rattle.code_core.proofs.WholeGaps.{tokens_of-whole}
use Rattle.code_core.proofs.TokenCells.{box_cells, cells_from-joined, column_cells, strip_cells}

-- ---- `box_cells` has each cell in the first `width` columns of the first n strips

at_or_after : (a i n : ℕ) → a ≤ i → i < a + suc n → (i ≡ a) ⊎ ((a + 1 ≤ i) × (i < (a + 1) + n))
at_or_after a i n h k = elim (cases_lt a i) [ inl past ↦ inr (omega arith, omega arith) | inr most ↦ inl (omega arith) ]

or_left : (a b : Bool) → a ≡ true → (a || b) ≡ true
or_left a b e = rw e refl

has-flat_map : (f : ℕ → List Cell) (a n i : ℕ) (c : Cell) → a ≤ i → i < a + n → has (f i) c ≡ true → has (flat_map f (range_with_len a n)) c ≡ true
has-flat_map f a zero i c h k e = absurd (omega arith)
has-flat_map f a (suc n) i c h k e = has-append (f a) (flat_map f (range_with_len (a + 1) n)) c ∙ elim (at_or_after a i n h k) [
  | inl here ↦ or_left (has (f a) c) (has (flat_map f (range_with_len (a + 1) n)) c) (rw (← here) e)
  | inr on ↦ or_right (has (f a) c) (has (flat_map f (range_with_len (a + 1) n)) c) (has-flat_map f (a + 1) n i c on.0 on.1 e)
]

has-map : (f : ℕ → Cell) (a n i : ℕ) → a ≤ i → i < a + n → has (map f (range_with_len a n)) (f i) ≡ true
has-map f a zero i h k = absurd (omega arith)
has-map f a (suc n) i h k = elim (at_or_after a i n h k) [
  | inl here ↦ subst (λ j. has (f a ∷ map f (range_with_len (a + 1) n)) (f j) ≡ true) (sym here) (has-head (f a) (map f (range_with_len (a + 1) n)))
  | inr on ↦ or_right (same_cell (f i) (f a)) (has (map f (range_with_len (a + 1) n)) (f i)) (has-map f (a + 1) n i on.0 on.1)
]

has-box_cells : (width n x y : ℕ) → x < width → y < 5 * n → has (box_cells width 0 n) (cell_at (pos x) (pos y)) ≡ true
has-box_cells width n x y h k =
    let c = cell_at (pos x) (pos y) in
    let row : 5 * (y / 5) + y % 5 ≡ y = omega arith in
    let in_column : has (column_cells (y / 5) x) c ≡ true = subst (λ (r : ℕ). has (column_cells (y / 5) x) (cell_at (pos x) (pos r)) ≡ true) row
    (has-map (λ i. cell_at (pos x) (pos (5 * (y / 5) + i))) 0 5 (y % 5) (omega arith) (omega arith)) in
    let in_strip : has (strip_cells width (y / 5)) c ≡ true = has-flat_map (column_cells (y / 5)) 0 width x c (omega arith) (omega arith) in_column in
    has-flat_map (strip_cells width) 0 n (y / 5) c (omega arith) (omega arith) in_strip

-- ---- the cells of the tokens are the pattern

absorb : (g k : Bool) → (k ≡ true → g ≡ true) → k ≡ (g && k)
absorb g true h = rw (h refl) refl
absorb true false h = refl
absorb false false h = refl

-- a number that isn't negative is its absolute value
size_of : (z : ℤ) → pos 0 ≤ℤ z → z ≡ pos (unsigned_abs z)
size_of z h = omega (arith, ints)

-- the pattern has cells only in the columns 0 to right and the rows 0 to bottom
abbrev LiesInside : List Cell → ℕ → ℕ → Type 0
LiesInside cells right bottom = (c : Cell) → has cells c ≡ true → (x : ℕ) × (y : ℕ) × (c ≡ cell_at (pos x) (pos y)) × (x ≤ right) × (y ≤ bottom)

cells_of-tokens : (cells : List Cell) (right bottom : ℕ) → InOrder cells → LiesInside cells right bottom → token_cells (tokens_of cells right bottom) ≡ cells
unfolding tokens_of
cells_of-tokens cells right bottom o inside =
    let width = right + 1 in
    let n = bottom / 5 + 1 in
    let all = box_cells width 0 n in
    ap set_of (cells_from-joined cells width 0 n)
    ∙ sym (is_set_of cells (filter (has cells) all) o (λ c. absorb (has all c) (has cells c) (λ e. member c (inside c e)) ∙ sym (has-filter (has cells) all c)))
  where
    member : (c : Cell) → (x : ℕ) × (y : ℕ) × (c ≡ cell_at (pos x) (pos y)) × (x ≤ right) × (y ≤ bottom)
        → has (box_cells (right + 1) 0 (bottom / 5 + 1)) c ≡ true
    member c (x, y, is, l, m) = subst (λ d. has (box_cells (right + 1) 0 (bottom / 5 + 1)) d ≡ true) (sym is)
        (has-box_cells (right + 1) (bottom / 5 + 1) x y (omega arith) (omega arith))

-- the column and the row of a cell of the box, counted from the box's corner
counted : (b : Bounds) (c d : Cell) → IsWithin b d → c ≡ moved_by (neg_ℤ b.left) (neg_ℤ b.top) d
    → (x : ℕ) × (y : ℕ) × (c ≡ cell_at (pos x) (pos y)) × (x ≤ distance b.left b.right) × (y ≤ distance b.top b.bottom)
counted b c d w is =
    let x : d.x +ℤ neg_ℤ b.left ≡ pos (unsigned_abs (d.x +ℤ neg_ℤ b.left)) = size_of _ (omega (arith, ints, w.left)) in
    let y : d.y +ℤ neg_ℤ b.top ≡ pos (unsigned_abs (d.y +ℤ neg_ℤ b.top)) = size_of _ (omega (arith, ints, w.top)) in (
      unsigned_abs (d.x +ℤ neg_ℤ b.left),
      unsigned_abs (d.y +ℤ neg_ℤ b.top),
      is
          ∙ (λ i. cell_at (x i) (y i)),
      omega (arith, ints, w.left, w.right),
      omega (arith, ints, w.top, w.bottom),
    )

-- a pattern with the box b, moved to the corner, lies in columns 0 to b.right - b.left and rows 0 to b.bottom - b.top
inside-corner : (cells : List Cell) (b : Bounds) → box_of cells ≡ Some b → LiesInside (at_corner cells) (distance b.left b.right) (distance b.top b.bottom)
inside-corner cells b e c h =
    let moved : has (shifted (neg_ℤ b.left) (neg_ℤ b.top) cells) c ≡ true = subst (λ o. has (cornered o cells) c ≡ true) e h in
    let from = has-map_from (moved_by (neg_ℤ b.left) (neg_ℤ b.top)) cells c moved in
    counted b c from.0 (has-all (IsWithin b) cells from.0 (within-box_of cells b e) from.1) from.2

in_order-corner : (cells : List Cell) (b : Bounds) → box_of cells ≡ Some b → InOrder cells → InOrder (at_corner cells)
in_order-corner cells b e o = subst (λ f. InOrder (cornered f cells)) (sym e) (in_order-shifted (neg_ℤ b.left) (neg_ℤ b.top) cells o)

small_sides : (b : Bounds) → fits_forty_square b ≡ true → (distance b.left b.right < 40) × (distance b.top b.bottom < 40)
small_sides b small =
    let sides = and_parts (nat_lt (distance b.left b.right) 40) (nat_lt (distance b.top b.bottom) 40) small in
    (ltb-true (distance b.left b.right) 40 sides.0, ltb-true (distance b.top b.bottom) 40 sides.1)

-- ---- the laws

abbrev corner_tokens : List Cell → Bounds → List Token
corner_tokens cells b = tokens_of (at_corner cells) (distance b.left b.right) (distance b.top b.bottom)

-- the box of a pattern with a text has at most 40 columns and 40 rows, and the pattern's tokens spell the text
boxed : (cells : List Cell) (t : List ℕ) → text cells ≡ Some t
    → (b : Bounds) × (box_of cells ≡ Some b) × (fits_forty_square b ≡ true) × (spelled (corner_tokens cells b) ≡ t)
unfolding text
boxed cells t e = go (box_of cells) refl e
  where
    small : (b : Bounds) (s : Bool) → fits_forty_square b ≡ s → cond {A = Option (List ℕ)} s (Some (spelled (corner_tokens cells b))) None ≡ Some t
        → (fits_forty_square b ≡ true) × (spelled (corner_tokens cells b) ≡ t)
    small b true is e = (is, cc)
    small b false is e = absurd cc

    go : (o : Option Bounds) → box_of cells ≡ o → boxed_text cells o ≡ Some t
        → (b : Bounds) × (box_of cells ≡ Some b) × (fits_forty_square b ≡ true) × (spelled (corner_tokens cells b) ≡ t)
    go None is e = absurd cc
    go (Some b) is e = let h = small b (fits_forty_square b) refl e in (b, is, h.0, h.1)

pub texts_spell_patterns : TextsSpellPatterns
texts_spell_patterns cells t o e =
    let f = boxed cells t e in
    let b = f.0 in
    let right = distance b.left b.right in
    let bottom = distance b.top b.bottom in (
      corner_tokens cells b,
      record { each = tokens_of-lawful (at_corner cells) right bottom (small_sides b f.2).0; spelled = f.3 },
      tokens_of-whole (at_corner cells) right bottom,
      cells_of-tokens (at_corner cells) right bottom (in_order-corner cells b f.1 o) (inside-corner cells b f.1),
    )

pub texts_have_their_shape : TextsHaveTheirShape
texts_have_their_shape cells t e =
    let f = boxed cells t e in
    let b = f.0 in
    let sides = small_sides b f.2 in
    subst HasTextShape f.3 (tokens_of-shape (at_corner cells) (distance b.left b.right) (distance b.top b.bottom) sides.0 sides.1)
