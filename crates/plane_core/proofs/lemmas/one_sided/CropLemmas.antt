-- Lemmas about crops. A crop is a smaller window that consists of some rows of a window of 64 rows.
use Rattle.std.proofs.Common.{◌≡◌, ◌≢◌, ◌==◌, ◌+◌, ◌-◌, ◌*◌, ◌<◌, ◌≤◌, ◌⊎◌, ℕ, ℤ, ◌+ℤ◌, ◌-ℤ◌, pos, unsigned_abs, true, List, get_or, length, length-set, replicate, set, slice_index}
use Rattle.std.proofs.Common.{ap, ◌∙◌, sym, subst, refl, arith, inl, inr}
use Rattle.std.specs.Int.{bit_at}
use Rattle.std.proofs.lemmas.Bool.{eqb-true}
use Rattle.std.proofs.lemmas.Int.{ints}
use Rattle.std.proofs.lemmas.List.{get_or-set_other, get_or-set_same}
use Rattle.std.proofs.lemmas.Nat.Bits.{bit_at-zero}
use Rattle.plane_core.specs.declared.plane.cell.Cell.{Cell}
use Rattle.plane_core.specs.plane.Cells.{has}
use Rattle.plane_core.specs.one_sided.Crops.{IsCrop, LiesInCrop}
use Rattle.plane_core.specs.windows.LonePatterns.{FillsRows, Holds, IsInWindow}
use Rattle.plane_core.specs.windows.Rows.{ShowsInside, bit_in}
use Rattle.plane_core.specs.windows.Windows.{IsShownInside, row_at}
use Rattle.plane_core.proofs.lemmas.plane.CaseLemmas.{less_or_not, same_or_not}
use Rattle.plane_core.proofs.lemmas.engine.WindowRoundLemmas.{zeros}
use Rattle.plane_core.proofs.lemmas.one_sided.NeverRecursLemmas.{below, natural, not_lit, outside}
use Rattle.plane_core.proofs.lemmas.windows.WindowLemmas.{in_window, same_cell_at}

-- the first `count` rows of the part have been put into 64 rows, from row `from` on; all other rows are empty
pub record ArePut (from count : ℕ) (part rows : List ℕ) : Type 0 where
  pub long : length rows ≡ 64
  pub made : (q : ℕ) → q < count → slice_index rows (from + q) ≡ slice_index part q
  pub none : (q : ℕ) → (q < from) ⊎ (from + count ≤ q) → slice_index rows q ≡ 0

pub none_put : (from : ℕ) (part : List ℕ) → ArePut from 0 part (replicate 64 0)
none_put from part = record { long = refl; made = λ q low. absurd (omega (arith, low)); none = λ q off. zeros 64 q }

pub put_more : (from r : ℕ) (part rows : List ℕ) → from + r < 64 → ArePut from r part rows → ArePut from (r + 1) part (set rows (from + r) (get_or part r 0))
put_more from r part rows fits before = record {
  long = length-set rows (from + r) (get_or part r 0) ∙ before.long;
  made = λ q low. made q low (same_or_not q r);
  none = λ q off. get_or-set_other rows (from + r) q (get_or part r 0) 0 (apart q off) ∙ before.none q (earlier q off);
}
  where
    made : (q : ℕ) → q < r + 1 → (q ≡ r) ⊎ (q ≢ r) → slice_index (set rows (from + r) (get_or part r 0)) (from + q) ≡ slice_index part q
    made q low (inl same) =
        ap (λ (k : ℕ). slice_index (set rows (from + r) (get_or part r 0)) (from + k)) same
        ∙ get_or-set_same rows (from + r) (get_or part r 0) 0 (subst (λ (n : ℕ). from + r < n) (sym before.long) fits)
        ∙ ap (slice_index part) (sym same)
    made q low (inr other) = get_or-set_other rows (from + r) (from + q) (get_or part r 0) 0 (λ e. other (omega (arith, e))) ∙ before.made q (omega (arith, low, other))

    apart : (q : ℕ) → (q < from) ⊎ (from + (r + 1) ≤ q) → q ≢ from + r
    apart q (inl above) e = omega (arith, above, e)
    apart q (inr below) e = omega (arith, below, e)

    earlier : (q : ℕ) → (q < from) ⊎ (from + (r + 1) ≤ q) → (q < from) ⊎ (from + r ≤ q)
    earlier q (inl above) = inl above
    earlier q (inr below) = inr (omega (arith, below))

-- once all rows of a window have been put into the 64 rows, the window is a crop of the 64 rows
pub put_crop : (n many from count : ℕ) (part rows : List ℕ) (window : List (List ℕ)) → many ≡ 4 * n → count ≡ many → ArePut from count part rows
    → ((r : ℕ) → r < many → slice_index part r ≡ row_at n window r) → IsCrop n from rows window
put_crop n many from count part rows window four all put unpacked r low =
    sym (put.made r (omega (arith, low, four, all)) ∙ unpacked r (omega (arith, low, four)))

pub put_lies : (many from count : ℕ) (part rows : List ℕ) → from + many ≤ 64 → count ≡ many → ArePut from count part rows → LiesInCrop many from rows
put_lies many from count part rows fits all put = record {
  low = fits;
  above = λ r above. put.none r (inl above);
  below = λ r past low. put.none r (inr (omega (arith, past, all)));
}

-- the column and the row of a live cell in the rows
record IsLitIn (left top : ℤ) (rows : List ℕ) (c : Cell) (i r : ℕ) : Type 0 where
  column : i < 64
  row : r < 64
  place : c ≡ in_window left top i r
  bit : bit_in rows r i ≡ 1

lit_in : (left top : ℤ) (rows : List ℕ) (S : List Cell) (c : Cell) → FillsRows left top rows S → has S c ≡ true
    → (i : ℕ) × (r : ℕ) × IsLitIn left top rows c i r
lit_in left top rows S c h e =
    let w = h.inside c e in
    let i = unsigned_abs (c.x -ℤ left) in
    let r = unsigned_abs (c.y -ℤ top) in
    let column : i < 64 = below c.x left 64 w.west w.east in
    let row : r < 64 = below c.y top 64 w.north w.south in
    let place : c ≡ in_window left top i r = same_cell_at _ _ _ _ (natural c.x left w.west) (natural c.y top w.north) in (
      i,
      r,
      record {
        column = column;
        row = row;
        place = place;
        bit = eqb-true (bit_in rows r i) 1 (sym (h.shown r i row column) ∙ sym (ap (has S) place) ∙ e);
      },
    )

-- if the rows show a pattern at least `depth` inside their border, the crop shows the pattern at least `depth` inside
-- its own border
pub crop_shown : (n from depth : ℕ) (left top : ℤ) (rows : List ℕ) (part : List (List ℕ)) (cells : List Cell) → from + 4 * n ≤ 64 → IsCrop n from rows part
    → ShowsInside left top depth rows cells → IsShownInside n left (top +ℤ pos from) depth part cells
crop_shown n from depth left top rows part cells low is shown r i a b d e =
    ap (has cells) (same_cell_at _ _ (left +ℤ pos i) (top +ℤ pos (from + r)) refl (omega (arith, ints)))
    ∙ shown (from + r) i (omega arith) (omega arith) d e
    ∙ ap (λ (w : ℕ). bit_at w i == 1) (sym (is r (omega arith)))

-- if all live cells of the rows are in the crop, the crop holds the pattern that the rows hold
pub crop_held : (n from : ℕ) (left top : ℤ) (rows : List ℕ) (part : List (List ℕ)) (S : List Cell) → LiesInCrop (4 * n) from rows → IsCrop n from rows part
    → FillsRows left top rows S → Holds n left (top +ℤ pos from) part S
crop_held n from left top rows part S lies is h = record {
  in_order = h.in_order;
  inside = λ c e. inside c (lit_in left top rows S c h e);
  shown = crop_shown n from 0 left top rows part S lies.low is (λ r i a b d e. h.shown r i (omega arith) (omega arith));
}
  where
    inside : (c : Cell) → (i : ℕ) × (r : ℕ) × IsLitIn left top rows c i r → IsInWindow n left (top +ℤ pos from) c
    inside c (i, r, l) = record {
      west = let p = across in omega (arith, ints);
      north = let k = not_above in let p = down in omega (arith, ints);
      east = let k = l.column in let p = across in omega (arith, ints);
      south = let k = not_below in let p = down in omega (arith, ints);
    }
      where
        across : c.x ≡ left +ℤ pos i
        across = ap (λ (d : Cell). d.x) l.place

        down : c.y ≡ top +ℤ pos r
        down = ap (λ (d : Cell). d.y) l.place

        dark : (m : ℕ) → m ≡ 0 → bit_at m i ≡ 1 → ⊥
        dark m none one = let z = bit_at-zero i in let k = ap (λ (n : ℕ). bit_at n i) none in absurd (omega arith)

        not_above : from ≤ r
        not_above = elim (less_or_not r from) [
          | inl above ↦ absurd (dark (slice_index rows r) (lies.above r above) l.bit)
          | inr low ↦ low
        ]

        not_below : r < from + 4 * n
        not_below = elim (less_or_not r (from + 4 * n)) [
          | inl near ↦ near
          | inr far ↦ absurd (dark (slice_index rows r) (lies.below r far l.row) l.bit)
        ]

-- if all live cells of the rows are in the crop, the rows hold the pattern that the crop holds
pub uncrop_held : (n from : ℕ) (left top : ℤ) (rows : List ℕ) (part : List (List ℕ)) (S : List Cell) → LiesInCrop (4 * n) from rows
    → IsCrop n from rows part → Holds n left (top +ℤ pos from) part S → FillsRows left top rows S
uncrop_held n from left top rows part S lies is h = record {
  in_order = h.in_order;
  inside = λ c e. inside c (h.inside c e);
  shown = λ r i low near. shown r i low near (less_or_not r from) (less_or_not r (from + 4 * n));
}
  where
    inside : (c : Cell) → IsInWindow n left (top +ℤ pos from) c → IsInWindow 16 left top c
    inside c w = let fits = lies.low in let k = w.north in let s = w.south in record {
      west = w.west;
      north = omega (arith, ints);
      east = w.east;
      south = omega (arith, ints);
    }

    dark : (r i : ℕ) → slice_index rows r ≡ 0 → (IsInWindow n left (top +ℤ pos from) (in_window left top i r) → ⊥)
        → has S (in_window left top i r) ≡ (bit_in rows r i == 1)
    dark r i none out =
        outside n left (top +ℤ pos from) part S (in_window left top i r) h out
        ∙ not_lit (bit_in rows r i) (ap (λ (w : ℕ). bit_at w i) none ∙ bit_at-zero i)

    shown : (r i : ℕ) → r < 64 → i < 64 → (r < from) ⊎ (from ≤ r) → (r < from + 4 * n) ⊎ (from + 4 * n ≤ r)
        → has S (in_window left top i r) ≡ (bit_in rows r i == 1)
    shown r i low near (inl above) q = dark r i (lies.above r above) (λ w. let k = w.north in absurd (omega (arith, ints)))
    shown r i low near p (inr past) = dark r i (lies.below r past low) (λ w. let k = w.south in absurd (omega (arith, ints)))
    shown r i low near (inr past) (inl before) =
        ap (has S) (same_cell_at _ _ (left +ℤ pos i) ((top +ℤ pos from) +ℤ pos (r - from)) refl (omega (arith, ints)))
        ∙ h.shown (r - from) i (omega arith) (omega arith) (omega arith) (omega arith)
        ∙ ap (λ (w : ℕ). bit_at w i == 1) (is (r - from) (omega arith) ∙ ap (slice_index rows) (omega arith))
