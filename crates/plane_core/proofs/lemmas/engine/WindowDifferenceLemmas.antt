-- Lemmas about the masks that mark where two windows differ.
use Rattle.std.proofs.Common.{◌≡◌, ◌+◌, ◌-◌, ◌*◌, ◌/◌, ◌%◌, ◌<◌, ◌≤◌, ℕ, List, length, ◌^◌, Bool, true, false, not, cond, map, replicate, w64}
use Rattle.std.proofs.Common.{zero, suc, max, slice_index, get_or, inl, inr, ◌⊎◌}
use Rattle.std.proofs.Common.{arith, refl, ap, ◌∙◌, sym, subst, bit_and, bit_xor}
use Rattle.std.specs.Int.{bit_at}
use Rattle.std.proofs.lemmas.Nat.Bits.{bit_at_and, bit_at_xor, bit_at-lt, bit_at-zero}
use Rattle.std.proofs.lemmas.Bool.{eqb-true}
use Rattle.std.proofs.lemmas.Nat.{div-add-mod', div_below, mod_below}
use Rattle.std.proofs.lemmas.Simd.{tops_compared, length-zip2, get_or-sel_l, get_or-zip2, get_or-replicate}
use Rattle.plane_core.specs.declared.engine.difference_box.DifferenceMask.{DifferenceMask}
use Rattle.plane_core.specs.engine.WindowDifferences.{DiffersOnlyIn}
use Rattle.plane_core.specs.windows.LaneSums.{bit_of}
use Rattle.plane_core.specs.windows.Windows.{lane_at}
use Rattle.plane_core.proofs.lemmas.plane.CaseLemmas.{less_or_not}
use Rattle.plane_core.proofs.lemmas.windows.LaneLemmas.{lane_of, four_lanes}
use Rattle.plane_core.proofs.lemmas.windows.ShiftLemmas.{bit_left_high}
use lib.Lanes.{zip2, sel_l, top}
use lib.Dec.{eqb}

pub no_difference : (one other mask : List ℕ) (j i : ℕ) → length one ≡ 4 → length other ≡ 4 → length mask ≡ 4 → j < 4 → bit_of mask j i ≡ 1
    → bit_of (zip2 bit_and (zip2 bit_xor one other) mask) j i ≡ 0 → bit_of one j i ≡ bit_of other j i
no_difference one other mask j i lo lt lm low set none =
    let word : slice_index (zip2 bit_and (zip2 bit_xor one other) mask) j ≡ bit_and (bit_xor (slice_index one j) (slice_index other j)) (slice_index mask j) =
    lane_of bit_and (zip2 bit_xor one other) mask j (four_lanes bit_xor one other lo lt) lm low
    ∙ ap (λ (w : ℕ). bit_and w (slice_index mask j)) (lane_of bit_xor one other j lo lt low) in
    let zero_is : bit_at (bit_and (bit_xor (slice_index one j) (slice_index other j)) (slice_index mask j)) i ≡ 0 = ap (λ (w : ℕ). bit_at w i) (sym word)
    ∙ none in
    omega (
      arith,
      bit_at_and (bit_xor (slice_index one j) (slice_index other j)) (slice_index mask j) i,
      bit_at_xor (slice_index one j) (slice_index other j) i,
      bit_at-lt (slice_index one j) i,
      bit_at-lt (slice_index other j) i,
    )

-- a bit that is 0 in the union of the lanes is 0 in each lane
pub in_no_lane : (v : List ℕ) (word : ℕ)
    → ((i : ℕ) → bit_at word i ≡ max (max (bit_of v 0 i) (bit_of v 1 i)) (max (bit_of v 2 i) (bit_of v 3 i)))
    → (j i : ℕ) → j < 4 → bit_at word i ≡ 0 → bit_of v j i ≡ 0
in_no_lane v word is zero i low none = omega (arith, is i, none)
in_no_lane v word is (suc zero) i low none = omega (arith, is i, none)
in_no_lane v word is (suc (suc zero)) i low none = omega (arith, is i, none)
in_no_lane v word is (suc (suc (suc zero))) i low none = omega (arith, is i, none)
in_no_lane v word is (suc (suc (suc (suc j)))) i low none = absurd (omega (arith, low))

-- ---- rows that are marked

-- whether two words differ
abbrev pub other_than : ℕ → ℕ → Bool
other_than a b = not (eqb a b)

-- A lane of `rows` is selected if the same lane of `places` isn't 0. So if bit q of lane j is 1 in `rows` and 0 in the
-- selection, lane j of `places` is 0.
pub not_marked : (places rows : List ℕ) (j i q : ℕ) → length places ≡ 4 → length rows ≡ 4 → j < 4 → bit_of rows j q ≡ 1
    → bit_of (sel_l (map (top 63) (zip2 (λ (a b : ℕ). cond (other_than a b) (2 ^ 64 - 1) 0) places (replicate 4 0))) rows (replicate 4 0)) j q ≡ 0
    → bit_of places j i ≡ 0
not_marked places rows j i q lp lr low one none = split (other_than (slice_index places j) 0) refl
  where
    marks : length (zip2 other_than places (replicate 4 0)) ≡ 4
    marks = length-zip2 other_than places (replicate 4 0) lp ∙ lp

    mark : get_or (zip2 other_than places (replicate 4 0)) j false ≡ other_than (slice_index places j) 0
    mark =
        get_or-zip2 other_than places (replicate 4 0) j 0 0 false (omega arith) low
        ∙ ap (λ (b : ℕ). other_than (slice_index places j) b) (get_or-replicate 4 j 0 0 low)

    word : slice_index (sel_l (map (top 63) (zip2 (λ (a b : ℕ). cond (other_than a b) (2 ^ 64 - 1) 0) places (replicate 4 0))) rows (replicate 4 0)) j
        ≡ cond (other_than (slice_index places j) 0) (slice_index rows j) 0
    word =
        ap (λ (ms : List Bool). slice_index (sel_l ms rows (replicate 4 0)) j) (tops_compared w64 other_than places (replicate 4 0))
        ∙ get_or-sel_l (zip2 other_than places (replicate 4 0)) rows (replicate 4 0) j 0 (omega (arith, marks)) (omega arith) low
        ∙ (λ t. cond (mark t) (slice_index rows j) (get_or-replicate 4 j 0 0 low t))

    split : (b : Bool) → other_than (slice_index places j) 0 ≡ b → bit_of places j i ≡ 0
    split true e =
        let same : slice_index (sel_l (map (top 63) (zip2 (λ (a b : ℕ). cond (other_than a b) (2 ^ 64 - 1) 0) places (replicate 4 0))) rows (replicate 4 0)) j
        ≡ slice_index rows j =
        word ∙ ap (λ (b : Bool). cond b (slice_index rows j) 0) e in
        let zero_is : bit_of rows j q ≡ 0 = ap (λ (n : ℕ). bit_at n q) (sym same) ∙ none in
        absurd (omega arith)
    split false e =
        let empty : slice_index places j ≡ 0 = eqb-true (slice_index places j) 0 (turned (eqb (slice_index places j) 0) e) in
        ap (λ (n : ℕ). bit_at n i) empty ∙ bit_at-zero i
      where
        turned : (b : Bool) → not b ≡ false → b ≡ true
        turned true f = refl
        turned false f = sym f

-- ---- one vector after another

-- in the inner cells of the first `count` vectors, lane j of one window differs from lane j of the other only in
-- columns that are marked in lane j of `columns`
abbrev pub DifferInColumns : ℕ → List (List ℕ) → List (List ℕ) → List ℕ → ℕ → Type 0
DifferInColumns n one other columns count = (k : ℕ) → k < count → (j i : ℕ) → j < 4 → 4 ≤ i → i < 60 → 4 ≤ j * n + k → j * n + k + 4 < 4 * n
    → bit_of columns j i ≡ 0 → bit_at (lane_at one k j) i ≡ bit_at (lane_at other k j) i

-- in the inner cells of the first `count` vectors, lane j of one window differs from lane j of the other only in rows
-- that are marked in lane j of `rows`
abbrev pub DifferInRows : ℕ → List (List ℕ) → List (List ℕ) → List ℕ → ℕ → Type 0
DifferInRows n one other rows count = (k : ℕ) → k < count → (j i : ℕ) → j < 4 → 4 ≤ i → i < 60 → 4 ≤ j * n + k → j * n + k + 4 < 4 * n
    → bit_of rows j (j * n + k) ≡ 0 → bit_at (lane_at one k j) i ≡ bit_at (lane_at other k j) i

-- `places` marks each inner place of vector k in which the windows differ
abbrev pub HoldPlaces : ℕ → List (List ℕ) → List (List ℕ) → List ℕ → ℕ → Type 0
HoldPlaces n one other places k = (j i : ℕ) → j < 4 → 4 ≤ i → i < 60 → 4 ≤ j * n + k → j * n + k + 4 < 4 * n
    → bit_of places j i ≡ 0 → bit_at (lane_at one k j) i ≡ bit_at (lane_at other k j) i

pub columns_more : (n : ℕ) (one other : List (List ℕ)) (columns places more : List ℕ) (k : ℕ) → DifferInColumns n one other columns k → HoldPlaces n one other places k
    → ((j i : ℕ) → j < 4 → bit_of more j i ≡ 0 → bit_of columns j i ≡ 0) → ((j i : ℕ) → j < 4 → bit_of more j i ≡ 0 → bit_of places j i ≡ 0)
    → DifferInColumns n one other more (k + 1)
columns_more n one other columns places more k before here old new m low j i lane a b d e none = split (less_or_not m k)
  where
    split : (m < k) ⊎ (k ≤ m) → bit_at (lane_at one m j) i ≡ bit_at (lane_at other m j) i
    split (inl less) = before m less j i lane a b d e (old j i lane none)
    split (inr last) =
        let is : k ≡ m = omega arith in
        subst (λ (q : ℕ). bit_at (lane_at one q j) i ≡ bit_at (lane_at other q j) i) is (here j i lane a b (omega arith) (omega arith) (new j i lane none))

pub rows_more : (n : ℕ) (one other : List (List ℕ)) (rows places marks more : List ℕ) (k : ℕ) → DifferInRows n one other rows k → HoldPlaces n one other places k
    → ((j i : ℕ) → j < 4 → bit_of marks j (j * n + k) ≡ 0 → bit_of places j i ≡ 0)
    → ((j i : ℕ) → j < 4 → bit_of more j i ≡ 0 → bit_of rows j i ≡ 0) → ((j i : ℕ) → j < 4 → bit_of more j i ≡ 0 → bit_of marks j i ≡ 0)
    → DifferInRows n one other more (k + 1)
rows_more n one other rows places marks more k before here mark old new m low j i lane a b d e none = split (less_or_not m k)
  where
    split : (m < k) ⊎ (k ≤ m) → bit_at (lane_at one m j) i ≡ bit_at (lane_at other m j) i
    split (inl less) = before m less j i lane a b d e (old j (j * n + m) lane none)
    split (inr last) =
        let is : k ≡ m = omega arith in
        let at : bit_of more j (j * n + k) ≡ 0 = ap (λ (q : ℕ). bit_of more j (j * n + q)) is ∙ none in
        subst (λ (q : ℕ). bit_at (lane_at one q j) i ≡ bit_at (lane_at other q j) i) is
        (here j i lane a b (omega arith) (omega arith) (mark j i lane (new j (j * n + k) lane at)))

pub differs_only : (n : ℕ) (one other : List (List ℕ)) (columns rows : List ℕ) (change : DifferenceMask) → DifferInColumns n one other columns n
    → DifferInRows n one other rows n
    → ((j i : ℕ) → j < 4 → bit_at change.columns i ≡ 0 → bit_of columns j i ≡ 0) → ((j i : ℕ) → j < 4 → bit_at change.rows i ≡ 0 → bit_of rows j i ≡ 0)
    → DiffersOnlyIn n change one other
differs_only n one other columns rows change by_columns by_rows all_columns all_rows = record {
  columns = λ r i a b d e none.
      let some : 0 < n = omega (arith, b) in
      let low : r < 4 * n = omega (arith, b) in
      let lane : r / n < 4 = div_below r n 4 some low in
      let whole : r / n * n + r % n ≡ r = div-add-mod' r n in
      by_columns (r % n) (mod_below r n some) (r / n) i lane d e (omega (arith, whole, a)) (omega (arith, whole, b)) (all_columns (r / n) i lane none);
  rows = λ r i a b d e none.
      let some : 0 < n = omega (arith, b) in
      let low : r < 4 * n = omega (arith, b) in
      let lane : r / n < 4 = div_below r n 4 some low in
      let whole : r / n * n + r % n ≡ r = div-add-mod' r n in
      by_rows (r % n) (mod_below r n some) (r / n) i lane d e (omega (arith, whole, a)) (omega (arith, whole, b))
      (ap (λ (q : ℕ). bit_of rows (r / n) q) whole ∙ all_rows (r / n) r lane none);
}

-- ---- words with one bit

-- if the word 1 is shifted up by m, bit m of the result is 1
pub one_bit : (m q : ℕ) → m < 64 → q ≡ m → bit_at (1 * 2 ^ m % 2 ^ 64) q ≡ 1
one_bit m q small e =
    let first : m - m ≡ 0 = omega arith in
    ap (bit_at (1 * 2 ^ m % 2 ^ 64)) e ∙ bit_left_high 1 m m (omega arith) small ∙ ap (bit_at 1) first
