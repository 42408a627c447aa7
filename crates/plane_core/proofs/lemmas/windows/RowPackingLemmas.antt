-- The two forms of a window's rows: in a list, one after another, and packed in vectors.
use Rattle.std.proofs.Common.{zero, suc, length, length-set, ◌∷◌, ◌++◌, ◌≡◌, ◌≢◌, ◌+◌, ◌-◌, ◌*◌, ◌%◌, ◌<◌, ◌≤◌, ◌⊎◌, ℕ, List, [], arith, refl, ap, subst, ◌∙◌, sym, inl, inr, get_or, set, slice_index}
use Rattle.std.proofs.lemmas.Bool.{cases_lt}
use Rattle.std.proofs.lemmas.List.{get_or-append_right, get_or-set_other, get_or-set_same, get_or_append_left}
use Rattle.std.proofs.lemmas.Nat.{mod-mul-add}
use Rattle.plane_core.specs.windows.Windows.{lane_at}
use Rattle.plane_core.proofs.lemmas.plane.CaseLemmas.{same_or_not}

-- ---- transposing four vectors

-- the vector that has lane i of each of a, b, c and d, if these have four lanes each
abbrev pub lanes_of : List ℕ → List ℕ → List ℕ → List ℕ → ℕ → List ℕ
lanes_of a b c d i = get_or (a ++ b) i 0 ∷ get_or (a ++ b) (4 + i) 0 ∷ get_or (c ++ d) i 0 ∷ get_or (c ++ d) (4 + i) 0 ∷ []

lane_of_four : (a b c d : List ℕ) → length a ≡ 4 → length b ≡ 4 → length c ≡ 4 → length d ≡ 4 → (i j : ℕ) → i < 4 → j < 4
    → slice_index (lanes_of a b c d i) j ≡ lane_at (a ∷ b ∷ c ∷ d ∷ []) j i
lane_of_four a b c d la lb lc ld i zero low lane = get_or_append_left a b 0 i (omega (arith, la, low))
lane_of_four a b c d la lb lc ld i (suc zero) low lane =
    get_or-append_right a b 4 (4 + i) 0 la (omega arith) ∙ ap (λ (m : ℕ). get_or b m 0) (omega arith)
lane_of_four a b c d la lb lc ld i (suc (suc zero)) low lane = get_or_append_left c d 0 i (omega (arith, lc, low))
lane_of_four a b c d la lb lc ld i (suc (suc (suc zero))) low lane =
    get_or-append_right c d 4 (4 + i) 0 lc (omega arith) ∙ ap (λ (m : ℕ). get_or d m 0) (omega arith)
lane_of_four a b c d la lb lc ld i (suc (suc (suc (suc j)))) low lane = absurd (omega (arith, lane))

-- the vectors of lanes 0, 1, 2 and 3 are a, b, c and d transposed
pub turned_lanes : (a b c d : List ℕ) → length a ≡ 4 → length b ≡ 4 → length c ≡ 4 → length d ≡ 4 → (i j : ℕ) → i < 4 → j < 4
    → lane_at (lanes_of a b c d 0 ∷ lanes_of a b c d 1 ∷ lanes_of a b c d 2 ∷ lanes_of a b c d 3 ∷ []) i j ≡ lane_at (a ∷ b ∷ c ∷ d ∷ []) j i
turned_lanes a b c d la lb lc ld zero j low lane = lane_of_four a b c d la lb lc ld 0 j low lane
turned_lanes a b c d la lb lc ld (suc zero) j low lane = lane_of_four a b c d la lb lc ld 1 j low lane
turned_lanes a b c d la lb lc ld (suc (suc zero)) j low lane = lane_of_four a b c d la lb lc ld 2 j low lane
turned_lanes a b c d la lb lc ld (suc (suc (suc zero))) j low lane = lane_of_four a b c d la lb lc ld 3 j low lane
turned_lanes a b c d la lb lc ld (suc (suc (suc (suc i)))) j low lane = absurd (omega (arith, low))

-- in the list of vectors k to k + 3 of a window, vector i is vector k + i of the window
pub four_of : (x : List (List ℕ)) (k i j : ℕ) → i < 4
    → lane_at (get_or x k [] ∷ get_or x (k + 1) [] ∷ get_or x (k + 2) [] ∷ get_or x (k + 3) [] ∷ []) i j ≡ lane_at x (k + i) j
four_of x k zero j low = ap (λ (m : ℕ). lane_at x m j) (omega arith)
four_of x k (suc zero) j low = refl
four_of x k (suc (suc zero)) j low = refl
four_of x k (suc (suc (suc zero))) j low = refl
four_of x k (suc (suc (suc (suc i)))) j low = absurd (omega (arith, low))

-- ---- packing

-- in the vectors before vector k, lane j of vector m is row j * n + m
abbrev pub ArePacked : ℕ → List ℕ → List (List ℕ) → ℕ → Type 0
ArePacked n rows x k = (m j : ℕ) → m < k → j < 4 → lane_at x m j ≡ slice_index rows (j * n + m)

-- four rows, one from each quarter of the window, are the lanes of vector k
four_rows : (n k : ℕ) (rows : List ℕ) (j : ℕ) → j < 4
    → slice_index (slice_index rows k ∷ slice_index rows (n + k) ∷ slice_index rows (2 * n + k) ∷ slice_index rows (3 * n + k) ∷ []) j
    ≡ slice_index rows (j * n + k)
four_rows n k rows zero low = ap (slice_index rows) (omega arith)
four_rows n k rows (suc zero) low = ap (slice_index rows) (omega arith)
four_rows n k rows (suc (suc zero)) low = ap (slice_index rows) (omega arith)
four_rows n k rows (suc (suc (suc zero))) low = ap (slice_index rows) (omega arith)
four_rows n k rows (suc (suc (suc (suc j)))) low = absurd (omega (arith, low))

-- once vector k is packed too, all vectors before k + 1 are packed
pub packed_one : (n k : ℕ) (rows : List ℕ) (x : List (List ℕ)) → k < length x → ArePacked n rows x k
    → ArePacked n rows
    (set x k (slice_index rows k ∷ slice_index rows (n + k) ∷ slice_index rows (2 * n + k) ∷ slice_index rows (3 * n + k) ∷ [])) (k + 1)
packed_one n k rows x low before m j less lane = split (cases_lt m k)
  where
    v : List ℕ
    v = slice_index rows k ∷ slice_index rows (n + k) ∷ slice_index rows (2 * n + k) ∷ slice_index rows (3 * n + k) ∷ []

    split : (m < k) ⊎ (k ≤ m) → lane_at (set x k v) m j ≡ slice_index rows (j * n + m)
    split (inl few) = ap (λ (w : List ℕ). slice_index w j) (get_or-set_other x k m v [] (λ e. omega (arith, e, few))) ∙ before m j few lane
    split (inr least) =
        let here : k ≡ m = omega (arith, less, least) in
        subst (λ (m : ℕ). lane_at (set x k v) m j ≡ slice_index rows (j * n + m)) here
        (ap (λ (w : List ℕ). slice_index w j) (get_or-set_same x k v [] low) ∙ four_rows n k rows j lane)

-- once vectors k to k + 3 are packed too, and the earlier vectors are unchanged, all vectors before k + 4 are packed
pub packed_four : (n k : ℕ) (rows : List ℕ) (x y : List (List ℕ)) → ArePacked n rows x k
    → ((i j : ℕ) → i < 4 → j < 4 → lane_at y (k + i) j ≡ slice_index rows (j * n + (k + i)))
    → ((m j : ℕ) → m < k → lane_at y m j ≡ lane_at x m j) → ArePacked n rows y (k + 4)
packed_four n k rows x y before made others m j less lane = split (cases_lt m k)
  where
    split : (m < k) ⊎ (k ≤ m) → lane_at y m j ≡ slice_index rows (j * n + m)
    split (inl low) = others m j low ∙ before m j low lane
    split (inr least) =
        let is : k + (m - k) ≡ m = omega arith in
        subst (λ (q : ℕ). lane_at y q j ≡ slice_index rows (j * n + q)) is (made (m - k) j (omega arith) lane)

-- ---- unpacking

-- row j * n + m is lane j of vector m, for each of the first `count` vectors
abbrev pub AreUnpacked : ℕ → List (List ℕ) → List ℕ → ℕ → Type 0
AreUnpacked n window rows count = (j m : ℕ) → j < 4 → m < count → slice_index rows (j * n + m) ≡ lane_at window m j

pub unpacked_more : (n : ℕ) (window : List (List ℕ)) (rows more vector : List ℕ) (k : ℕ) → k < n → AreUnpacked n window rows k
    → vector ≡ get_or window k [] → ((j : ℕ) → j < 4 → slice_index more (j * n + k) ≡ slice_index vector j)
    → ((j m : ℕ) → j < 4 → m < n → m ≢ k → slice_index more (j * n + m) ≡ slice_index rows (j * n + m)) → AreUnpacked n window more (k + 1)
unpacked_more n window rows more vector k small is same at others j m low less = split (same_or_not m k)
  where
    split : (m ≡ k) ⊎ (m ≢ k) → slice_index more (j * n + m) ≡ lane_at window m j
    split (inl e) =
        ap (λ (q : ℕ). slice_index more (j * n + q)) e ∙ at j low ∙ ap (λ (v : List ℕ). slice_index v j) same ∙ ap (λ (q : ℕ). lane_at window q j) (sym e)
    split (inr apart) = others j m low (omega arith) apart ∙ is j m low (omega arith)

-- once vectors k to k + 3 are unpacked too, and the rows of earlier vectors are unchanged, the first k + 4 are unpacked
pub unpacked_four : (n k : ℕ) (window : List (List ℕ)) (rows more : List ℕ) → AreUnpacked n window rows k
    → ((i j : ℕ) → i < 4 → j < 4 → slice_index more (j * n + (k + i)) ≡ lane_at window (k + i) j)
    → ((m j : ℕ) → m < k → j < 4 → slice_index more (j * n + m) ≡ slice_index rows (j * n + m)) → AreUnpacked n window more (k + 4)
unpacked_four n k window rows more before made others j m lane less = split (cases_lt m k)
  where
    split : (m < k) ⊎ (k ≤ m) → slice_index more (j * n + m) ≡ lane_at window m j
    split (inl low) = others m j low lane ∙ before j m lane low
    split (inr least) =
        let is : k + (m - k) ≡ m = omega arith in
        subst (λ (q : ℕ). slice_index more (j * n + q) ≡ lane_at window q j) is (made (m - k) j (omega arith) lane)

-- Four words are written in each quarter of the rows. r1 is r0 with vector 0 of `four` in rows k to k + 3, r2 is r1
-- with vector 1 of `four` in rows n + k to n + k + 3, and so on. r4 is the result.
module _ (n k : ℕ) (r0 r1 r2 r3 r4 : List ℕ) (four : List (List ℕ)) (fit : k + 4 ≤ n)
    (at1 : (i : ℕ) → i < 4 → slice_index r1 (k + i) ≡ lane_at four 0 i) (others1 : (m : ℕ) → (m < k) ⊎ (k + 4 ≤ m) → slice_index r1 m ≡ slice_index r0 m)
    (at2 : (i : ℕ) → i < 4 → slice_index r2 (n + k + i) ≡ lane_at four 1 i)
    (others2 : (m : ℕ) → (m < n + k) ⊎ (n + k + 4 ≤ m) → slice_index r2 m ≡ slice_index r1 m)
    (at3 : (i : ℕ) → i < 4 → slice_index r3 (2 * n + k + i) ≡ lane_at four 2 i)
    (others3 : (m : ℕ) → (m < 2 * n + k) ⊎ (2 * n + k + 4 ≤ m) → slice_index r3 m ≡ slice_index r2 m)
    (at4 : (i : ℕ) → i < 4 → slice_index r4 (3 * n + k + i) ≡ lane_at four 3 i)
    (others4 : (m : ℕ) → (m < 3 * n + k) ⊎ (3 * n + k + 4 ≤ m) → slice_index r4 m ≡ slice_index r3 m) where
  pub words_put : (i j : ℕ) → i < 4 → j < 4 → slice_index r4 (j * n + (k + i)) ≡ lane_at four j i
  words_put i zero low lane =
      ap (slice_index r4) (omega arith) ∙ others4 (k + i) (inl (omega arith)) ∙ others3 (k + i) (inl (omega arith)) ∙ others2 (k + i) (inl (omega arith))
      ∙ at1 i low
  words_put i (suc zero) low lane =
      ap (slice_index r4) (omega arith) ∙ others4 (n + k + i) (inl (omega arith)) ∙ others3 (n + k + i) (inl (omega arith)) ∙ at2 i low
  words_put i (suc (suc zero)) low lane = ap (slice_index r4) (omega arith) ∙ others4 (2 * n + k + i) (inl (omega arith)) ∙ at3 i low
  words_put i (suc (suc (suc zero))) low lane = ap (slice_index r4) (omega arith) ∙ at4 i low
  words_put i (suc (suc (suc (suc j)))) low lane = absurd (omega (arith, lane))

  pub words_kept : (m j : ℕ) → m < k → j < 4 → slice_index r4 (j * n + m) ≡ slice_index r0 (j * n + m)
  words_kept m zero low lane =
      others4 (0 * n + m) (inl (omega arith)) ∙ others3 (0 * n + m) (inl (omega arith)) ∙ others2 (0 * n + m) (inl (omega arith))
      ∙ others1 (0 * n + m) (inl (omega arith))
  words_kept m (suc zero) low lane =
      others4 (1 * n + m) (inl (omega arith)) ∙ others3 (1 * n + m) (inl (omega arith)) ∙ others2 (1 * n + m) (inl (omega arith))
      ∙ others1 (1 * n + m) (inr (omega arith))
  words_kept m (suc (suc zero)) low lane =
      others4 (2 * n + m) (inl (omega arith)) ∙ others3 (2 * n + m) (inl (omega arith)) ∙ others2 (2 * n + m) (inr (omega arith))
      ∙ others1 (2 * n + m) (inr (omega arith))
  words_kept m (suc (suc (suc zero))) low lane =
      others4 (3 * n + m) (inl (omega arith)) ∙ others3 (3 * n + m) (inr (omega arith)) ∙ others2 (3 * n + m) (inr (omega arith))
      ∙ others1 (3 * n + m) (inr (omega arith))
  words_kept m (suc (suc (suc (suc j)))) low lane = absurd (omega (arith, lane))

-- writing the four rows of vector k leaves the rows of each other vector m unchanged
pub other_rows : (n k j m : ℕ) (rows : List ℕ) (a b c d : ℕ) → k < n → m < n → m ≢ k
    → slice_index (set (set (set (set rows k a) (n + k) b) (2 * n + k) c) (3 * n + k) d) (j * n + m) ≡ slice_index rows (j * n + m)
other_rows n k j m rows a b c d small low apart =
    get_or-set_other (set (set (set rows k a) (n + k) b) (2 * n + k) c) (3 * n + k) (j * n + m) d 0 (λ e. off 3 (omega arith))
    ∙ get_or-set_other (set (set rows k a) (n + k) b) (2 * n + k) (j * n + m) c 0 (λ e. off 2 (omega arith))
    ∙ get_or-set_other (set rows k a) (n + k) (j * n + m) b 0 (λ e. off 1 (omega arith))
    ∙ get_or-set_other rows k (j * n + m) a 0 (λ e. off 0 (omega arith))
  where
    off : (q : ℕ) → j * n + m ≢ q * n + k
    off q e = apart (sym (mod-mul-add j n m low) ∙ ap (λ (r : ℕ). r % n) e ∙ mod-mul-add q n k small)

-- `four` is `rows` once the lanes of v have been written as the rows of vector k; lane j is then row j * n + k
module _ (n k : ℕ) (rows v : List ℕ) (small : k < n) (long : 4 * n ≤ length rows) where
  abbrev pub one : List ℕ
  one = set rows k (get_or v 0 0)

  abbrev pub two : List ℕ
  two = set one (n + k) (get_or v 1 0)

  abbrev pub three : List ℕ
  three = set two (2 * n + k) (get_or v 2 0)

  abbrev pub four : List ℕ
  four = set three (3 * n + k) (get_or v 3 0)

  own_0 : get_or four k 0 ≡ get_or v 0 0
  own_0 =
      get_or-set_other three (3 * n + k) k (get_or v 3 0) 0 (λ e. omega (arith, e, small))
      ∙ get_or-set_other two (2 * n + k) k (get_or v 2 0) 0 (λ e. omega (arith, e, small))
      ∙ get_or-set_other one (n + k) k (get_or v 1 0) 0 (λ e. omega (arith, e, small))
      ∙ get_or-set_same rows k (get_or v 0 0) 0 (omega (arith, small, long))

  own_1 : get_or four (n + k) 0 ≡ get_or v 1 0
  own_1 =
      get_or-set_other three (3 * n + k) (n + k) (get_or v 3 0) 0 (λ e. omega (arith, e, small))
      ∙ get_or-set_other two (2 * n + k) (n + k) (get_or v 2 0) 0 (λ e. omega (arith, e, small))
      ∙ get_or-set_same one (n + k) (get_or v 1 0) 0 (omega (arith, small, long, length-set rows k (get_or v 0 0)))

  own_2 : get_or four (2 * n + k) 0 ≡ get_or v 2 0
  own_2 =
      get_or-set_other three (3 * n + k) (2 * n + k) (get_or v 3 0) 0 (λ e. omega (arith, e, small))
      ∙ get_or-set_same two (2 * n + k) (get_or v 2 0) 0
      (omega (arith, small, long, length-set rows k (get_or v 0 0), length-set one (n + k) (get_or v 1 0)))

  own_3 : get_or four (3 * n + k) 0 ≡ get_or v 3 0
  own_3 =
      get_or-set_same three (3 * n + k) (get_or v 3 0) 0
      (omega (arith, small, long, length-set rows k (get_or v 0 0), length-set one (n + k) (get_or v 1 0), length-set two (2 * n + k) (get_or v 2 0)))

  pub own_rows : (j : ℕ) → j < 4 → slice_index four (j * n + k) ≡ slice_index v j
  own_rows zero low = ap (λ (i : ℕ). get_or four i 0) (omega arith) ∙ own_0
  own_rows (suc zero) low = ap (λ (i : ℕ). get_or four i 0) (omega arith) ∙ own_1
  own_rows (suc (suc zero)) low = ap (λ (i : ℕ). get_or four i 0) (omega arith) ∙ own_2
  own_rows (suc (suc (suc zero))) low = ap (λ (i : ℕ). get_or four i 0) (omega arith) ∙ own_3
  own_rows (suc (suc (suc (suc j)))) low = absurd (omega (arith, low))
