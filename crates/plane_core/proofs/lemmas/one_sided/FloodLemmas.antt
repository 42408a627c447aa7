-- Bits of words, and how a flood grows from one live cell of a window to the whole cluster of this cell.
use Rattle.std.proofs.Common.{◌==◌, ◌+ℤ◌, pos, ◌⊎◌, inl, inr, length, slice_index}
use Rattle.std.proofs.Common.{◌≡◌, ◌≢◌, ◌+◌, ◌-◌, ◌*◌, ◌/◌, ◌%◌, ◌^◌, ◌<◌, ◌≤◌, ℕ, ℤ, List}
use Rattle.std.proofs.Common.{arith, refl, ap, ◌∙◌, sym, subst, bit_and, bit_or, bit_xor, slice_set, replicate, w64}
use Rattle.std.specs.Int.{bit_at, bit_not}
use Rattle.std.proofs.lemmas.List.{get_or-replicate, get_or-set_same, get_or-set_other, get_or_past}
use Rattle.std.proofs.lemmas.Nat.Bits.{bit_at-lt, bit_at_above, bit_at_and, bit_at_not, bit_at_or, bit_at_xor, bit_at-zero}
use Rattle.std.proofs.lemmas.Int.{ints}
use Rattle.std.proofs.Math.Pow.{pow-lt}
use Rattle.std.proofs.lemmas.Nat.Bits.{bit_at-pow_other, bit_at-pow_same, bit_at_mask_above, bit_at_mask_below}
use Rattle.plane_core.specs.declared.plane.cell.Cell.{Cell}
use Rattle.plane_core.specs.plane.Cells.{cell_at, distance, king_distance}
use Rattle.plane_core.specs.clusters.Clusters.{Linked}
use Rattle.plane_core.specs.one_sided.Floods.{AreLinked, AreNear, HasGrown, IsClosed, IsFlooded, IsWellInside, LiesInside}
use Rattle.plane_core.specs.windows.Rows.{ShowsInRows, bit_in}
use Rattle.plane_core.proofs.lemmas.plane.CaseLemmas.{less_or_not, same_or_not}
use Rattle.plane_core.proofs.lemmas.clusters.ClusterLemmas.{linked-has, linked-itself, linked-near, linked-trans}
use Rattle.plane_core.proofs.lemmas.one_sided.NeverRecursLemmas.{moved_bit}
use Rattle.plane_core.proofs.lemmas.windows.ShiftLemmas.{bit_left_high, bit_left_low}

-- ---- bits

pub or_one : (a b i : ℕ) → bit_at (bit_or a b) i ≡ 1 → (bit_at a i ≡ 1) ⊎ (bit_at b i ≡ 1)
or_one a b i e = go (same_or_not (bit_at a i) 1)
  where
    go : (bit_at a i ≡ 1) ⊎ (bit_at a i ≢ 1) → (bit_at a i ≡ 1) ⊎ (bit_at b i ≡ 1)
    go (inl is) = inl is
    go (inr not_it) = inr (let m = bit_at_or a b i in let p = bit_at-lt a i in omega arith)

pub one_or : (a b i : ℕ) → bit_at a i ≡ 1 → bit_at (bit_or a b) i ≡ 1
one_or a b i e = let m = bit_at_or a b i in let p = bit_at-lt b i in omega arith

pub or_other : (a b i : ℕ) → bit_at b i ≡ 1 → bit_at (bit_or a b) i ≡ 1
or_other a b i e = let m = bit_at_or a b i in let p = bit_at-lt a i in omega arith

pub and_one : (a b i : ℕ) → bit_at (bit_and a b) i ≡ 1 → (bit_at a i ≡ 1) × (bit_at b i ≡ 1)
and_one a b i e = let m = bit_at_and a b i in let p = bit_at-lt a i in let q = bit_at-lt b i in (omega arith, omega arith)

pub one_and : (a b i : ℕ) → bit_at a i ≡ 1 → bit_at b i ≡ 1 → bit_at (bit_and a b) i ≡ 1
one_and a b i e f = let m = bit_at_and a b i in omega arith

pub or_none : (a b i : ℕ) → bit_at (bit_or a b) i ≡ 0 → (bit_at a i ≡ 0) × (bit_at b i ≡ 0)
or_none a b i e = let m = bit_at_or a b i in (omega arith, omega arith)

-- `a & (a ^ b)` has the bits of `a` that `b` lacks; any other bit of `a` is also in `b`
pub not_missing : (a b i : ℕ) → bit_at (bit_and a (bit_xor a b)) i ≡ 0 → bit_at a i ≡ 1 → bit_at b i ≡ 1
not_missing a b i none one =
    let m = bit_at_and a (bit_xor a b) i in
    let n = bit_at_xor a b i in
    let p = bit_at-lt b i in
    omega arith

-- the bits of the mask 2 ^ hi - 2 ^ lo are the columns from lo to before hi
pub in_mask : (lo hi i : ℕ) → bit_at (2 ^ hi - 2 ^ lo) i ≡ 1 → (lo ≤ i) × (i < hi)
in_mask lo hi i one = (least (less_or_not i lo), most (less_or_not i hi))
  where
    least : (i < lo) ⊎ (lo ≤ i) → lo ≤ i
    least (inl left) = absurd (let z = bit_at_mask_below lo hi i left in omega arith)
    least (inr low) = low

    most : (i < hi) ⊎ (hi ≤ i) → i < hi
    most (inl high) = high
    most (inr right) = absurd (let z = bit_at_mask_above lo hi i right in omega arith)

pub below_64 : (n i : ℕ) → n < 2 ^ 64 → bit_at n i ≡ 1 → i < 64
below_64 n i small one = go (less_or_not i 64)
  where
    go : (i < 64) ⊎ (64 ≤ i) → i < 64
    go (inl low) = low
    go (inr far) = absurd (let z = bit_at_above n 64 i small far in omega arith)

-- if a bit of the word is lost when the bits of the mask are cleared, the bit is in the mask
pub not_outside : (word mask i : ℕ) → mask < 2 ^ 64 → word < 2 ^ 64 → bit_at (bit_and word (bit_not w64 mask)) i ≡ 0 → bit_at word i ≡ 1 → bit_at mask i ≡ 1
not_outside word mask i fits small none one =
    let m = bit_at_and word (bit_not w64 mask) i in
    let n = bit_at_not w64 mask i fits (below_64 word i small one) in
    let p = bit_at-lt mask i in
    omega arith

-- ---- bits and the bits beside them

abbrev IsBeside : ℕ → ℕ → Type 0
IsBeside word i = (i < 64) × (j : ℕ) × (AreNear 1 i j) × (bit_at word j ≡ 1)

pub from_beside : (word i : ℕ) → word < 2 ^ 64 → bit_at (bit_or (bit_or (word * 2 % 2 ^ 64) word) (word / 2)) i ≡ 1 → IsBeside word i
from_beside word i small one = go (or_one (bit_or (word * 2 % 2 ^ 64) word) (word / 2) i one)
  where
    up : bit_at (word * 2 % 2 ^ 64) i ≡ 1 → (0 < i) ⊎ (i ≤ 0) → IsBeside word i
    up e (inl some) =
        let low = below_64 (word * 2 % 2 ^ 64) i (omega arith) e in
        (low, i - 1, record { low = omega arith; high = omega arith }, sym (bit_left_high word 1 i some low) ∙ e)
    up e (inr none) = absurd (let z = bit_left_low word 1 i (omega arith) (omega arith) in omega (arith, z, e))

    here : (bit_at (word * 2 % 2 ^ 64) i ≡ 1) ⊎ (bit_at word i ≡ 1) → IsBeside word i
    here (inl e) = up e (less_or_not 0 i)
    here (inr e) = (below_64 word i small e, i, record { low = omega arith; high = omega arith }, e)

    go : (bit_at (bit_or (word * 2 % 2 ^ 64) word) i ≡ 1) ⊎ (bit_at (word / 2) i ≡ 1) → IsBeside word i
    go (inl e) = here (or_one (word * 2 % 2 ^ 64) word i e)
    go (inr e) = (below_64 (word / 2) i (omega arith) e, 1 + i, record { low = omega arith; high = omega arith }, sym (moved_bit word 1 i) ∙ e)

pub all_beside : (word i j : ℕ) → i < 64 → AreNear 1 i j → bit_at word j ≡ 1 → bit_at (bit_or (bit_or (word * 2 % 2 ^ 64) word) (word / 2)) i ≡ 1
all_beside word i j low near one = go (less_or_not j i) (less_or_not i j)
  where
    left : ℕ
    left = word * 2 % 2 ^ 64

    at : (k : ℕ) → k ≡ j → bit_at word k ≡ 1
    at k e = ap (bit_at word) e ∙ one

    go : (j < i) ⊎ (i ≤ j) → (i < j) ⊎ (j ≤ i) → bit_at (bit_or (bit_or (word * 2 % 2 ^ 64) word) (word / 2)) i ≡ 1
    go (inl less) q =
        one_or (bit_or (word * 2 % 2 ^ 64) word) (word / 2) i
        (one_or (word * 2 % 2 ^ 64) word i (bit_left_high word 1 i (omega arith) low ∙ at (i - 1) (omega (arith, near.low))))
    go (inr least) (inl more) =
        or_other (bit_or (word * 2 % 2 ^ 64) word) (word / 2) i (moved_bit word 1 i ∙ at (1 + i) (omega (arith, near.high)))
    go (inr least) (inr most) = one_or (bit_or (word * 2 % 2 ^ 64) word) (word / 2) i (or_other (word * 2 % 2 ^ 64) word i (at i (omega arith)))

-- numbers at most 1 from a common number are at most 2 apart
pub near_twice : (a b c : ℕ) → AreNear 1 a b → AreNear 1 b c → AreNear 2 a c
near_twice a b c p q = record { low = omega (arith, p.low, q.low); high = omega (arith, p.high, q.high) }

-- if two columns are at most 2 apart, some column is at most 1 from both
pub between : (i j : ℕ) → i < 64 → AreNear 2 i j → j < 64 → (k : ℕ) × (k < 64) × (AreNear 1 i k) × (AreNear 1 k j)
between i j low near high = go (less_or_not j i) (less_or_not i j)
  where
    go : (j < i) ⊎ (i ≤ j) → (i < j) ⊎ (j ≤ i) → (k : ℕ) × (k < 64) × (AreNear 1 i k) × (AreNear 1 k j)
    go (inl less) q = (
      j + 1,
      omega arith,
      record { low = omega (arith, near.low); high = omega arith },
      record { low = omega arith; high = omega arith },
    )
    go (inr least) (inl more) = (
      i + 1,
      omega arith,
      record { low = omega arith; high = omega arith },
      record { low = omega arith; high = omega (arith, near.high) },
    )
    go (inr least) (inr most) = (i, low, record { low = omega arith; high = omega arith }, record { low = omega arith; high = omega arith })

-- ---- the union of five rows

abbrev pub five : List ℕ → ℕ → ℕ
five flood r = bit_or (bit_or (bit_or (bit_or (slice_index flood (r - 2)) (slice_index flood (r - 1))) (slice_index flood r)) (slice_index flood (r + 1)))
    (slice_index flood (r + 2))

pub from_five : (flood : List ℕ) (r i : ℕ) → 2 ≤ r → bit_at (five flood r) i ≡ 1 → (q : ℕ) × (AreNear 2 r q) × (bit_in flood q i ≡ 1)
from_five flood r i least one = last (or_one _ (slice_index flood (r + 2)) i one)
  where
    first : (bit_in flood (r - 2) i ≡ 1) ⊎ (bit_in flood (r - 1) i ≡ 1) → (q : ℕ) × (AreNear 2 r q) × (bit_in flood q i ≡ 1)
    first (inl e) = (r - 2, record { low = omega arith; high = omega arith }, e)
    first (inr e) = (r - 1, record { low = omega arith; high = omega arith }, e)

    third : (bit_at (bit_or (slice_index flood (r - 2)) (slice_index flood (r - 1))) i ≡ 1) ⊎ (bit_in flood r i ≡ 1)
        → (q : ℕ) × (AreNear 2 r q) × (bit_in flood q i ≡ 1)
    third (inl e) = first (or_one _ (slice_index flood (r - 1)) i e)
    third (inr e) = (r, record { low = omega arith; high = omega arith }, e)

    fourth : (bit_at (bit_or (bit_or (slice_index flood (r - 2)) (slice_index flood (r - 1))) (slice_index flood r)) i ≡ 1) ⊎ (bit_in flood (r + 1) i ≡ 1)
        → (q : ℕ) × (AreNear 2 r q) × (bit_in flood q i ≡ 1)
    fourth (inl e) = third (or_one _ (slice_index flood r) i e)
    fourth (inr e) = (r + 1, record { low = omega arith; high = omega arith }, e)

    last : (bit_at (bit_or (bit_or (bit_or (slice_index flood (r - 2)) (slice_index flood (r - 1))) (slice_index flood r)) (slice_index flood (r + 1))) i ≡ 1)
        ⊎ (bit_in flood (r + 2) i ≡ 1) → (q : ℕ) × (AreNear 2 r q) × (bit_in flood q i ≡ 1)
    last (inl e) = fourth (or_one _ (slice_index flood (r + 1)) i e)
    last (inr e) = (r + 2, record { low = omega arith; high = omega arith }, e)

pub all_five : (flood : List ℕ) (r q i : ℕ) → 2 ≤ r → AreNear 2 r q → bit_in flood q i ≡ 1 → bit_at (five flood r) i ≡ 1
all_five flood r q i least near one = go (less_or_not q (r - 1)) (less_or_not q r) (less_or_not q (r + 1)) (less_or_not q (r + 2))
  where
    at : (k : ℕ) → k ≡ q → bit_in flood k i ≡ 1
    at k e = ap (λ (m : ℕ). bit_in flood m i) e ∙ one

    go : (q < r - 1) ⊎ (r - 1 ≤ q) → (q < r) ⊎ (r ≤ q) → (q < r + 1) ⊎ (r + 1 ≤ q) → (q < r + 2) ⊎ (r + 2 ≤ q) → bit_at (five flood r) i ≡ 1
    go (inl a) b c d = one_or _ _ i (one_or _ _ i (one_or _ _ i (one_or _ _ i (at (r - 2) (omega (arith, near.low))))))
    go (inr a) (inl b) c d = one_or _ _ i (one_or _ _ i (one_or _ _ i (or_other _ _ i (at (r - 1) (omega arith)))))
    go (inr a) (inr b) (inl c) d = one_or _ _ i (one_or _ _ i (or_other _ _ i (at r (omega arith))))
    go (inr a) (inr b) (inr c) (inl d) = one_or _ _ i (or_other _ _ i (at (r + 1) (omega arith)))
    go (inr a) (inr b) (inr c) (inr d) = or_other _ _ i (at (r + 2) (omega (arith, near.high)))

-- ---- a flood of one cell

power : (k : ℕ) → k < 64 → 1 * 2 ^ k % 2 ^ 64 ≡ 2 ^ k
power k low = let p : 2 ^ k < 2 ^ 64 = pow-lt low in omega arith

pub begun_only : (flood : List ℕ) (row column : ℕ) → row < length flood → column < 64 → ((r i : ℕ) → bit_in flood r i ≡ 0)
    → (r i : ℕ) → bit_in (slice_set flood row (1 * 2 ^ column % 2 ^ 64)) r i ≡ 1 → (r ≡ row) × (i ≡ column)
begun_only flood row column in_it low none r i one = rows_same (same_or_not r row)
  where
    new : ℕ
    new = 1 * 2 ^ column % 2 ^ 64

    columns_same : (r ≡ row) → (i ≡ column) ⊎ (i ≢ column) → (r ≡ row) × (i ≡ column)
    columns_same e (inl f) = (e, f)
    columns_same e (inr apart) = absurd (
        let a : bit_at new i ≡ 1 = ap (λ (w : ℕ). bit_at w i)
        (sym (get_or-set_same flood row new 0 in_it) ∙ ap (λ (q : ℕ). slice_index (slice_set flood row new) q) (sym e)) ∙ one in
        let b : bit_at new i ≡ 0 = ap (λ (w : ℕ). bit_at w i) (power column low) ∙ bit_at-pow_other column i apart in
        omega arith)

    rows_same : (r ≡ row) ⊎ (r ≢ row) → (r ≡ row) × (i ≡ column)
    rows_same (inl e) = columns_same e (same_or_not i column)
    rows_same (inr apart) = absurd (
        let a : bit_in flood r i ≡ 1 = ap (λ (w : ℕ). bit_at w i) (sym (get_or-set_other flood row r new 0 apart)) ∙ one in
        let b = none r i in omega arith)

pub none_lit : (r i : ℕ) → bit_in (replicate 64 0) r i ≡ 0
none_lit r i = ap (λ (w : ℕ). bit_at w i) (go (less_or_not r 64)) ∙ bit_at-zero i
  where
    go : (r < 64) ⊎ (64 ≤ r) → slice_index (replicate 64 0) r ≡ 0
    go (inl low) = get_or-replicate 64 r 0 0 low
    go (inr far) = get_or_past (replicate 64 0) r 0 far

pub begun_start : (flood : List ℕ) (row column : ℕ) → row < length flood → column < 64 → bit_in (slice_set flood row (1 * 2 ^ column % 2 ^ 64)) row column ≡ 1
begun_start flood row column in_it low =
    ap (λ (w : ℕ). bit_at w column) (get_or-set_same flood row (1 * 2 ^ column % 2 ^ 64) 0 in_it ∙ power column low) ∙ bit_at-pow_same column

-- ---- growing

pub grown_none : (rows flood : List ℕ) → HasGrown rows flood flood
grown_none rows flood = record { kept = λ r i one. one; linked = λ cells start left top shows linked. linked }

pub grown_more : (rows a b c : List ℕ) → HasGrown rows a b → HasGrown rows b c → HasGrown rows a c
grown_more rows a b c p q = record {
  kept = λ r i one. q.kept r i (p.kept r i one);
  linked = λ cells start left top shows linked. q.linked cells start left top shows (p.linked cells start left top shows linked);
}

near_cells : (left top : ℤ) (r i q j : ℕ) → AreNear 2 r q → AreNear 2 i j
    → king_distance (cell_at (left +ℤ pos j) (top +ℤ pos q)) (cell_at (left +ℤ pos i) (top +ℤ pos r)) ≤ 2
near_cells left top r i q j rows columns =
    let a : distance (left +ℤ pos j) (left +ℤ pos i) ≤ 2 = within left i j columns in
    let b : distance (top +ℤ pos q) (top +ℤ pos r) ≤ 2 = within top r q rows in
    omega arith
  where
    within : (from : ℤ) (m n : ℕ) → AreNear 2 m n → distance (from +ℤ pos n) (from +ℤ pos m) ≤ 2
    within from m n near = let l = near.low in let h = near.high in omega (arith, ints)

pub row_grown : (rows flood : List ℕ) (r here near new : ℕ) → r < length flood → 2 ≤ r → r < 62 → here ≡ slice_index flood r
    → ((i : ℕ) → bit_at near i ≡ 1 → (q : ℕ) × (AreNear 2 r q) × (bit_in flood q i ≡ 1))
    → ((i : ℕ) → bit_at here i ≡ 1 → bit_at new i ≡ 1)
    → ((i : ℕ) → bit_at new i ≡ 1 → (bit_at here i ≡ 1) ⊎ ((bit_in rows r i ≡ 1) × (2 ≤ i) × (i < 62) × (j : ℕ) × (AreNear 2 i j) × (bit_at near j ≡ 1)))
    → HasGrown rows flood (slice_set flood r new)
row_grown rows flood r here near new in_it low high is from kept come = record { kept = keeps; linked = links }
  where
    there : (q i : ℕ) → q ≡ r → bit_in (slice_set flood r new) q i ≡ bit_at new i
    there q i e = ap (λ (w : ℕ). bit_at w i) (ap (λ (m : ℕ). slice_index (slice_set flood r new) m) e ∙ get_or-set_same flood r new 0 in_it)

    elsewhere : (q i : ℕ) → q ≢ r → bit_in (slice_set flood r new) q i ≡ bit_in flood q i
    elsewhere q i apart = ap (λ (w : ℕ). bit_at w i) (get_or-set_other flood r q new 0 apart)

    before : (q i : ℕ) → q ≡ r → bit_in flood q i ≡ bit_at here i
    before q i e = ap (λ (w : ℕ). bit_at w i) (ap (slice_index flood) e ∙ sym is)

    keeps : (q i : ℕ) → bit_in flood q i ≡ 1 → bit_in (slice_set flood r new) q i ≡ 1
    keeps q i one = go (same_or_not q r)
      where
        go : (q ≡ r) ⊎ (q ≢ r) → bit_in (slice_set flood r new) q i ≡ 1
        go (inl e) = there q i e ∙ kept i (sym (before q i e) ∙ one)
        go (inr apart) = elsewhere q i apart ∙ one

    links : (cells : List Cell) (start : Cell) (left top : ℤ) → ShowsInRows left top rows cells → AreLinked left top start cells flood
        → AreLinked left top start cells (slice_set flood r new)
    links cells start left top shows linked q i one = go (same_or_not q r)
      where
        step : (j p : ℕ) → bit_in rows r i ≡ 1 → 2 ≤ i → i < 62 → AreNear 2 i j → AreNear 2 r p → bit_in flood p j ≡ 1
            → Linked cells start (cell_at (left +ℤ pos i) (top +ℤ pos r))
        step j p alive west east column row lit =
            let c = cell_at (left +ℤ pos j) (top +ℤ pos p) in
            let d = cell_at (left +ℤ pos i) (top +ℤ pos r) in
            let a = linked p j lit in
            linked-trans cells start c d a (linked-near cells c d (linked-has cells start c a) (shows r i low high west east ∙ ap (λ (m : ℕ). m == 1) alive)
            (near_cells left top r i p j row column))

        here_or_new : (bit_at here i ≡ 1) ⊎ ((bit_in rows r i ≡ 1) × (2 ≤ i) × (i < 62) × (j : ℕ) × (AreNear 2 i j) × (bit_at near j ≡ 1))
            → Linked cells start (cell_at (left +ℤ pos i) (top +ℤ pos r))
        here_or_new (inl old) = linked r i (before r i refl ∙ old)
        here_or_new (inr (alive, west, east, j, column, lit)) = let f = from j lit in step j f.0 alive west east column f.1 f.2

        go : (q ≡ r) ⊎ (q ≢ r) → Linked cells start (cell_at (left +ℤ pos i) (top +ℤ pos q))
        go (inl e) = subst (λ (m : ℕ). Linked cells start (cell_at (left +ℤ pos i) (top +ℤ pos m))) (sym e) (here_or_new (come i (sym (there q i e) ∙ one)))
        go (inr apart) = linked q i (sym (elsewhere q i apart) ∙ one)

-- ---- a flood that has stopped growing

pub rows_inside : (flood : List ℕ) → length flood ≡ 64 → ((r : ℕ) → r < 64 → (i : ℕ) → bit_in flood r i ≡ 1 → IsWellInside r i) → LiesInside flood
rows_inside flood long inside r i one = go (less_or_not r 64)
  where
    go : (r < 64) ⊎ (64 ≤ r) → IsWellInside r i
    go (inl low) = inside r low i one
    go (inr far) = absurd (let a = ap (λ (w : ℕ). bit_at w i) (get_or_past flood r 0 (omega arith)) in let b = bit_at-zero i in omega arith)

pub all_flooded : (rows first flood : List ℕ) (row column : ℕ) → bit_in first row column ≡ 1 → bit_in rows row column ≡ 1 → IsWellInside row column
    → ((r i : ℕ) → bit_in first r i ≡ 1 → (r ≡ row) × (i ≡ column))
    → HasGrown rows first flood → LiesInside flood → IsClosed rows flood → IsFlooded rows flood row column
all_flooded rows first flood row column start alive well only grown inside closed = record {
  start = grown.kept row column start;
  inside = inside;
  closed = closed;
  linked = λ cells left top shows. grown.linked cells (cell_at (left +ℤ pos column) (top +ℤ pos row)) left top shows (first_linked cells left top shows);
}
  where
    first_linked : (cells : List Cell) (left top : ℤ) → ShowsInRows left top rows cells
        → AreLinked left top (cell_at (left +ℤ pos column) (top +ℤ pos row)) cells first
    first_linked cells left top shows r i one =
        let c = cell_at (left +ℤ pos column) (top +ℤ pos row) in
        let at = only r i one in
        let a = well.above in let b = well.below in let w = well.west in let e = well.east in
        subst (λ (m : ℕ). Linked cells c (cell_at (left +ℤ pos i) (top +ℤ pos m))) (sym at.0)
        (subst (λ (m : ℕ). Linked cells c (cell_at (left +ℤ pos m) (top +ℤ pos row))) (sym at.1)
        (linked-itself cells c (shows row column (omega arith) (omega arith) (omega arith) (omega arith) ∙ ap (λ (m : ℕ). m == 1) alive)))
