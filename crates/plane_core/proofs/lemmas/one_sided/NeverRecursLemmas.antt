-- A pattern alone in a window: its cells, its next generation, its columns, and whether two windows are alike.
use Rattle.std.proofs.Common.{◌≡◌, ◌≢◌, ◌==◌, ◌+◌, ◌-◌, ◌*◌, ◌/◌, ◌%◌, ◌^◌, ◌<◌, ◌≤◌, ℕ}
use Rattle.std.proofs.Common.{ℤ, pos, negsuc, ◌+ℤ◌, ◌-ℤ◌, ◌≤ℤ◌, ◌<ℤ◌, zero, suc, Bool, true, false, cond}
use Rattle.std.proofs.Common.{List, [], arith, refl, ap, ◌∙◌, sym, subst, inl, inr, ◌⊎◌, slice_index, slice_index_or, unsigned_abs, max, bit_or}
use Rattle.std.specs.Int.{bit_at}
use Rattle.std.proofs.lemmas.Bool.{eqb-true}
use Rattle.std.proofs.lemmas.Int.{ints}
use Rattle.std.proofs.lemmas.List.{get_or_past}
use Rattle.std.proofs.lemmas.Nat.{div-mul-add, div_below, mod-mul-add, mod_below, pow-add}
use Rattle.std.proofs.lemmas.Nat.Bits.{bit_at-lt, bit_at-zero, bit_at_above, bit_at_or}
use Rattle.std.proofs.Math.Nat.{div-div-eq-div-mul, le-div_iff_mul-le}
use Rattle.plane_core.specs.declared.plane.cell.Cell.{Cell}
use Rattle.plane_core.specs.plane.Cells.{InOrder, cell_at, distance, has, king_distance, moved_by}
use Rattle.plane_core.specs.plane.Generations.{around, lives_by, next}
use Rattle.plane_core.specs.windows.LonePatterns.{AreAlike, Holds, IsColumns, IsInWindow, IsRimClear, IsVector, AreVectors}
use Rattle.plane_core.specs.windows.LaneSums.{bit_of, row_sum}
use Rattle.plane_core.specs.plane.Rules.{Numbers}
use Rattle.plane_core.specs.windows.Windows.{IsNextWindow, lane_at, row_above, row_at, row_below}
use Rattle.plane_core.specs.windows.Words.{west_of}
use Rattle.plane_core.proofs.lemmas.plane.GenerationLemmas.{a_neighbour, has-next, in_order-next, lives_by-around, lives_cases, times_once}
use Rattle.plane_core.proofs.lemmas.plane.NeighbourhoodLemmas.{neighbourhood_total-around, row_total, times}
use Rattle.plane_core.proofs.lemmas.plane.PartLemmas.{false_unless}
use Rattle.plane_core.proofs.lemmas.windows.WindowLemmas.{in_window, one_if-is, same_cell_at}
use Rattle.plane_core.proofs.lemmas.plane.CaseLemmas.{less_or_not, same_or_not}

-- ---- rows

pub row_small : (n : ℕ) (x : List (List ℕ)) (r : ℕ) → 0 < n → AreVectors n x → row_at n x r < 2 ^ 64
row_small n x r some whole = (whole (r % n) (mod_below r n some)).small (r / n)

pub row_past : (n : ℕ) (x : List (List ℕ)) (r : ℕ) → 0 < n → AreVectors n x → 4 * n ≤ r → row_at n x r ≡ 0
row_past n x r some whole far = get_or_past _ (r / n) 0 (omega (
  arith,
  (whole (r % n) (mod_below r n some)).long,
  (le-div_iff_mul-le {x =
      4} {y = r} some).1 far,
))

-- bit i of a word shifted right by k is bit k + i of the word
pub moved_bit : (n k i : ℕ) → bit_at (n / 2 ^ k) i ≡ bit_at n (k + i)
moved_bit n k i = ap (λ (m : ℕ). m % 2) (div-div-eq-div-mul n (2 ^ k) (2 ^ i) ∙ ap (λ (m : ℕ). n / m) (sym (pow-add 2 k i)))

-- ---- cells

-- the column and the row of a live cell in the window
pub record IsLit (n : ℕ) (left top : ℤ) (x : List (List ℕ)) (c : Cell) (i r : ℕ) : Type 0 where
  pub column : i < 64
  pub row : r < 4 * n
  pub place : c ≡ in_window left top i r
  pub bit : bit_at (row_at n x r) i ≡ 1

pub natural : (a b : ℤ) → b ≤ℤ a → a ≡ b +ℤ pos (unsigned_abs (a -ℤ b))
natural a b low = omega (arith, ints)

pub below : (a b : ℤ) (m : ℕ) → b ≤ℤ a → a <ℤ (b +ℤ pos m) → unsigned_abs (a -ℤ b) < m
below a b m low high = omega (arith, ints)

-- each live cell of the pattern has a column and a row in the window
pub lit : (n : ℕ) (left top : ℤ) (x : List (List ℕ)) (S : List Cell) (c : Cell) → Holds n left top x S → has S c ≡ true
    → (i : ℕ) × (r : ℕ) × IsLit n left top x c i r
lit n left top x S c h e =
    let w = h.inside c e in
    let i = unsigned_abs (c.x -ℤ left) in
    let r = unsigned_abs (c.y -ℤ top) in
    let column : i < 64 = below c.x left 64 w.west w.east in
    let row : r < 4 * n = below c.y top (4 * n) w.north w.south in
    let place : c ≡ in_window left top i r = same_cell_at _ _ _ _ (natural c.x left w.west) (natural c.y top w.north) in (
      i,
      r,
      record {
        column = column;
        row = row;
        place = place;
        bit = eqb-true (bit_at (row_at n x r) i) 1 (sym (h.shown r i (omega arith) (omega arith) (omega arith) (omega arith)) ∙ sym (ap (has S) place) ∙ e);
      },
    )

pub outside : (n : ℕ) (left top : ℤ) (x : List (List ℕ)) (S : List Cell) (c : Cell) → Holds n left top x S → (IsInWindow n left top c → ⊥) → has S c ≡ false
outside n left top x S c h out = false_unless (has S c) (λ e. out (h.inside c e))

pub not_lit : (m : ℕ) → m ≡ 0 → false ≡ (m == 1)
not_lit m none = ap (λ (k : ℕ). k == 1) (sym none)

-- a bit says whether its cell is alive, even past the window's border, where no cell is alive
pub held_anywhere : (n : ℕ) (left top : ℤ) (x : List (List ℕ)) (S : List Cell) (i r : ℕ) → 0 < n → Holds n left top x S → AreVectors n x
    → has S (in_window left top i r) ≡ (bit_at (row_at n x r) i == 1)
held_anywhere n left top x S i r some h whole = go (less_or_not i 64) (less_or_not r (4 * n))
  where
    go : (i < 64) ⊎ (64 ≤ i) → (r < 4 * n) ⊎ (4 * n ≤ r) → has S (in_window left top i r) ≡ (bit_at (row_at n x r) i == 1)
    go (inl near) (inl low) = h.shown r i (omega arith) (omega arith) (omega arith) (omega arith)
    go (inr far) q =
        outside n left top x S (in_window left top i r) h (λ w. let e = w.east in absurd (omega (arith, ints)))
        ∙ not_lit _ (bit_at_above (row_at n x r) 64 i (row_small n x r some whole) far)
    go p (inr low) =
        outside n left top x S (in_window left top i r) h (λ w. let e = w.south in absurd (omega (arith, ints)))
        ∙ not_lit _ (ap (λ (m : ℕ). bit_at m i) (row_past n x r some whole low) ∙ bit_at-zero i)

-- ---- a generation

-- a cell of the window that isn't on the rim
pub record IsInner (n : ℕ) (left top : ℤ) (c : Cell) : Type 0 where
  pub west : left <ℤ c.x
  pub north : top <ℤ c.y
  pub east : c.x <ℤ (left +ℤ pos 63)
  pub south : (c.y +ℤ pos 1) <ℤ (top +ℤ pos (4 * n))

inner : (n : ℕ) (left top : ℤ) (x : List (List ℕ)) (S : List Cell) (c : Cell) → Holds n left top x S → IsRimClear n x → has S c ≡ true → IsInner n left top c
inner n left top x S c h clear e = go (lit n left top x S c h e)
  where
    go : (i : ℕ) × (r : ℕ) × IsLit n left top x c i r → IsInner n left top c
    go (i, r, l) = record {
      west = let k = off_left in let p = across in omega (arith, ints);
      north = let k = off_top in let p = down in omega (arith, ints);
      east = let k = off_right in let p = across in omega (arith, ints);
      south = let k = off_bottom in let p = down in omega (arith, ints);
    }
      where
        across : c.x ≡ left +ℤ pos i
        across = ap (λ (d : Cell). d.x) l.place

        down : c.y ≡ top +ℤ pos r
        down = ap (λ (d : Cell). d.y) l.place

        low : r < 4 * n
        low = l.row

        near : i < 64
        near = l.column

        dark : (m : ℕ) → m ≡ 0 → bit_at m i ≡ 1 → ⊥
        dark m none one = let z = bit_at-zero i in let k = ap (λ (n : ℕ). bit_at n i) none in absurd (omega arith)

        off_left : 0 < i
        off_left = elim (less_or_not 0 i) [
          | inl past ↦ past
          | inr first ↦ absurd (let k = clear.left r low in let same : i ≡ 0 = omega arith in
              let m = ap (λ (a : ℕ). bit_at (row_at n x r) a) same in let one = l.bit in omega arith)
        ]

        off_right : i < 63
        off_right = elim (less_or_not i 63) [
          | inl before ↦ before
          | inr last ↦ absurd (let k = clear.right r low in let same : i ≡ 63 = omega (arith, near) in
              let m = ap (λ (a : ℕ). bit_at (row_at n x r) a) same in let one = l.bit in omega arith)
        ]

        off_top : 0 < r
        off_top = elim (less_or_not 0 r) [
          | inl past ↦ past
          | inr first ↦ absurd (let same : r ≡ 0 = omega arith in dark (row_at n x r) (ap (row_at n x) same ∙ clear.top) l.bit)
        ]

        off_bottom : r + 1 < 4 * n
        off_bottom = elim (less_or_not (r + 1) (4 * n)) [
          | inl before ↦ before
          | inr last ↦ absurd (let same : r ≡ 4 * n - 1 = omega (arith, low) in dark (row_at n x r) (ap (row_at n x) same ∙ clear.bottom) l.bit)
        ]

-- if the rim is clear, each cell of the next generation is in the window
inside_next : (rule : Numbers) (n : ℕ) (left top : ℤ) (x : List (List ℕ)) (S : List Cell) (c : Cell) → Holds n left top x S → IsRimClear n x
    → has (next rule S) c ≡ true → IsInWindow n left top c
inside_next rule n left top x S c h clear e = go (lives_cases rule S c (sym (has-next rule S c) ∙ e))
  where
    beside : (d : Cell) → king_distance c d ≤ 1 → IsInner n left top d → IsInWindow n left top c
    beside d near w = record {
      west = let k = w.west in let p : distance c.x d.x ≤ 1 = omega arith in low left d.x c.x p k;
      north = let k = w.north in let p : distance c.y d.y ≤ 1 = omega arith in low top d.y c.y p k;
      east = let k = w.east in let p : distance c.x d.x ≤ 1 = omega arith in
          high (left +ℤ pos 63) (left +ℤ pos 64) d.x c.x p (omega (arith, ints)) (omega (arith, ints));
      south = let k = w.south in let p : distance c.y d.y ≤ 1 = omega arith in
          high (top +ℤ (pos (4 * n) -ℤ pos 1)) (top +ℤ pos (4 * n)) d.y c.y p (omega (arith, ints)) (omega (arith, ints));
    }
      where
        low : (l a b : ℤ) → distance b a ≤ 1 → l <ℤ a → l ≤ℤ b
        low l a b p k = omega (arith, ints)

        high : (l m a b : ℤ) → distance b a ≤ 1 → l +ℤ pos 1 ≡ m → a <ℤ l → b <ℤ m
        high l m a b p q k = omega (arith, ints)

    itself : king_distance c c ≤ 1
    itself = let p = nothing c.x in let q = nothing c.y in omega arith
      where
        nothing : (a : ℤ) → distance a a ≡ 0
        nothing a = omega (arith, ints)

    go : (has S c ≡ true) ⊎ (0 < around S c) → IsInWindow n left top c
    go (inl alive) = beside c itself (inner n left top x S c h clear alive)
    go (inr some) = let d = a_neighbour S c some in beside d.0 (omega (arith, d.2)) (inner n left top x S d.0 h clear d.1)

bit_if : (S : List Cell) (m : ℕ) (e c : Cell) → e ≡ c → m < 2 → has S c ≡ (m == 1) → cond {A = ℕ} (has S e) 1 0 ≡ m
bit_if S m e c same small shown = ap (λ (d : Cell). cond {A = ℕ} (has S d) 1 0) same ∙ ap (λ (b : Bool). cond {A = ℕ} b 1 0) shown ∙ one m small
  where
    one : (n : ℕ) → n < 2 → cond {A = ℕ} (n == 1) 1 0 ≡ n
    one zero low = refl
    one (suc zero) low = refl
    one (suc (suc n)) low = absurd (omega arith)

-- the row sum at a bit of the window is the number of live cells among the cell of this bit and the cell's left and
-- right neighbours
row_seen : (S : List Cell) (n : ℕ) (left top : ℤ) (x : List (List ℕ)) → 0 < n → Holds n left top x S → AreVectors n x → (e : Cell) (r i : ℕ) → i < 64
    → e ≡ in_window left top i r → row_total S e ≡ row_sum (row_at n x r) i
row_seen S n left top x some h whole e r i low is =
    omega (
      arith,
      times_once S (moved_by (pos 1) (pos 0) e) o,
      times_once S e o,
      times_once S (moved_by (negsuc 0)
          (pos 0) e) o,
      here,
      west i is,
      east (i == 63) refl,
    )
  where
    o : InOrder S
    o = h.in_order

    word : ℕ
    word = row_at n x r

    seen : (k : ℕ) → has S (in_window left top k r) ≡ (bit_at (row_at n x r) k == 1)
    seen k = held_anywhere n left top x S k r some h whole

    here : cond {A = ℕ} (has S e) 1 0 ≡ bit_at word i
    here = bit_if S (bit_at word i) e (in_window left top i r) is (bit_at-lt word i) (seen i)

    west : (k : ℕ) → e ≡ in_window left top k r → cond {A = ℕ} (has S (moved_by (negsuc 0) (pos 0) e)) 1 0 ≡ west_of 0 word k
    west zero at =
        bit_if S (bit_at 0 63) (moved_by (negsuc 0) (pos 0) e) (moved_by (negsuc 0) (pos 0) e) refl (bit_at-lt 0 63)
        (outside n left top x S (moved_by (negsuc 0) (pos 0) e) h
        (λ w. let k = w.west in let p = ap (λ (d : Cell). d.x) at in absurd (omega (arith, ints)))
        ∙ not_lit (bit_at 0 63) (bit_at-zero 63))
    west (suc k) at =
        bit_if S (bit_at word k) (moved_by (negsuc 0) (pos 0) e) (in_window left top k r)
        (ap (moved_by (negsuc 0) (pos 0)) at ∙ same_cell_at _ _ _ _ (omega (arith, ints)) (omega (arith, ints))) (bit_at-lt word k) (seen k)

    east : (b : Bool) → (i == 63) ≡ b → cond {A = ℕ} (has S (moved_by (pos 1) (pos 0) e)) 1 0 ≡ cond b (bit_at 0 0) (bit_at word (i + 1))
    east true t =
        let last : i ≡ 63 = eqb-true i 63 t in
        bit_if S (bit_at 0 0) (moved_by (pos 1) (pos 0) e) (moved_by (pos 1) (pos 0) e) refl (bit_at-lt 0 0)
        (outside n left top x S (moved_by (pos 1) (pos 0) e) h
        (λ w. let k = w.east in let p = ap (λ (d : Cell). d.x) is in absurd (omega (arith, ints)))
        ∙ not_lit (bit_at 0 0) (bit_at-zero 0))
    east false t =
        bit_if S (bit_at word (i + 1)) (moved_by (pos 1) (pos 0) e) (in_window left top (i + 1) r)
        (ap (moved_by (pos 1) (pos 0)) is ∙ same_cell_at _ _ _ _ (omega (arith, ints)) (omega (arith, ints))) (bit_at-lt word (i + 1)) (seen (i + 1))

-- the row above the window has no live cells
row_over : (S : List Cell) (n : ℕ) (left top : ℤ) (x : List (List ℕ)) → Holds n left top x S → (e : Cell) (i : ℕ) → e.y ≡ top -ℤ pos 1
    → row_total S e ≡ row_sum 0 i
row_over S n left top x h e i is =
    omega (
      arith,
      none (moved_by (pos 1) (pos 0) e) (omega (arith, ints)),
      none e is,
      none (moved_by (negsuc 0) (pos 0) e) (omega (arith, ints)),
      west i,
      bit_at-zero i,
      east (i == 63),
    )
  where
    none : (d : Cell) → d.y ≡ top -ℤ pos 1 → times S d ≡ 0
    none d at = times_once S d h.in_order
        ∙ ap (λ (b : Bool). cond {A = ℕ} b 1 0) (outside n left top x S d h (λ w. let k = w.north in absurd (omega (arith, ints))))

    west : (k : ℕ) → west_of 0 0 k ≡ 0
    west zero = bit_at-zero 63
    west (suc k) = bit_at-zero k

    east : (b : Bool) → cond b (bit_at 0 0) (bit_at 0 (i + 1)) ≡ 0
    east true = bit_at-zero 0
    east false = bit_at-zero (i + 1)

row_next : (n : ℕ) (x : List (List ℕ)) (r : ℕ) → 0 < n → AreVectors n x → row_below n x r ≡ row_at n x (r + 1)
row_next n x r some whole = go (r + 1 == 4 * n) refl
  where
    go : (b : Bool) → (r + 1 == 4 * n) ≡ b → cond b 0 (row_at n x (r + 1)) ≡ row_at n x (r + 1)
    go true e = let last : r + 1 ≡ 4 * n = eqb-true (r + 1) (4 * n) e in sym (row_past n x (r + 1) some whole (omega arith))
    go false e = refl

-- three row sums count the live cells in the neighbourhood of a cell, even at the border of the window
block_seen : (S : List Cell) (n : ℕ) (left top : ℤ) (x : List (List ℕ)) → 0 < n → Holds n left top x S → AreVectors n x → (r i : ℕ) → i < 64
    → row_sum (row_above n x r) i + row_sum (row_at n x r) i + row_sum (row_below n x r) i
    ≡ around S (in_window left top i r) + cond (has S (in_window left top i r)) 1 0
block_seen S n left top x some h whole r i low =
    let c = in_window left top i r in
    let here = row_seen S n left top x some h whole c r i low refl in
    let below = row_seen S n left top x some h whole (moved_by (pos 0) (pos 1) c) (r + 1) i low (same_cell_at _ _ _ _ (omega (arith, ints))
    (omega (arith, ints))) in
    let under : row_sum (row_below n x r) i ≡ row_sum (row_at n x (r + 1)) i = ap (λ (w : ℕ). row_sum w i) (row_next n x r some whole) in
    omega (arith, neighbourhood_total-around S c, times_once S c h.in_order, above r, here, below, under)
  where
    above : (r : ℕ) → row_total S (moved_by (pos 0) (negsuc 0) (in_window left top i r)) ≡ row_sum (row_above n x r) i
    above zero = row_over S n left top x h (moved_by (pos 0) (negsuc 0) (in_window left top i 0)) i (omega (arith, ints))
    above (suc r) = row_seen S n left top x some h whole (moved_by (pos 0) (negsuc 0) (in_window left top i (suc r))) r i low
        (same_cell_at _ _ _ _ (omega (arith, ints)) (omega (arith, ints)))

-- if the rim is clear, the next window holds the next generation
pub next_held : (rule : Numbers) (n : ℕ) (left top : ℤ) (x y : List (List ℕ)) (S : List Cell) → 0 < n → AreVectors n x → IsRimClear n x → IsNextWindow rule n x y
    → Holds n left top x S → Holds n left top y (next rule S)
next_held rule n left top x y S some whole clear step h = record {
  in_order = in_order-next rule S;
  inside = λ c e. inside_next rule n left top x S c h clear e;
  shown = shown;
}
  where
    shown : (r i : ℕ) → 0 ≤ r → r + 0 < 4 * n → 0 ≤ i → i + 0 < 64 → has (next rule S) (cell_at (left +ℤ pos i) (top +ℤ pos r)) ≡ (bit_at (row_at n y r) i == 1)
    shown r i h1 h2 h3 h4 =
        let c = in_window left top i r in
        let count = block_seen S n left top x some h whole r i (omega arith) in
        let alive = h.shown r i (omega arith) (omega arith) (omega arith) (omega arith) in
        let bit = step r (omega arith) i (omega arith) in
        has-next rule S c
        ∙ sym (lives_by-around rule S c (has S c))
        ∙ (λ t. lives_by rule (sym count t) (alive t))
        ∙ sym (one_if-is _)
        ∙ ap (λ (m : ℕ). m == 1) (sym bit)

-- ---- the columns of a window

pub four_words : (a b c d i : ℕ) → bit_at (bit_or (bit_or a b) (bit_or c d)) i ≡ max (max (bit_at a i) (bit_at b i)) (max (bit_at c i) (bit_at d i))
four_words a b c d i = bit_at_or (bit_or a b) (bit_or c d) i ∙ (λ t. max (bit_at_or a b i t) (bit_at_or c d i t))

-- bit i of the union of the vector's four lanes
abbrev pub joined_bit : List ℕ → ℕ → ℕ
joined_bit v i = max (max (bit_of v 0 i) (bit_of v 1 i)) (max (bit_of v 2 i) (bit_of v 3 i))

any_lane : (v : List ℕ) (j i : ℕ) → j < 4 → bit_of v j i ≡ 1 → joined_bit v i ≡ 1
any_lane v zero i low e = omega (arith, bit_at-lt (slice_index v 1) i, bit_at-lt (slice_index v 2) i, bit_at-lt (slice_index v 3) i)
any_lane v (suc zero) i low e = omega (arith, bit_at-lt (slice_index v 0) i, bit_at-lt (slice_index v 2) i, bit_at-lt (slice_index v 3) i)
any_lane v (suc (suc zero)) i low e = omega (arith, bit_at-lt (slice_index v 0) i, bit_at-lt (slice_index v 1) i, bit_at-lt (slice_index v 3) i)
any_lane v (suc (suc (suc zero))) i low e = omega (arith, bit_at-lt (slice_index v 0) i, bit_at-lt (slice_index v 1) i, bit_at-lt (slice_index v 2) i)
any_lane v (suc (suc (suc (suc j)))) i low e = absurd (omega arith)

some_lane : (v : List ℕ) (i : ℕ) → joined_bit v i ≡ 1 → (j : ℕ) × (j < 4) × (bit_of v j i ≡ 1)
some_lane v i e = first (same_or_not (bit_of v 0 i) 1)
  where
    third : (bit_of v 0 i ≢ 1) → (bit_of v 1 i ≢ 1) → (bit_of v 2 i ≡ 1) ⊎ (bit_of v 2 i ≢ 1) → (j : ℕ) × (j < 4) × (bit_of v j i ≡ 1)
    third p q (inl f) = (2, omega arith, f)
    third p q (inr r) = (3, omega arith, omega (arith, p, q, r, bit_at-lt (slice_index v 0) i, bit_at-lt (slice_index v 1) i, bit_at-lt (slice_index v 2) i))

    second : (bit_of v 0 i ≢ 1) → (bit_of v 1 i ≡ 1) ⊎ (bit_of v 1 i ≢ 1) → (j : ℕ) × (j < 4) × (bit_of v j i ≡ 1)
    second p (inl f) = (1, omega arith, f)
    second p (inr q) = third p q (same_or_not (bit_of v 2 i) 1)

    first : (bit_of v 0 i ≡ 1) ⊎ (bit_of v 0 i ≢ 1) → (j : ℕ) × (j < 4) × (bit_of v j i ≡ 1)
    first (inl f) = (0, omega arith, f)
    first (inr p) = second p (same_or_not (bit_of v 1 i) 1)

each_lane : (v : List ℕ) (j i : ℕ) → j < 4 → joined_bit v i ≡ 0 → bit_of v j i ≡ 0
each_lane v zero i low e = omega arith
each_lane v (suc zero) i low e = omega arith
each_lane v (suc (suc zero)) i low e = omega arith
each_lane v (suc (suc (suc zero))) i low e = omega arith
each_lane v (suc (suc (suc (suc j)))) i low e = absurd (omega arith)

-- row j * n + k is lane j of vector k
row_is_lane : (n : ℕ) (x : List (List ℕ)) (j k : ℕ) → k < n → row_at n x (j * n + k) ≡ lane_at x k j
row_is_lane n x j k low = λ t. lane_at x (mod-mul-add j n k low t) (div-mul-add j n k low t)

row_low : (n j k : ℕ) → j < 4 → k < n → j * n + k < 4 * n
row_low n zero k h low = omega arith
row_low n (suc zero) k h low = omega arith
row_low n (suc (suc zero)) k h low = omega arith
row_low n (suc (suc (suc zero))) k h low = omega arith
row_low n (suc (suc (suc (suc j)))) k h low = absurd (omega arith)

-- `joined` is the union of the vectors before vector k
pub record HasJoined (x : List (List ℕ)) (joined : List ℕ) (k : ℕ) : Type 0 where
  pub whole : (m : ℕ) → m < k → IsVector (slice_index_or x m [])
  pub all : (m j i : ℕ) → m < k → j < 4 → bit_at (lane_at x m j) i ≡ 1 → bit_of joined j i ≡ 1
  pub alive : (j i : ℕ) → j < 4 → bit_of joined j i ≡ 1 → (m : ℕ) × (m < k) × (bit_at (lane_at x m j) i ≡ 1)

pub none_joined : (x : List (List ℕ)) (all : List ℕ) → ((j : ℕ) → j < 4 → slice_index all j ≡ 0) → HasJoined x all 0
none_joined x all none = record {
  whole = λ m low. absurd (omega arith);
  all = λ m j i low. absurd (omega arith);
  alive = λ j i low e. absurd (let k = ap (λ (w : ℕ). bit_at w i) (none j low) in let z = bit_at-zero i in omega arith);
}

pub joined_more : (x : List (List ℕ)) (all later v : List ℕ) (k : ℕ) → HasJoined x all k → slice_index_or x k [] ≡ v → IsVector v
    → ((j i : ℕ) → j < 4 → bit_of later j i ≡ max (bit_of all j i) (bit_of v j i)) → HasJoined x later (k + 1)
joined_more x all later v k before is vector bits = record {
  whole = λ m low. whole m low (same_or_not m k);
  all = λ m j i low h e. kept m j i low h e (same_or_not m k);
  alive = λ j i h e. found j i h (same_or_not (bit_of v j i) 1) e;
}
  where
    whole : (m : ℕ) → m < k + 1 → (m ≡ k) ⊎ (m ≢ k) → IsVector (slice_index_or x m [])
    whole m low (inl same) = subst IsVector (sym (ap (λ (a : ℕ). slice_index_or x a []) same ∙ is)) vector
    whole m low (inr apart) = before.whole m (omega arith)

    kept : (m j i : ℕ) → m < k + 1 → j < 4 → bit_at (lane_at x m j) i ≡ 1 → (m ≡ k) ⊎ (m ≢ k) → bit_of later j i ≡ 1
    kept m j i low h e (inl same) =
        let here : bit_of v j i ≡ 1 = sym (ap (λ (w : List ℕ). bit_of w j i) (ap (λ (a : ℕ). slice_index_or x a []) same ∙ is)) ∙ e in
        omega (arith, bits j i h, bit_at-lt (slice_index all j) i)
    kept m j i low h e (inr apart) = let old = before.all m j i (omega arith) h e in omega (arith, bits j i h, bit_at-lt (slice_index v j) i)

    found : (j i : ℕ) → j < 4 → (bit_of v j i ≡ 1) ⊎ (bit_of v j i ≢ 1) → bit_of later j i ≡ 1 → (m : ℕ) × (m < k + 1) × (bit_at (lane_at x m j) i ≡ 1)
    found j i h (inl here) e = (k, omega arith, ap (λ (w : List ℕ). bit_of w j i) is ∙ here)
    found j i h (inr none) e =
        let old = before.alive j i h (omega (arith, bits j i h, bit_at-lt (slice_index v j) i)) in (old.0, omega (arith, old.1), old.2)

pub columns_joined : (n : ℕ) (x : List (List ℕ)) (all : List ℕ) (w k : ℕ) → HasJoined x all k → k ≡ n → ((i : ℕ) → bit_at w i ≡ joined_bit all i)
    → IsColumns n x w
columns_joined n x all w k joined is bits = record {
  all = λ r i low e.
      let some : 0 < n = omega arith in
      bits i ∙ any_lane all (r / n) i (div_below r n 4 some low)
      (joined.all (r % n) (r / n) i (omega (arith, mod_below r n some)) (div_below r n 4 some low) e);
  alive = λ i e. found i (some_lane all i (sym (bits i) ∙ e));
}
  where
    found : (i : ℕ) → (j : ℕ) × (j < 4) × (bit_of all j i ≡ 1) → (r : ℕ) × (r < 4 * n) × (bit_at (row_at n x r) i ≡ 1)
    found i (j, h, e) =
        let m = joined.alive j i h e in
        let low : m.0 < n = omega (arith, m.1) in
        (j * n + m.0, row_low n j m.0 h low, ap (λ (v : ℕ). bit_at v i) (row_is_lane n x j m.0 low) ∙ m.2)

pub whole_joined : (n : ℕ) (x : List (List ℕ)) (all : List ℕ) (k : ℕ) → HasJoined x all k → k ≡ n → AreVectors n x
whole_joined n x all k joined is m low = joined.whole m (omega arith)

-- in the vectors before vector k, the two windows differ only where a bit of `marks` is 1
abbrev pub AreAlikeBelow : List (List ℕ) → List (List ℕ) → List ℕ → ℕ → Type 0
AreAlikeBelow x y marks k = (m j i : ℕ) → m < k → j < 4 → bit_of marks j i ≡ 0 → bit_at (lane_at x m j) i ≡ bit_at (lane_at y m j) i

pub alike_more : (x y : List (List ℕ)) (marks later a b : List ℕ) (k : ℕ) → AreAlikeBelow x y marks k → slice_index_or x k [] ≡ a → slice_index_or y k [] ≡ b
    → ((j i : ℕ) → j < 4 → bit_of later j i ≡ 0 → bit_of marks j i ≡ 0) → ((j i : ℕ) → j < 4 → bit_of later j i ≡ 0 → bit_of a j i ≡ bit_of b j i)
    → AreAlikeBelow x y later (k + 1)
alike_more x y marks later a b k before p q kept same m j i low h none = go (same_or_not m k)
  where
    go : (m ≡ k) ⊎ (m ≢ k) → bit_at (lane_at x m j) i ≡ bit_at (lane_at y m j) i
    go (inl e) =
        ap (λ (w : List ℕ). bit_of w j i) (ap (λ (c : ℕ). slice_index_or x c []) e ∙ p) ∙ same j i h none
        ∙ sym (ap (λ (w : List ℕ). bit_of w j i) (ap (λ (c : ℕ). slice_index_or y c []) e ∙ q))
    go (inr apart) = before m j i (omega arith) h (kept j i h none)

pub all_alike : (n : ℕ) (x y : List (List ℕ)) (marks : List ℕ) (w k : ℕ) → AreAlikeBelow x y marks k → k ≡ n → ((i : ℕ)
    → bit_at w i ≡ joined_bit marks i) → w ≡ 0
    → AreAlike n x y
all_alike n x y marks w k alike is bits none r i low =
    let some : 0 < n = omega arith in
    let j : r / n < 4 = div_below r n 4 some low in
    alike (r % n) (r / n) i (omega (arith, mod_below r n some)) j
    (each_lane marks (r / n) i j (sym (bits i) ∙ ap (λ (m : ℕ). bit_at m i) none ∙ bit_at-zero i))
