-- A pattern is run in a window. How a generation that is a translate of the start is recognised, and how the pattern is
-- proved never to recur.
use Rattle.std.proofs.Common.{◌≡◌, ◌≢◌, ◌==◌, ◌+◌, ◌*◌, ◌/◌, ◌^◌, ◌<◌, ◌≤◌, ℕ, ℤ, pos, ◌+ℤ◌, ◌≤ℤ◌, zero, suc, Bool, true, false}
use Rattle.std.proofs.Common.{List, [], ◌∷◌, arith, refl, ap, ◌∙◌, sym, subst, inl, inr, ◌⊎◌, w64}
use Rattle.std.specs.Cmp.{both_ways as both_true}
use Rattle.std.specs.Int.{bit_at, trailing_zeros}
use Rattle.std.proofs.lemmas.Bool.{false≢true}
use Rattle.std.proofs.lemmas.Int.{ints}
use Rattle.std.proofs.lemmas.Nat.Bits.{bit_at-lt, bit_at-trailing_zeros, bit_at-zero, same_from_bits}
use Rattle.plane_core.specs.declared.plane.cell.Cell.{Cell}
use Rattle.plane_core.specs.plane.Bounds.{shifted}
use Rattle.plane_core.specs.plane.Cells.{has, moved_by}
use Rattle.plane_core.specs.plane.Generations.{NeverRecurs, after, next}
use Rattle.plane_core.specs.windows.LonePatterns.{AreAlike, Holds, IsColumns, IsFirstRow, IsRimClear, AreVectors}
use Rattle.plane_core.specs.one_sided.FollowedPatterns.{IsFollowed}
use Rattle.plane_core.specs.plane.Rules.{Numbers}
use Rattle.plane_core.specs.windows.Windows.{IsNextWindow, row_at}
use Rattle.plane_core.proofs.lemmas.plane.CaseLemmas.{less_or_not, same_or_not}
use Rattle.plane_core.proofs.lemmas.plane.GenerationLemmas.{after-more, after-none}
use Rattle.plane_core.proofs.lemmas.one_sided.NeverRecursLemmas.{IsLit, held_anywhere, lit, moved_bit, next_held, row_past, row_small}
use Rattle.plane_core.proofs.lemmas.plane.OrientationLemmas.{has-map, has-map_from}
use Rattle.plane_core.proofs.lemmas.plane.SetLemmas.{same_lists}
use Rattle.plane_core.proofs.lemmas.plane.SpeedLemmas.{after-suc}
use Rattle.plane_core.proofs.lemmas.windows.WindowLemmas.{in_window, same_cell_at}
use Rattle.plane_core.proofs.lemmas.Between.{IsCorner}

-- ---- where a pattern begins

-- i is the first column, counted from `left`, that has a cell of the pattern
pub record BeginsColumn (left : ℤ) (S : List Cell) (i : ℕ) : Type 0 where
  pub some : (c : Cell) × (has S c ≡ true) × (c.x ≡ left +ℤ pos i)
  pub least : (c : Cell) → has S c ≡ true → (left +ℤ pos i) ≤ℤ c.x

pub record BeginsRow (top : ℤ) (S : List Cell) (r : ℕ) : Type 0 where
  pub some : (c : Cell) × (has S c ≡ true) × (c.y ≡ top +ℤ pos r)
  pub least : (c : Cell) → has S c ≡ true → (top +ℤ pos r) ≤ℤ c.y

-- if a pattern is moved, its first column moves by the same amount
column_moves : (left dx dy : ℤ) (S : List Cell) (b a : ℕ) → BeginsColumn left S b → BeginsColumn left (shifted dx dy S) a → pos a ≡ pos b +ℤ dx
column_moves left dx dy S b a p q =
    let c = p.some in
    let there = q.least (moved_by dx dy c.0) (has-map (moved_by dx dy) S c.0 c.1) in
    let d = q.some in
    let e = has-map_from (moved_by dx dy) S d.0 d.1 in
    let back = p.least e.0 e.1 in
    one c.0.x d.0.x e.0.x c.2 d.2 (ap (λ (f : Cell). f.x) e.2) there back
  where
    one : (cx ex fx : ℤ) → cx ≡ left +ℤ pos b → ex ≡ left +ℤ pos a → ex ≡ fx +ℤ dx → (left +ℤ pos a) ≤ℤ (cx +ℤ dx) → (left +ℤ pos b) ≤ℤ fx → pos a ≡ pos b +ℤ dx
    one cx ex fx p q r s t = omega (arith, ints)

row_moves : (top dx dy : ℤ) (S : List Cell) (b a : ℕ) → BeginsRow top S b → BeginsRow top (shifted dx dy S) a → pos a ≡ pos b +ℤ dy
row_moves top dx dy S b a p q =
    let c = p.some in
    let there = q.least (moved_by dx dy c.0) (has-map (moved_by dx dy) S c.0 c.1) in
    let d = q.some in
    let e = has-map_from (moved_by dx dy) S d.0 d.1 in
    let back = p.least e.0 e.1 in
    one c.0.y d.0.y e.0.y c.2 d.2 (ap (λ (f : Cell). f.y) e.2) there back
  where
    one : (cx ex fx : ℤ) → cx ≡ top +ℤ pos b → ex ≡ top +ℤ pos a → ex ≡ fx +ℤ dy → (top +ℤ pos a) ≤ℤ (cx +ℤ dy) → (top +ℤ pos b) ≤ℤ fx → pos a ≡ pos b +ℤ dy
    one cx ex fx p q r s t = omega (arith, ints)

-- if a bit of the window is 1, its cell is in the pattern
cell_of : (n : ℕ) (left top : ℤ) (x : List (List ℕ)) (S : List Cell) (i r : ℕ) → 0 < n → Holds n left top x S → AreVectors n x → bit_at (row_at n x r) i ≡ 1
    → has S (in_window left top i r) ≡ true
cell_of n left top x S i r some h whole e = held_anywhere n left top x S i r some h whole ∙ ap (λ (m : ℕ). m == 1) e

pub begins_column : (n : ℕ) (left top : ℤ) (x : List (List ℕ)) (S : List Cell) (w i : ℕ) → 0 < n → Holds n left top x S → AreVectors n x → IsColumns n x w
    → bit_at w i ≡ 1 → ((k : ℕ) → k < i → bit_at w k ≡ 0) → BeginsColumn left S i
begins_column n left top x S w i some h whole columns e none = record {
  some = let r = columns.alive i e in (in_window left top i r.0, cell_of n left top x S i r.0 some h whole r.2, refl);
  least = λ c f. least c (lit n left top x S c h f);
}
  where
    least : (c : Cell) → (k : ℕ) × (r : ℕ) × IsLit n left top x c k r → (left +ℤ pos i) ≤ℤ c.x
    least c (k, r, l) = elim (less_or_not k i) [
      | inl before ↦ absurd (let z = none k before in let one = columns.all r k l.row l.bit in omega arith)
      | inr past ↦ let p = ap (λ (d : Cell). d.x) l.place in omega (arith, ints)
    ]

pub begins_row : (n : ℕ) (left top : ℤ) (x : List (List ℕ)) (S : List Cell) (r : ℕ) → 0 < n → Holds n left top x S → AreVectors n x → IsFirstRow n x r
    → BeginsRow top S r
begins_row n left top x S r some h whole first = record {
  some = let f = bit_at-trailing_zeros w64 (row_at n x r) first.some (row_small n x r some whole) in
      let i = trailing_zeros w64 (row_at n x r) in (in_window left top i r, cell_of n left top x S i r some h whole f.1, refl);
  least = λ c f. least c (lit n left top x S c h f);
}
  where
    dark : (m k : ℕ) → m ≡ 0 → bit_at m k ≡ 1 → ⊥
    dark m k none one = let z = bit_at-zero k in let p = ap (λ (n : ℕ). bit_at n k) none in absurd (omega arith)

    least : (c : Cell) → (k : ℕ) × (s : ℕ) × IsLit n left top x c k s → (top +ℤ pos r) ≤ℤ c.y
    least c (k, s, l) = elim (less_or_not s r) [
      | inl before ↦ absurd (dark (row_at n x s) k (first.none s before) l.bit)
      | inr past ↦ let p = ap (λ (d : Cell). d.y) l.place in omega (arith, ints)
    ]

-- ---- a window that shows the start again

-- a moved pattern has a moved cell exactly if the pattern has the cell
has-moved : (dx dy : ℤ) (S : List Cell) (c d : Cell) → d ≡ moved_by dx dy c → has (shifted dx dy S) d ≡ has S c
has-moved dx dy S c d is = ap (has (shifted dx dy S)) is ∙ both_true (has (shifted dx dy S) (moved_by dx dy c)) (has S c)
    (λ h. let e = has-map_from (moved_by dx dy) S (moved_by dx dy c) h in subst (λ (f : Cell). has S f ≡ true) (sym (same c e.0 e.2)) e.1)
    (λ h. has-map (moved_by dx dy) S c h)
  where
    same : (a b : Cell) → moved_by dx dy a ≡ moved_by dx dy b → a ≡ b
    same a b e = same_cell_at _ _ _ _ (back a.x b.x dx (ap (λ (f : Cell). f.x) e)) (back a.y b.y dy (ap (λ (f : Cell). f.y) e))
      where
        back : (p q v : ℤ) → p +ℤ v ≡ q +ℤ v → p ≡ q
        back p q v e = omega (arith, ints)

equal_bits : (a b : ℕ) → a < 2 → b < 2 → (a == 1) ≡ (b == 1) → a ≡ b
equal_bits zero zero p q e = refl
equal_bits zero (suc zero) p q e = absurd (false≢true e)
equal_bits (suc zero) zero p q e = absurd (false≢true (sym e))
equal_bits (suc zero) (suc zero) p q e = refl
equal_bits (suc (suc a)) b p q e = absurd (omega arith)
equal_bits a (suc (suc b)) p q e = absurd (omega arith)

-- windows x and y show the same cells, counted from column b and row e in x, and from column a and row d in y
pub record IsAgain (n : ℕ) (x y : List (List ℕ)) (b a e d : ℕ) : Type 0 where
  pub same : (i r : ℕ) → bit_at (row_at n x (e + r)) (b + i) ≡ bit_at (row_at n y (d + r)) (a + i)

pub is_again : (n : ℕ) (left top dx dy : ℤ) (x y : List (List ℕ)) (S : List Cell) (b a e d : ℕ) → 0 < n → AreVectors n x → AreVectors n y → Holds n left top x S
    → Holds n left top y (shifted dx dy S) → BeginsColumn left S b → BeginsColumn left (shifted dx dy S) a → BeginsRow top S e
    → BeginsRow top (shifted dx dy S) d
    → IsAgain n x y b a e d
is_again n left top dx dy x y S b a e d some wx wy hx hy p q r s = record { same = λ i k. same i k }
  where
    across : pos a ≡ pos b +ℤ dx
    across = column_moves left dx dy S b a p q

    down : pos d ≡ pos e +ℤ dy
    down = row_moves top dx dy S e d r s

    same : (i k : ℕ) → bit_at (row_at n x (e + k)) (b + i) ≡ bit_at (row_at n y (d + k)) (a + i)
    same i k = equal_bits _ _ (bit_at-lt (row_at n x (e + k)) (b + i)) (bit_at-lt (row_at n y (d + k)) (a + i))
        (sym (held_anywhere n left top x S (b + i) (e + k) some hx wx)
        ∙ sym (has-moved dx dy S (in_window left top (b + i) (e + k)) (in_window left top (a + i) (d + k))
        (same_cell_at _ _ _ _ (omega (arith, ints, across)) (omega (arith, ints, down))))
        ∙ held_anywhere n left top y (shifted dx dy S) (a + i) (d + k) some hy wy)

-- if windows x and y show the same cells, row e + r of x, from column b on, equals row d + r of y, from column a on
pub rows_again : (n : ℕ) (x y : List (List ℕ)) (b a e d r : ℕ) → IsAgain n x y b a e d → row_at n x (e + r) / 2 ^ b ≡ row_at n y (d + r) / 2 ^ a
rows_again n x y b a e d r again = same_from_bits _ _ (λ i. moved_bit (row_at n x (e + r)) b i ∙ again.same i r ∙ sym (moved_bit (row_at n y (d + r)) a i))

-- two bits are equal if each is 1 when the other is
alike_bits : (a b : ℕ) → a < 2 → b < 2 → (a ≡ 1 → b ≡ 1) → (b ≡ 1 → a ≡ 1) → a ≡ b
alike_bits zero zero p q f g = refl
alike_bits zero (suc zero) p q f g = absurd (omega (arith, g refl))
alike_bits (suc zero) b p q f g = sym (f refl)
alike_bits (suc (suc a)) b p q f g = absurd (omega arith)
alike_bits zero (suc (suc b)) p q f g = absurd (omega arith)

-- the windows of a pattern and of its translate have live cells in the same columns, counted from the first column with
-- a live cell
pub columns_again : (n : ℕ) (left top dx dy : ℤ) (x y : List (List ℕ)) (S : List Cell) (w v b a : ℕ) → 0 < n → AreVectors n x → AreVectors n y
    → IsColumns n x w → IsColumns n y v → Holds n left top x S → Holds n left top y (shifted dx dy S) → BeginsColumn left S b
    → BeginsColumn left (shifted dx dy S) a → w / 2 ^ b ≡ v / 2 ^ a
columns_again n left top dx dy x y S w v b a some wx wy cw cv hx hy p q =
    same_from_bits _ _ (λ i. moved_bit w b i ∙ alike_bits _ _ (bit_at-lt w (b + i)) (bit_at-lt v (a + i)) (there i) (back i) ∙ sym (moved_bit v a i))
  where
    across : pos a ≡ pos b +ℤ dx
    across = column_moves left dx dy S b a p q

    there : (i : ℕ) → bit_at w (b + i) ≡ 1 → bit_at v (a + i) ≡ 1
    there i e =
        let r = cw.alive (b + i) e in
        let c = in_window left top (b + i) r.0 in
        let moved = has-map (moved_by dx dy) S c (cell_of n left top x S (b + i) r.0 some hx wx r.2) in
        go (lit n left top y (shifted dx dy S) (moved_by dx dy c) hy moved)
      where
        go : (k : ℕ) × (s : ℕ) × IsLit n left top y (moved_by dx dy (in_window left top (b + i) (cw.alive (b + i) e).0)) k s → bit_at v (a + i) ≡ 1
        go (k, s, l) =
            let at : k ≡ a + i = let m = ap (λ (d : Cell). d.x) l.place in omega (arith, ints, across) in
            ap (λ (c : ℕ). bit_at v c) (sym at) ∙ cv.all s k l.row l.bit

    back : (i : ℕ) → bit_at v (a + i) ≡ 1 → bit_at w (b + i) ≡ 1
    back i e =
        let r = cv.alive (a + i) e in
        let f = has-map_from (moved_by dx dy) S (in_window left top (a + i) r.0) (cell_of n left top y (shifted dx dy S) (a + i) r.0 some hy wy r.2) in
        go f.0 (ap (λ (d : Cell). d.x) f.2) (lit n left top x S f.0 hx f.1)
      where
        go : (c : Cell) → left +ℤ pos (a + i) ≡ c.x +ℤ dx → (k : ℕ) × (s : ℕ) × IsLit n left top x c k s → bit_at w (b + i) ≡ 1
        go c m (k, s, l) =
            let at : k ≡ b + i = let o = ap (λ (d : Cell). d.x) l.place in omega (arith, ints, across) in
            ap (λ (c : ℕ). bit_at w c) (sym at) ∙ cw.all s k l.row l.bit

-- if window x has a live cell, so has window y, which shows the same pattern moved
pub some_again : (n : ℕ) (left top dx dy : ℤ) (x y : List (List ℕ)) (S : List Cell) (w v : ℕ) → 0 < n → AreVectors n x → IsColumns n x w → IsColumns n y v
    → Holds n left top x S → Holds n left top y (shifted dx dy S) → 0 < w → w < 2 ^ 64 → v ≡ 0 → ⊥
some_again n left top dx dy x y S w v some wx cw cv hx hy alive small none =
    let i = trailing_zeros w64 w in
    let r = cw.alive i ((bit_at-trailing_zeros w64 w alive small).1) in
    let c = in_window left top i r.0 in
    go c (lit n left top y (shifted dx dy S) (moved_by dx dy c) hy (has-map (moved_by dx dy) S c (cell_of n left top x S i r.0 some hx wx r.2)))
  where
    go : (c : Cell) → (k : ℕ) × (s : ℕ) × IsLit n left top y (moved_by dx dy c) k s → ⊥
    go c (k, s, l) = let one = cv.all s k l.row l.bit in let z = bit_at-zero k in let m = ap (λ (u : ℕ). bit_at u k) none in absurd (omega arith)

-- the number of trailing zeros of the word of columns is the first column of the pattern
pub begins : (n : ℕ) (left top : ℤ) (x : List (List ℕ)) (S : List Cell) (w : ℕ) → 0 < n → Holds n left top x S → AreVectors n x → IsColumns n x w → 0 < w
    → w < 2 ^ 64
    → BeginsColumn left S (trailing_zeros w64 w)
begins n left top x S w some h whole columns alive small =
    let f = bit_at-trailing_zeros w64 w alive small in begins_column n left top x S w (trailing_zeros w64 w) some h whole columns f.1 f.2

-- the windows of a pattern and of its translate have the same rows, counted from the first row and the first column
-- with a live cell; rows past the last row of a window are read as empty
pub same_rows : (n : ℕ) (left top dx dy : ℤ) (x y : List (List ℕ)) (S : List Cell) (w v p q r first second a b : ℕ) → 0 < n → AreVectors n x → AreVectors n y
    → IsColumns n x w → IsColumns n y v → Holds n left top x S → Holds n left top y (shifted dx dy S) → IsCorner n x w first a → IsCorner n y v second b
    → (first + r < 4 * n → p ≡ row_at n x (first + r)) → (4 * n ≤ first + r → p ≡ 0)
    → (second + r < 4 * n → q ≡ row_at n y (second + r)) → (4 * n ≤ second + r → q ≡ 0)
    → p / 2 ^ a ≡ q / 2 ^ b
same_rows n left top dx dy x y S w v p q r first second a b some wx wy cw cv hx hy cx cy p1 p2 q1 q2 =
    ap (λ (m : ℕ). m / 2 ^ a) (read n x (first + r) p some wx p1 p2)
    ∙ rows_again n x y a b first second r
    (is_again n left top dx dy x y S a b first second some wx wy hx hy
    (begins_column n left top x S w a some hx wx cw cx.some cx.none)
    (begins_column n left top y (shifted dx dy S) v b some hy wy cv cy.some cy.none)
    (begins_row n left top x S first some hx wx cx.row_is)
    (begins_row n left top y (shifted dx dy S) second some hy wy cy.row_is))
    ∙ sym (ap (λ (m : ℕ). m / 2 ^ b) (read n y (second + r) q some wy q1 q2))
  where
    read : (n : ℕ) (z : List (List ℕ)) (s m : ℕ) → 0 < n → AreVectors n z → (s < 4 * n → m ≡ row_at n z s) → (4 * n ≤ s → m ≡ 0) → m ≡ row_at n z s
    read n z s m some whole inside past = elim (less_or_not s (4 * n)) [ inl low ↦ inside low | inr far ↦ past far ∙ sym (row_past n z s some whole far) ]

-- ---- generation after generation

-- windows with the same cells hold the same pattern
pub alike_held : (n : ℕ) (left top : ℤ) (x y : List (List ℕ)) (S T : List Cell) → AreAlike n x y → Holds n left top x S → Holds n left top y T → S ≡ T
alike_held n left top x y S T alike hx hy = same_lists S T hx.in_order hy.in_order (λ c. both_true (has S c) (has T c) (there c) (back c))
  where
    there : (c : Cell) → has S c ≡ true → has T c ≡ true
    there c e = go (lit n left top x S c hx e)
      where
        go : (i : ℕ) × (r : ℕ) × IsLit n left top x c i r → has T c ≡ true
        go (i, r, l) =
            ap (has T) l.place ∙ hy.shown r i (omega arith) (let k = l.row in omega arith) (omega arith) (let k = l.column in omega arith)
            ∙ ap (λ (m : ℕ). m == 1) (sym (alike r i l.row) ∙ l.bit)

    back : (c : Cell) → has T c ≡ true → has S c ≡ true
    back c e = go (lit n left top y T c hy e)
      where
        go : (i : ℕ) × (r : ℕ) × IsLit n left top y c i r → has S c ≡ true
        go (i, r, l) =
            ap (has S) l.place ∙ hx.shown r i (omega arith) (let k = l.row in omega arith) (omega arith) (let k = l.column in omega arith)
            ∙ ap (λ (m : ℕ). m == 1) (alike r i l.row ∙ l.bit)

pub new-none : (rule : Numbers) (S : List Cell) → NeverRecurs rule S 0
new-none rule S p dx dy some none = absurd (omega arith)

-- if a pattern doesn't recur within g generations, and generation g + 1 isn't a translate of the pattern, it doesn't
-- recur within g + 1 generations
pub new-more : (rule : Numbers) (S : List Cell) (g : ℕ) → NeverRecurs rule S g → ((dx dy : ℤ) → after rule S (g + 1) ≢ shifted dx dy S)
    → NeverRecurs rule S (g + 1)
new-more rule S g before other p dx dy some low = new p some low (same_or_not p (g + 1))
  where
    new : (p : ℕ) → 1 ≤ p → p ≤ g + 1 → (p ≡ g + 1) ⊎ (p ≢ g + 1) → after rule S p ≢ shifted dx dy S
    new p some low (inl same) back = other dx dy (sym (ap (after rule S) same) ∙ back)
    new p some low (inr apart) back = before p dx dy some (omega arith) back

pub new-fewer : (rule : Numbers) (S : List Cell) (m g : ℕ) → g ≤ m → NeverRecurs rule S m → NeverRecurs rule S g
new-fewer rule S m g low new p dx dy some few = new p dx dy some (omega arith)

unmoved : (S : List Cell) → shifted (pos 0) (pos 0) S ≡ S
unmoved [] = refl
unmoved (c ∷ cs) = λ i. same_cell_at _ _ _ _ (still c.x) (still c.y) i ∷ unmoved cs i
  where
    still : (a : ℤ) → a +ℤ pos 0 ≡ a
    still a = omega (arith, ints)

-- if generation m equals an earlier one and the pattern doesn't recur within m generations, it never recurs
pub new-ever : (rule : Numbers) (S : List Cell) (m h g : ℕ) → h < m → after rule S h ≡ after rule S m → NeverRecurs rule S m → NeverRecurs rule S g
new-ever rule S m h g less back new p dx dy some low e =
    let q = earlier p in new q.0 dx dy (q.2 some) (omega (arith, q.1)) (sym q.3 ∙ e)
  where
    -- the earlier generation isn't the start
    late : 1 ≤ h
    late = elim (less_or_not 0 h) [
      | inl past ↦ past
      | inr first ↦ absurd (new m (pos 0) (pos 0) (omega arith) (omega arith)
          (sym back ∙ ap (after rule S) (nothing h first) ∙ after-none rule S ∙ sym (unmoved S)))
    ]
      where
        nothing : (k : ℕ) → k ≤ 0 → k ≡ 0
        nothing k low = omega arith

    step : (p q : ℕ) → after rule S p ≡ after rule S q → after rule S (suc p) ≡ after rule S (q + 1)
    step p q e = after-suc rule S p ∙ ap (next rule) e ∙ sym (after-more rule S q)

    earlier : (p : ℕ) → (q : ℕ) × (q < m) × (1 ≤ p → 1 ≤ q) × (after rule S p ≡ after rule S q)
    earlier zero = (0, omega arith, λ some. absurd (omega arith), refl)
    earlier (suc p) = go (earlier p)
      where
        go : (q : ℕ) × (q < m) × (1 ≤ p → 1 ≤ q) × (after rule S p ≡ after rule S q)
            → (q : ℕ) × (q < m) × (1 ≤ suc p → 1 ≤ q) × (after rule S (suc p) ≡ after rule S q)
        go (q, low, some, e) = elim (same_or_not (q + 1) m) [
          | inl last ↦ (h, less, λ _. late, step p q e ∙ ap (after rule S) last ∙ sym back)
          | inr more ↦ (q + 1, omega arith, λ _. omega arith, step p q e)
        ]

-- if window `start` holds a pattern, `now` holds the pattern `made` generations later, the pattern hasn't recurred by
-- then, and `kept` holds the pattern of the same generation or an earlier one
pub record IsChanging (rule : Numbers) (n : ℕ) (start now kept : List (List ℕ)) (columns made : ℕ) : Type 0 where
  pub whole : AreVectors n now
  pub columns_are : IsColumns n now columns
  pub followed : IsFollowed rule n start now made
  pub earlier : (h : ℕ) × (h ≤ made) × ((S : List Cell) (left top : ℤ) → Holds n left top start S → Holds n left top kept (after rule S h))

pub changing_start : (rule : Numbers) (n : ℕ) (start now : List (List ℕ)) (columns made : ℕ) → IsFollowed rule n start now made → AreVectors n now
    → IsColumns n now columns → IsChanging rule n start now now columns made
changing_start rule n start now columns made followed whole are = record {
  whole = whole;
  columns_are = are;
  followed = followed;
  earlier = (made, omega arith, followed.held);
}

-- if the next window doesn't hold a translate of the pattern in window `start`, `IsChanging` holds for the next window,
-- with the same kept window
pub changing_more : (rule : Numbers) (n : ℕ) (start now kept later : List (List ℕ)) (columns columns_later made : ℕ) (again : Bool) → 0 < n
    → IsChanging rule n start now kept columns made → IsRimClear n now → IsNextWindow rule n now later → AreVectors n later → IsColumns n later columns_later
    → ((S : List Cell) (left top dx dy : ℤ) → Holds n left top start S → Holds n left top later (shifted dx dy S) → again ≡ true) → again ≡ false
    → IsChanging rule n start later kept columns_later (made + 1)
changing_more rule n start now kept later columns columns_later made again some before clear step whole are may not = record {
  whole = whole;
  columns_are = are;
  followed = record {
    held = held;
    new = λ S left top h. new-more rule S made (before.followed.new S left top h)
        (λ dx dy e. false≢true (sym not ∙ may S left top dx dy h (subst (λ (T : List Cell). Holds n left top later T) e (held S left top h))));
  };
  earlier = let e = before.earlier in (e.0, omega (arith, e.1), e.2);
}
  where
    held : (S : List Cell) (left top : ℤ) → Holds n left top start S → Holds n left top later (after rule S (made + 1))
    held S left top h = subst (λ (T : List Cell). Holds n left top later T) (sym (after-more rule S made))
        (next_held rule n left top now later (after rule S made) some before.whole clear step (before.followed.held S left top h))

-- the current window can be kept in place of the earlier one
pub changing_keeps : (rule : Numbers) (n : ℕ) (start now kept : List (List ℕ)) (columns made : ℕ) → IsChanging rule n start now kept columns made
    → IsChanging rule n start now now columns made
changing_keeps rule n start now kept columns made c = changing_start rule n start now columns made c.followed c.whole c.columns_are

-- if the current window equals the earlier one that was kept, the pattern never recurs
pub changing_ends : (rule : Numbers) (n : ℕ) (left top : ℤ) (start now kept : List (List ℕ)) (columns made most : ℕ) (S : List Cell)
    → IsChanging rule n start now kept columns (made + 1) → (h : ℕ) → h ≤ made
    → ((S : List Cell) (left top : ℤ) → Holds n left top start S → Holds n left top kept (after rule S h)) → AreAlike n now kept → Holds n left top start S
    → NeverRecurs rule S most
changing_ends rule n left top start now kept columns made most S c h low old alike holds =
    new-ever rule S (made + 1) h most (omega arith)
    (sym (alike_held n left top now kept (after rule S (made + 1)) (after rule S h) alike (c.followed.held S left top holds) (old S left top holds)))
    (c.followed.new S left top holds)
