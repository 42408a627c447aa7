-- The neighbourhood of a cell: the nine cells at king distance at most 1 from it. Live cells are counted row by row.
use Rattle.std.proofs.Common.{◌≡◌, ◌==◌, ℕ, ℤ, pos, negsuc, ◌+ℤ◌, ◌<ℤ◌, ◌+◌, ◌≤◌, max, Bool, true, false, ◌&&◌}
use Rattle.std.proofs.Common.{List, [], ◌∷◌, arith, cond, refl, ap, ◌∙◌, sym, inl, inr, ◌⊎◌, ◌++◌, add-zero}
use Rattle.std.specs.Cmp.{eq_by_cmp_equiv, signed_Decides}
use Rattle.std.specs.List.{flat_map}
use Rattle.std.proofs.lemmas.Cmp.{int_ranked}
use Rattle.std.specs.declared.cmp.Ordering.{Ordering}
use Rattle.std.specs.declared.cmp.Ordering.TheVariants.{Less, Equal, Greater}
use Rattle.std.specs.Ordering.{int_eq, int_cmp, is_eq}
use Rattle.std.proofs.lemmas.Int.{ints}
use Rattle.std.proofs.lemmas.Bool.{false≢true, ne_eqb}
use Rattle.std.proofs.lemmas.List.Sums.{sum_by-cons}
use Rattle.plane_core.specs.declared.plane.cell.Cell.{Cell}
use Rattle.plane_core.specs.plane.Cells.{cell_at, same_cell, king_distance, distance, moved_by}
use Rattle.plane_core.specs.plane.Generations.{around, neighbourhood}
use Rattle.plane_core.proofs.lemmas.plane.CellLemmas.{cell_cmp_total, same_cell-eq}

-- ---- one coordinate

-- three tests say where a number is relative to another: 1 to the left, equal, 1 to the right, or at least 2 away
abbrev pub IsNear : Bool → Bool → Bool → ℕ → Type 0
IsNear left middle right far =
    ((left ≡ true) × (middle ≡ false) × (right ≡ false) × (far ≡ 1))
    ⊎ (((left ≡ false) × (middle ≡ true) × (right ≡ false) × (far ≡ 0))
    ⊎ (((left ≡ false) × (middle ≡ false) × (right ≡ true) × (far ≡ 1))
    ⊎ ((left ≡ false) × (middle ≡ false) × (right ≡ false) × (2 ≤ far))))

pub int_eq-true : (a b : ℤ) → int_eq a b ≡ true → a ≡ b
int_eq-true a b e = (signed_Decides a b).0 e

pub int_eq-same : (a b : ℤ) → a ≡ b → int_eq a b ≡ true
int_eq-same a b e = (signed_Decides a b).1 e

int_eq-false : (a b : ℤ) → int_eq a b ≡ false → (a <ℤ b) ⊎ (b <ℤ a)
int_eq-false a b e = go (int_cmp a b) refl e
  where
    go : (r : Ordering) → r ≡ int_cmp a b → is_eq r ≡ false → (a <ℤ b) ⊎ (b <ℤ a)
    go Less is e = inl (int_ranked a b Less is)
    go Equal is e = absurd (false≢true (sym e))
    go Greater is e = inr (int_ranked a b Greater is)

-- if `b` is none of `a - 1`, `a` and `a + 1`, it is at least 2 from `a`
far_away : (a b : ℤ) → ((a +ℤ negsuc 0) <ℤ b) ⊎ (b <ℤ (a +ℤ negsuc 0)) → (a <ℤ b) ⊎ (b <ℤ a) → ((a +ℤ pos 1) <ℤ b) ⊎ (b <ℤ (a +ℤ pos 1)) → 2 ≤ distance a b
far_away a b (inl u) (inl v) (inl w) = omega (arith, ints)
far_away a b (inl u) (inl v) (inr w) = omega (arith, ints)
far_away a b (inl u) (inr v) (inl w) = omega (arith, ints)
far_away a b (inl u) (inr v) (inr w) = omega (arith, ints)
far_away a b (inr u) (inl v) (inl w) = omega (arith, ints)
far_away a b (inr u) (inl v) (inr w) = omega (arith, ints)
far_away a b (inr u) (inr v) (inl w) = omega (arith, ints)
far_away a b (inr u) (inr v) (inr w) = omega (arith, ints)

pub near : (a b : ℤ) → IsNear (int_eq (a +ℤ negsuc 0) b) (int_eq a b) (int_eq (a +ℤ pos 1) b) (distance a b)
near a b = go (int_eq (a +ℤ negsuc 0) b) (int_eq a b) (int_eq (a +ℤ pos 1) b) refl refl refl
  where
    go : (x y z : Bool) → int_eq (a +ℤ negsuc 0) b ≡ x → int_eq a b ≡ y → int_eq (a +ℤ pos 1) b ≡ z
        → IsNear (int_eq (a +ℤ negsuc 0) b) (int_eq a b) (int_eq (a +ℤ pos 1) b) (distance a b)
    go true true z p q r = absurd (let u : (a +ℤ negsuc 0) ≡ b = int_eq-true (a +ℤ negsuc 0) b p in let v : a ≡ b = int_eq-true a b q in omega (arith, ints))
    go true false true p q r = absurd (let u : (a +ℤ negsuc 0) ≡ b = int_eq-true (a +ℤ negsuc 0) b p in let v : (a +ℤ pos 1) ≡ b =
        int_eq-true (a +ℤ pos 1) b r in omega (arith, ints))
    go true false false p q r = inl (p, q, r, let u : (a +ℤ negsuc 0) ≡ b = int_eq-true (a +ℤ negsuc 0) b p in omega (arith, ints))
    go false true true p q r = absurd (let u : a ≡ b = int_eq-true a b q in let v : (a +ℤ pos 1) ≡ b = int_eq-true (a +ℤ pos 1) b r in omega (arith, ints))
    go false true false p q r = inr (inl (p, q, r, let u : a ≡ b = int_eq-true a b q in omega (arith, ints)))
    go false false true p q r = inr (inr (inl (p, q, r, let u : (a +ℤ pos 1) ≡ b = int_eq-true (a +ℤ pos 1) b r in omega (arith, ints))))
    go false false false p q r = inr (inr (inr (p, q, r, far_away a b (int_eq-false _ _ p) (int_eq-false _ _ q) (int_eq-false _ _ r))))

-- ---- one cell

-- How many of the three cells in a row of a neighbourhood are a given cell. `row` says whether that cell is in this
-- row, and `left`, `middle` and `right` say whether it is in the left, middle or right column.
abbrev hits : Bool → Bool → Bool → Bool → ℕ
hits row left middle right = cond (row && right) 1 0 + (cond (row && middle) 1 0 + cond (row && left) 1 0)

far_off : (m n : ℕ) → 2 ≤ max m n → (max m n == 1) ≡ false
far_off m n h = ne_eqb _ _ (λ e. absurd (omega arith))

-- a cell is c or a neighbour of c, by its distances dx and dy from c, exactly if its column and its row are those of
-- one of the nine cells of the neighbourhood
one_cell : (x0 x1 x2 y0 y1 y2 : Bool) (dx dy : ℕ) → IsNear x0 x1 x2 dx → IsNear y0 y1 y2 dy
    → cond (max dx dy == 1) 1 0 + cond (y1 && x1) 1 0 ≡ hits y2 x0 x1 x2 + (hits y1 x0 x1 x2 + hits y0 x0 x1 x2)
one_cell x0 x1 x2 y0 y1 y2 dx dy (inr (inr (inr (a, b, c, e)))) v = rw (a, b, c, far_off dx dy (omega arith)) (no_hits y0 y1 y2)
  where
    none : (y : Bool) → (y && false) ≡ false
    none true = refl
    none false = refl

    no_hits : (p q r : Bool) → 0 + cond (q && false) 1 0 ≡ hits r false false false + (hits q false false false + hits p false false false)
    no_hits p q r = rw (none p, none q, none r) refl
one_cell x0 x1 x2 y0 y1 y2 dx dy u (inr (inr (inr (a, b, c, e)))) = rw (a, b, c, far_off dx dy (omega arith)) refl
one_cell x0 x1 x2 y0 y1 y2 dx dy (inl (a, b, c, e)) (inl (f, g, h, i)) = rw (a, b, c, e, f, g, h, i) refl
one_cell x0 x1 x2 y0 y1 y2 dx dy (inl (a, b, c, e)) (inr (inl (f, g, h, i))) = rw (a, b, c, e, f, g, h, i) refl
one_cell x0 x1 x2 y0 y1 y2 dx dy (inl (a, b, c, e)) (inr (inr (inl (f, g, h, i)))) = rw (a, b, c, e, f, g, h, i) refl
one_cell x0 x1 x2 y0 y1 y2 dx dy (inr (inl (a, b, c, e))) (inl (f, g, h, i)) = rw (a, b, c, e, f, g, h, i) refl
one_cell x0 x1 x2 y0 y1 y2 dx dy (inr (inl (a, b, c, e))) (inr (inl (f, g, h, i))) = rw (a, b, c, e, f, g, h, i) refl
one_cell x0 x1 x2 y0 y1 y2 dx dy (inr (inl (a, b, c, e))) (inr (inr (inl (f, g, h, i)))) = rw (a, b, c, e, f, g, h, i) refl
one_cell x0 x1 x2 y0 y1 y2 dx dy (inr (inr (inl (a, b, c, e)))) (inl (f, g, h, i)) = rw (a, b, c, e, f, g, h, i) refl
one_cell x0 x1 x2 y0 y1 y2 dx dy (inr (inr (inl (a, b, c, e)))) (inr (inl (f, g, h, i))) = rw (a, b, c, e, f, g, h, i) refl
one_cell x0 x1 x2 y0 y1 y2 dx dy (inr (inr (inl (a, b, c, e)))) (inr (inr (inl (f, g, h, i)))) = rw (a, b, c, e, f, g, h, i) refl

-- ---- the pattern

-- how often a cell occurs in a list
abbrev pub times : List Cell → Cell → ℕ
times [] c = 0
times (d ∷ ds) c = cond (same_cell c d) 1 0 + times ds c

-- the number of live cells in the row of three cells around c
abbrev pub row_total : List Cell → Cell → ℕ
row_total cells c = times cells (moved_by (pos 1) (pos 0) c) + (times cells c + times cells (moved_by (negsuc 0) (pos 0) c))

abbrev pub neighbourhood_total : List Cell → Cell → ℕ
neighbourhood_total cells c = row_total cells (moved_by (pos 0) (pos 1) c) + (row_total cells c + row_total cells (moved_by (pos 0) (negsuc 0) c))

pub still : (a : ℤ) → a +ℤ pos 0 ≡ a
still a = omega (arith, ints)

-- in a list of only d, the cell in column x of row y occurs once if it is d, and otherwise not at all
hit : (c d : Cell) (x y : ℤ) → c.x ≡ x → c.y ≡ y → times (d ∷ []) c ≡ cond (int_eq y d.y && int_eq x d.x) 1 0
hit c d x y p q = ap (λ b. cond b 1 0 + 0) (sym (same_cell-eq c d)) ∙ add-zero _ ∙ (λ i. cond (int_eq (q i) d.y && int_eq (p i) d.x) 1 0)

still_moved : (a b : ℤ) → (a +ℤ b) +ℤ pos 0 ≡ a +ℤ b
still_moved a b = still (a +ℤ b)

moved_still : (a b : ℤ) → (a +ℤ pos 0) +ℤ b ≡ a +ℤ b
moved_still a b = ap (λ (v : ℤ). v +ℤ b) (still a)

-- in a list of only d, the neighbourhood of c has one live cell if d is c or a neighbour of c, and otherwise none
hits_of : (c d : Cell) → neighbourhood_total (d ∷ []) c ≡ cond (king_distance c d == 1) 1 0 + cond (same_cell c d) 1 0
hits_of c d = sum_of_hits ∙ sym (one_cell _ _ _ _ _ _ _ _ (near c.x d.x) (near c.y d.y))
    ∙ ap (λ b. cond (king_distance c d == 1) 1 0 + cond b 1 0) (same_cell-eq c d)
  where
    at : (e : Cell) (x y : ℤ) → e.x ≡ x → e.y ≡ y → times (d ∷ []) e ≡ cond (int_eq y d.y && int_eq x d.x) 1 0
    at e x y p q = hit e d x y p q

    sum_of_hits : neighbourhood_total (d ∷ []) c
        ≡ hits (int_eq (c.y +ℤ pos 1) d.y) (int_eq (c.x +ℤ negsuc 0) d.x) (int_eq c.x d.x) (int_eq (c.x +ℤ pos 1) d.x)
        + (hits (int_eq c.y d.y) (int_eq (c.x +ℤ negsuc 0) d.x) (int_eq c.x d.x) (int_eq (c.x +ℤ pos 1) d.x)
        + hits (int_eq (c.y +ℤ negsuc 0) d.y) (int_eq (c.x +ℤ negsuc 0) d.x) (int_eq c.x d.x) (int_eq (c.x +ℤ pos 1) d.x))
    sum_of_hits = sums
        (at _ (c.x +ℤ pos 1) (c.y +ℤ pos 1) (moved_still c.x (pos 1)) (still_moved c.y (pos 1)))
        (at _ c.x (c.y +ℤ pos 1) (still c.x) refl)
        (at _ (c.x +ℤ negsuc 0) (c.y +ℤ pos 1) (moved_still c.x (negsuc 0)) (still_moved c.y (pos 1)))
        (at _ (c.x +ℤ pos 1) c.y refl (still c.y))
        (at _ c.x c.y refl refl)
        (at _ (c.x +ℤ negsuc 0) c.y refl (still c.y))
        (at _ (c.x +ℤ pos 1) (c.y +ℤ negsuc 0) (moved_still c.x (pos 1)) (still_moved c.y (negsuc 0)))
        (at _ c.x (c.y +ℤ negsuc 0) (still c.x) refl)
        (at _ (c.x +ℤ negsuc 0) (c.y +ℤ negsuc 0) (moved_still c.x (negsuc 0)) (still_moved c.y (negsuc 0)))
      where
        sums : {a1 a2 a3 a4 a5 a6 a7 a8 a9 b1 b2 b3 b4 b5 b6 b7 b8 b9 : ℕ} → a1 ≡ b1 → a2 ≡ b2 → a3 ≡ b3 → a4 ≡ b4 → a5 ≡ b5 → a6 ≡ b6 → a7 ≡ b7
            → a8 ≡ b8 → a9 ≡ b9
            → (a1 + (a2 + a3)) + ((a4 + (a5 + a6)) + (a7 + (a8 + a9))) ≡ (b1 + (b2 + b3)) + ((b4 + (b5 + b6)) + (b7 + (b8 + b9)))
        sums p1 p2 p3 p4 p5 p6 p7 p8 p9 i = (p1 i + (p2 i + p3 i)) + ((p4 i + (p5 i + p6 i)) + (p7 i + (p8 i + p9 i)))

regroup : (a1 a2 a3 a4 a5 a6 a7 a8 a9 b1 b2 b3 b4 b5 b6 b7 b8 b9 : ℕ)
    → ((a1 + b1) + ((a2 + b2) + (a3 + b3))) + (((a4 + b4) + ((a5 + b5) + (a6 + b6))) + ((a7 + b7) + ((a8 + b8) + (a9 + b9))))
    ≡ (((a1 + 0) + ((a2 + 0) + (a3 + 0))) + (((a4 + 0) + ((a5 + 0) + (a6 + 0))) + ((a7 + 0) + ((a8 + 0) + (a9 + 0)))))
    + ((b1 + (b2 + b3)) + ((b4 + (b5 + b6)) + (b7 + (b8 + b9))))
regroup a1 a2 a3 a4 a5 a6 a7 a8 a9 b1 b2 b3 b4 b5 b6 b7 b8 b9 = omega arith

neighbourhood_total-cons : (d : Cell) (ds : List Cell) (c : Cell) → neighbourhood_total (d ∷ ds) c ≡ neighbourhood_total (d ∷ []) c + neighbourhood_total ds c
neighbourhood_total-cons d ds c = regroup _ _ _ _ _ _ _ _ _ _ _ _ _ _ _ _ _ _

pub around-cons : (d : Cell) (ds : List Cell) (c : Cell) → around (d ∷ ds) c ≡ cond (king_distance c d == 1) 1 0 + around ds c
around-cons d ds c = sum_by-cons (λ d. cond (king_distance c d == 1) 1 0) d ds

-- the live cells of a neighbourhood are the live neighbours and, if it is alive, the cell itself
pub neighbourhood_total-around : (S : List Cell) (c : Cell) → neighbourhood_total S c ≡ around S c + times S c
neighbourhood_total-around [] c = refl
neighbourhood_total-around (d ∷ ds) c =
    omega (arith, neighbourhood_total-cons d ds c, hits_of c d, neighbourhood_total-around ds c, around-cons d ds c)

-- ---- a list of neighbourhoods

pub times-append : (cs ds : List Cell) (c : Cell) → times (cs ++ ds) c ≡ times cs c + times ds c
times-append [] ds c = omega arith
times-append (e ∷ es) ds c = omega (arith, times-append es ds c)

-- the neighbourhood of d has d and each neighbour of d once, and no other cell
times-neighbourhood : (d c : Cell) → times (neighbourhood d) c ≡ cond (king_distance c d == 1) 1 0 + cond (same_cell c d) 1 0
times-neighbourhood d c =
    turned _ _ _ _ _ _ _ _ _ _ _ _ _ _ _ _ _ _ (at _) (at _) (at _) (at _) (at _) (at _) (at _) (at _) (at _)
    ∙ hits_of d c
    ∙ (λ i. cond (max (distance_turned d.x c.x i) (distance_turned d.y c.y i) == 1) 1 0 + cond (same i) 1 0)
  where
    distance_turned : (a b : ℤ) → distance a b ≡ distance b a
    distance_turned a b = omega (arith, ints)

    same : same_cell d c ≡ same_cell c d
    same = (eq_by_cmp_equiv cell_cmp_total).symm d c

    at : (e : Cell) → cond {A = ℕ} (same_cell c e) 1 0 ≡ cond (same_cell e c) 1 0
    at e = ap (λ (b : Bool). cond {A = ℕ} b 1 0) ((eq_by_cmp_equiv cell_cmp_total).symm c e)

    turned : (a1 a2 a3 a4 a5 a6 a7 a8 a9 b1 b2 b3 b4 b5 b6 b7 b8 b9 : ℕ) → a1 ≡ b1 → a2 ≡ b2 → a3 ≡ b3 → a4 ≡ b4 → a5 ≡ b5 → a6 ≡ b6 → a7 ≡ b7
        → a8 ≡ b8 → a9 ≡ b9 → a1 + (a2 + (a3 + (a4 + (a5 + (a6 + (a7 + (a8 + (a9 + 0))))))))
        ≡ ((b9 + 0) + ((b8 + 0) + (b7 + 0))) + (((b6 + 0) + ((b5 + 0) + (b4 + 0))) + ((b3 + 0) + ((b2 + 0) + (b1 + 0))))
    turned a1 a2 a3 a4 a5 a6 a7 a8 a9 b1 b2 b3 b4 b5 b6 b7 b8 b9 p1 p2 p3 p4 p5 p6 p7 p8 p9 =
        omega (arith, p1, p2, p3, p4, p5, p6, p7, p8, p9)

-- a cell is listed once for each live neighbour, and once more if it is alive
pub times-neighbourhoods : (S : List Cell) (c : Cell) → times (flat_map neighbourhood S) c ≡ around S c + times S c
times-neighbourhoods [] c = refl
times-neighbourhoods (d ∷ ds) c =
    let both : times (flat_map neighbourhood (d ∷ ds)) c ≡ times (neighbourhood d) c + times (flat_map neighbourhood ds) c =
    times-append (neighbourhood d) (flat_map neighbourhood ds) c in
    omega (arith, both, times-neighbourhood d c, times-neighbourhoods ds c, around-cons d ds c)

-- the neighbourhood as nine cells, each given by a displacement
pub nine_cells : (c : Cell) → neighbourhood c
    ≡ moved_by (negsuc 0) (negsuc 0) c ∷ moved_by (pos 0) (negsuc 0) c ∷ moved_by (pos 1) (negsuc 0) c ∷ moved_by (negsuc 0) (pos 0) c ∷ c
    ∷ moved_by (pos 1) (pos 0) c ∷ moved_by (negsuc 0) (pos 1) c ∷ moved_by (pos 0) (pos 1) c ∷ moved_by (pos 1) (pos 1) c ∷ []
nine_cells c = λ i.
    cell_at (moved_still c.x (negsuc 0) i) (still_moved c.y (negsuc 0) i)
    ∷ moved_by (pos 0) (negsuc 0) c
    ∷ cell_at (moved_still c.x (pos 1) i) (still_moved c.y (negsuc 0) i)
    ∷ moved_by (negsuc 0) (pos 0) c
    ∷ c
    ∷ moved_by (pos 1) (pos 0) c
    ∷ cell_at (moved_still c.x (negsuc 0) i) (still_moved c.y (pos 1) i)
    ∷ moved_by (pos 0) (pos 1) c
    ∷ cell_at (moved_still c.x (pos 1) i) (still_moved c.y (pos 1) i)
    ∷ []
