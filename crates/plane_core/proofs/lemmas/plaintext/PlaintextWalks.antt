-- A walk along sorted cells, row by row.
use Rattle.std.proofs.Common.{◌≡◌, ℕ, zero, suc, ℤ, pos, ◌+ℤ◌, ◌≤ℤ◌, ◌<ℤ◌, ◌+◌, ◌<◌, ◌≤◌, Bool, true, false, ◌||◌, List}
use Rattle.std.proofs.Common.{[], ◌∷◌, length, take, drop, get_or, refl, sym, ap, subst, ◌∙◌, arith, ⊎_elim, w32, FitsSigned, to_z, of_z}
use Rattle.std.specs.List.{AllByRecursion, prefix_len}
use Rattle.std.specs.declared.cmp.Ordering.TheVariants.{Less}
use Rattle.std.specs.Ordering.{int_eq}
use Rattle.std.proofs.lemmas.Int.{ints, to_z-of_z}
use Rattle.std.proofs.lemmas.Bool.{cases_Bool}
use Rattle.std.proofs.lemmas.List.{take-append-drop, drop_all, drop_more}
use lib.Signed.{lt_z}
use Rattle.plane_core.specs.declared.plane.cell.Cell.{Cell}
use Rattle.plane_core.specs.declared.plane.bounds.Bounds.{Bounds}
use Rattle.plane_core.specs.plane.Cells.{cell_at, cell_cmp, same_cell, has, InOrder}
use Rattle.plane_core.specs.PlaintextWalk.{IsAhead}
use Rattle.plane_core.proofs.lemmas.plane.SetLemmas.{in_order-head, in_order-tail, in_order-cons, in_order-nil, before-trans, has-before, has-append}
use Rattle.plane_core.proofs.lemmas.plaintext.PlaintextOrder.{AllByRecursion-weaker}

-- the remaining cells of row y when a walk is at column x, in a box that ends before column e
pub record IsRowAhead (y x e : ℤ) (cells : List Cell) : Type 0 where
  pub in_order : InOrder cells
  pub here : AllByRecursion (λ c. (c.y ≡ y) × (x ≤ℤ c.x) × (c.x <ℤ e)) cells

pub left_of : (a b : Cell) → a.y ≡ b.y → a.x <ℤ b.x → cell_cmp a b ≡ Less
left_of a b e h = grind (arith, ints)

pub same_row : (a b : Cell) → cell_cmp a b ≡ Less → a.y ≡ b.y → a.x <ℤ b.x
same_row a b h e = grind (arith, ints)

pub no_row_above : (a b : Cell) → cell_cmp a b ≡ Less → a.y ≤ℤ b.y
no_row_above a b h = grind (arith, ints)

pub apart_rows : (a b : Cell) → a.y <ℤ b.y → same_cell a b ≡ false
apart_rows a b h = grind (arith, ints)

pub apart_rows_down : (a b : Cell) → b.y <ℤ a.y → same_cell a b ≡ false
apart_rows_down a b h = grind (arith, ints)

pub apart_columns : (a b : Cell) → a.y ≡ b.y → b.x <ℤ a.x → same_cell a b ≡ false
apart_columns a b e h = grind (arith, ints)

-- none of the remaining cells of a row is to the left of the first one
pub has-gap : (y x e z : ℤ) (c : Cell) (cs : List Cell) → IsRowAhead y x e (c ∷ cs) → z <ℤ c.x → has (c ∷ cs) (cell_at z y) ≡ false
has-gap y x e z c cs h l =
    let less = left_of (cell_at z y) c (sym h.here.0.0) l in
    has-before (cell_at z y) (c ∷ cs) (less, before-trans (cell_at z y) c cs less (in_order-head c cs h.in_order))

-- a cell to the right of the first cell, in the same row, is in the list exactly if it is in the rest of the list
pub has-past : (y z : ℤ) (c : Cell) (cs : List Cell) → c.y ≡ y → c.x <ℤ z → has (c ∷ cs) (cell_at z y) ≡ has cs (cell_at z y)
has-past y z c cs e l = ap (λ b. b || has cs (cell_at z y)) (apart_columns (cell_at z y) c (sym e) l)

AllByRecursion-both : {X : Type 0} (P Q R : X → Type 0) (xs : List X) → ((x : X) → P x → Q x → R x) → AllByRecursion P xs → AllByRecursion Q xs
    → AllByRecursion R xs
AllByRecursion-both P Q R [] f h k = tt
AllByRecursion-both P Q R (x ∷ xs) f h k = (f x h.0 k.0, AllByRecursion-both P Q R xs f h.1 k.1)

pub IsRowAhead-next : (y x e : ℤ) (c : Cell) (cs : List Cell) → IsRowAhead y x e (c ∷ cs) → IsRowAhead y (c.x +ℤ pos 1) e cs
IsRowAhead-next y x e c cs h = record {
  in_order = in_order-tail c cs h.in_order;
  here = AllByRecursion-both (λ d. cell_cmp c d ≡ Less) (λ d. (d.y ≡ y) × (x ≤ℤ d.x) × (d.x <ℤ e)) (λ d. (d.y ≡ y) × ((c.x +ℤ pos 1) ≤ℤ d.x) × (d.x <ℤ e)) cs
      (λ d less here. let l = same_row c d less (h.here.0.0 ∙ sym here.0) in (here.0, omega (arith, ints), here.2))
      (in_order-head c cs h.in_order) h.here.1;
}

AllByRecursion-take : {X : Type 0} (P : X → Type 0) (n : ℕ) (xs : List X) → AllByRecursion P xs → AllByRecursion P (take n xs)
AllByRecursion-take P zero xs h = tt
AllByRecursion-take P (suc n) [] h = tt
AllByRecursion-take P (suc n) (x ∷ xs) h = (h.0, AllByRecursion-take P n xs h.1)

AllByRecursion-drop : {X : Type 0} (P : X → Type 0) (n : ℕ) (xs : List X) → AllByRecursion P xs → AllByRecursion P (drop n xs)
AllByRecursion-drop P zero xs h = h
AllByRecursion-drop P (suc n) [] h = tt
AllByRecursion-drop P (suc n) (x ∷ xs) h = AllByRecursion-drop P n xs h.1

pub in_order-take : (n : ℕ) (cs : List Cell) → InOrder cs → InOrder (take n cs)
in_order-take zero cs o = in_order-nil
in_order-take (suc n) [] o = in_order-nil
in_order-take (suc n) (c ∷ cs) o =
    in_order-cons c (take n cs) (AllByRecursion-take (λ d. cell_cmp c d ≡ Less) n cs (in_order-head c cs o)) (in_order-take n cs (in_order-tail c cs o))

pub in_order-drop : (n : ℕ) (cs : List Cell) → InOrder cs → InOrder (drop n cs)
in_order-drop zero cs o = o
in_order-drop (suc n) [] o = in_order-nil
in_order-drop (suc n) (c ∷ cs) o = in_order-drop n cs (in_order-tail c cs o)

-- the number of cells at the front of the list that are in row y
abbrev pub len_in_row : ℤ → List Cell → ℕ
len_in_row y cells = prefix_len (λ c. int_eq c.y y) cells

len_in_row-here : (y : ℤ) (c : Cell) (cs : List Cell) → int_eq c.y y ≡ true → len_in_row y (c ∷ cs) ≡ suc (len_in_row y cs)
len_in_row-here y c cs e = rw e (omega arith)

len_in_row-below : (y : ℤ) (c : Cell) (cs : List Cell) → int_eq c.y y ≡ false → len_in_row y (c ∷ cs) ≡ zero
len_in_row-below y c cs e = rw e refl

int_eq-refl : (a : ℤ) → int_eq a a ≡ true
int_eq-refl a = grind (arith, ints)

int_eq-true : (a b : ℤ) → int_eq a b ≡ true → a ≡ b
int_eq-true a b h = grind (arith, ints)

int_eq-above : (a b : ℤ) → int_eq a b ≡ false → b ≤ℤ a → b <ℤ a
int_eq-above a b h l = grind (arith, ints)

taken_in_row : (y : ℤ) (cs : List Cell) → AllByRecursion (λ c. c.y ≡ y) (take (len_in_row y cs) cs)
taken_in_row y [] = tt
taken_in_row y (c ∷ cs) =
    let P : ℕ → Type 0 = λ n. AllByRecursion (λ d. d.y ≡ y) (take n (c ∷ cs)) in
    ⊎_elim (λ e. subst P (sym (len_in_row-here y c cs e)) (int_eq-true c.y y e, taken_in_row y cs))
    (λ e. subst P (sym (len_in_row-below y c cs e)) tt) (cases_Bool (int_eq c.y y))

left_below_row : (y : ℤ) (cs : List Cell) → InOrder cs → AllByRecursion (λ c. y ≤ℤ c.y) cs
    → AllByRecursion (λ c. (y +ℤ pos 1) ≤ℤ c.y) (drop (len_in_row y cs) cs)
left_below_row y [] o h = tt
left_below_row y (c ∷ cs) o h =
    let P : ℕ → Type 0 = λ n. AllByRecursion (λ d. (y +ℤ pos 1) ≤ℤ d.y) (drop n (c ∷ cs)) in
    ⊎_elim (λ e. subst P (sym (len_in_row-here y c cs e)) (left_below_row y cs (in_order-tail c cs o) h.1))
    (λ e. subst P (sym (len_in_row-below y c cs e)) (let l = int_eq-above c.y y e h.0 in (
      omega (arith, ints),
      AllByRecursion-weaker (λ d. cell_cmp c d ≡ Less) (λ d. (y +ℤ pos 1) ≤ℤ d.y) cs (λ d less. let m =
          no_row_above c d less in omega (arith, ints)) (in_order-head c cs o),
    )))
    (cases_Bool (int_eq c.y y))

-- when a walk begins row y, the remaining cells of the row are the cells at the front of the list that are in row y
pub IsRowAhead-taken : (y : ℤ) (b : Bounds) (cs : List Cell) → IsAhead y b cs → IsRowAhead y b.left (b.right +ℤ pos 1) (take (len_in_row y cs) cs)
IsRowAhead-taken y b cs h = record {
  in_order = in_order-take (len_in_row y cs) cs h.in_order;
  here = AllByRecursion-both (λ c. c.y ≡ y) (λ c. (b.left ≤ℤ c.x) × (c.x ≤ℤ b.right)) (λ c. (c.y ≡ y) × (b.left ≤ℤ c.x) × (c.x <ℤ (b.right +ℤ pos 1)))
      (take (len_in_row y cs) cs)
      (λ c e w. (e, w.0, omega (arith, ints)))
      (taken_in_row y cs) (AllByRecursion-take (λ c. (b.left ≤ℤ c.x) × (c.x ≤ℤ b.right)) (len_in_row y cs) cs h.columns);
}

pub IsAhead-next : (y : ℤ) (b : Bounds) (cs : List Cell) → IsAhead y b cs → IsAhead (y +ℤ pos 1) b (drop (len_in_row y cs) cs)
IsAhead-next y b cs h = record {
  in_order = in_order-drop (len_in_row y cs) cs h.in_order;
  rows = left_below_row y cs h.in_order h.rows;
  columns = AllByRecursion-drop (λ c. (b.left ≤ℤ c.x) × (c.x ≤ℤ b.right)) (len_in_row y cs) cs h.columns;
}

has-none : (c : Cell) (ds : List Cell) → AllByRecursion (λ d. same_cell c d ≡ false) ds → has ds c ≡ false
has-none c [] h = refl
has-none c (d ∷ ds) h = rw (h.0, has-none c ds h.1) refl

or-false : (b : Bool) → (b || false) ≡ b
or-false true = refl
or-false false = refl

-- a cell of row y is among the remaining cells exactly if it is among those at the front that are in row y
pub has-taken : (y : ℤ) (b : Bounds) (cs : List Cell) → IsAhead y b cs → (x : ℤ) → has cs (cell_at x y) ≡ has (take (len_in_row y cs) cs) (cell_at x y)
has-taken y b cs h x =
    let n = len_in_row y cs in
    let none : has (drop n cs) (cell_at x y) ≡ false =
    has-none (cell_at x y) (drop n cs)
    (AllByRecursion-weaker (λ d. (y +ℤ pos 1) ≤ℤ d.y) (λ d. same_cell (cell_at x y) d ≡ false) (drop n cs)
    (λ d l. apart_rows (cell_at x y) d (omega (arith, ints))) (left_below_row y cs h.in_order h.rows)) in
    ap (λ ds. has ds (cell_at x y)) (sym (take-append-drop n cs)) ∙ has-append (take n cs) (drop n cs) (cell_at x y)
    ∙ ap (λ v. has (take n cs) (cell_at x y) || v) none ∙ or-false (has (take n cs) (cell_at x y))

-- a cell of a lower row is among the remaining cells exactly if it is among those after the cells of row y
pub has-left : (y : ℤ) (cs : List Cell) (x z : ℤ) → y <ℤ z → has cs (cell_at x z) ≡ has (drop (len_in_row y cs) cs) (cell_at x z)
has-left y cs x z l =
    let n = len_in_row y cs in
    let none : has (take n cs) (cell_at x z) ≡ false =
    has-none (cell_at x z) (take n cs)
    (AllByRecursion-weaker (λ d. d.y ≡ y) (λ d. same_cell (cell_at x z) d ≡ false) (take n cs)
    (λ d e. apart_rows_down (cell_at x z) d (omega (arith, ints))) (taken_in_row y cs)) in
    ap (λ ds. has ds (cell_at x z)) (sym (take-append-drop n cs)) ∙ has-append (take n cs) (drop n cs) (cell_at x z)
    ∙ ap (λ v. v || has (drop n cs) (cell_at x z)) none

-- the remaining part of a row begins with its next cell
pub IsRowAhead-at : (y x e : ℤ) (row : List Cell) (i : ℕ) (d : Cell) → i < length row → IsRowAhead y x e (drop i row)
    → IsRowAhead y x e (get_or row i d ∷ drop (i + 1) row)
IsRowAhead-at y x e row i d l h = subst (IsRowAhead y x e) (drop_more row i d l) h

-- if the test `lt_z a b` gives true, `a` is less than `b`
pub lt_z-true : (a b : ℤ) → lt_z a b ≡ true → a <ℤ b
lt_z-true a b h = grind (arith, ints)

pub lt_z-false : (a b : ℤ) → lt_z a b ≡ false → b ≤ℤ a
lt_z-false a b h = grind (arith, ints)

pub above : (a b : Cell) → a.y <ℤ b.y → cell_cmp a b ≡ Less
above a b h = grind (arith, ints)

pub apart_columns_left : (a b : Cell) → a.y ≡ b.y → a.x <ℤ b.x → same_cell a b ≡ false
apart_columns_left a b e h = grind (arith, ints)

-- if the first i cells are in row y, and cell i is in row y too, then the first i + 1 cells are in row y
pub walked-on : (y : ℤ) (cells : List Cell) (i : ℕ) (d : Cell) → i < length cells → int_eq (get_or cells i d).y y ≡ true
    → len_in_row y cells ≡ i + len_in_row y (drop i cells) → len_in_row y cells ≡ (i + 1) + len_in_row y (drop (i + 1) cells)
walked-on y cells i d l e h =
    let here : len_in_row y (drop i cells) ≡ suc (len_in_row y (drop (i + 1) cells)) =
    ap (len_in_row y) (drop_more cells i d l) ∙ len_in_row-here y (get_or cells i d) (drop (i + 1) cells) e in
    omega (arith, h, here)

pub walked-off : (y : ℤ) (cells : List Cell) (i : ℕ) (d : Cell) → i < length cells → int_eq (get_or cells i d).y y ≡ false
    → len_in_row y cells ≡ i + len_in_row y (drop i cells) → i ≡ len_in_row y cells
walked-off y cells i d l e h =
    let here : len_in_row y (drop i cells) ≡ zero =
    ap (len_in_row y) (drop_more cells i d l) ∙ len_in_row-below y (get_or cells i d) (drop (i + 1) cells) e in
    omega (arith, h, here)

pub walked-all : (y : ℤ) (cells : List Cell) (i : ℕ) → length cells ≤ i → len_in_row y cells ≡ i + len_in_row y (drop i cells) → i ≡ len_in_row y cells
walked-all y cells i l h = let none = ap (len_in_row y) (drop_all i cells l) in omega (arith, h, none)

-- two row numbers with the same 32 bits are equal
pub same_bits : (a y : ℤ) → FitsSigned w32 a → of_z w32 a ≡ of_z w32 y → int_eq a (to_z w32 (of_z w32 y)) ≡ true
same_bits a y fits e =
    let same : a ≡ to_z w32 (of_z w32 y) = sym (to_z-of_z w32 a fits) ∙ ap (to_z w32) e in
    subst (λ z. int_eq a z ≡ true) same (int_eq-refl a)

pub other_bits : (a y : ℤ) → (of_z w32 a ≡ of_z w32 y → ⊥) → int_eq a y ≡ false
other_bits a y differ = ⊎_elim (λ e. absurd (differ (ap (of_z w32) (int_eq-true a y e)))) (λ e. e) (cases_Bool (int_eq a y))
