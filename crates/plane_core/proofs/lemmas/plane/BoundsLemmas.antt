-- The smallest box around a list of cells.
use Rattle.std.proofs.Common.{◌≡◌, ℕ, ℤ, true, false, List, [], ◌∷◌, ◌++◌, arith, refl, ap, ◌∙◌, sym, inl, inr, ◌⊎◌, Option}
use Rattle.std.proofs.Common.{Some, None, Any, IsNone, IfSome, ◌↔◌, ◌+◌, ◌<◌, cond, length, map, take, get_or, suc, int_lt}
use Rattle.std.specs.Int.{int_min, int_max}
use Rattle.std.proofs.lemmas.Bool.{false≢true}
use Rattle.std.proofs.lemmas.List.{take_more, map-append}
use Rattle.std.proofs.lemmas.Int.{ints, clamps}
use Rattle.std.proofs.lemmas.List.Elements.{All-cons, All-nil, All-weaker}
use Rattle.plane_core.specs.declared.plane.cell.Cell.{Cell}
use Rattle.plane_core.specs.declared.plane.bounds.Bounds.{Bounds}
use Rattle.plane_core.specs.plane.Bounds.{box_at, widened, grown, box_of, IsWithin, IsLeastBox}

min_swap : (a b x : ℤ) → int_min a (int_min b x) ≡ int_min b (int_min a x)
min_swap a b x = omega (arith, ints, clamps)

max_swap : (a b x : ℤ) → int_max a (int_max b x) ≡ int_max b (int_max a x)
max_swap a b x = omega (arith, ints, clamps)

min_comm : (a b : ℤ) → int_min a b ≡ int_min b a
min_comm a b = omega (arith, ints, clamps)

max_comm : (a b : ℤ) → int_max a b ≡ int_max b a
max_comm a b = omega (arith, ints, clamps)

pub min_same : (a : ℤ) → int_min a a ≡ a
min_same a = omega (arith, ints, clamps)

pub max_same : (a : ℤ) → int_max a a ≡ a
max_same a = omega (arith, ints, clamps)

pub min_again : (a b : ℤ) → int_min a (int_min a b) ≡ int_min a b
min_again a b = omega (arith, ints, clamps)

pub max_again : (a b : ℤ) → int_max a (int_max a b) ≡ int_max a b
max_again a b = omega (arith, ints, clamps)

-- a box is the same whether it is widened to contain first cell d and then cell c, or first c and then d
pub widened-swap : (c d : Cell) (b : Bounds) → widened c (widened d b) ≡ widened d (widened c b)
widened-swap c d b i = record {
  left = min_swap c.x d.x b.left i;
  top = min_swap c.y d.y b.top i;
  right = max_swap c.x d.x b.right i;
  bottom = max_swap c.y d.y b.bottom i;
}

pub widened-pair : (c d : Cell) → widened c (box_at d) ≡ widened d (box_at c)
widened-pair c d i = record { left = min_comm c.x d.x i; top = min_comm c.y d.y i; right = max_comm c.x d.x i; bottom = max_comm c.y d.y i }

-- appending a cell to a list widens the box of the list by the cell
pub box_of-push : (cs : List Cell) (c : Cell) → box_of (cs ++ c ∷ []) ≡ Some (grown c (box_of cs))
box_of-push [] c = refl
box_of-push (d ∷ ds) c = ap (λ (b : Option Bounds). Some (grown d b)) (box_of-push ds c) ∙ ap (λ (b : Bounds). Some b) (swapped (box_of ds))
  where
    swapped : (b : Option Bounds) → widened d (grown c b) ≡ widened c (grown d b)
    swapped None = widened-pair d c
    swapped (Some b) = widened-swap d c b

-- the box of the first i + 1 cells is the box of the first i cells, widened by cell i
pub box_more : (cs : List Cell) (i : ℕ) (d : Cell) → i < length cs → box_of (take (i + 1) cs) ≡ Some (grown (get_or cs i d) (box_of (take i cs)))
box_more cs i d low = ap box_of (take_more cs i d low) ∙ box_of-push (take i cs) (get_or cs i d)

-- ---- the smallest box

min_cases : (a b : ℤ) → (int_min a b ≡ a) ⊎ (int_min a b ≡ b)
min_cases a b = elim (int_lt b a) as (λ t. (cond t b a ≡ a) ⊎ (cond t b a ≡ b)) [ true ↦ inr refl | false ↦ inl refl ]

pub max_cases : (a b : ℤ) → (int_max a b ≡ a) ⊎ (int_max a b ≡ b)
max_cases a b = elim (int_lt b a) as (λ t. (cond t a b ≡ a) ⊎ (cond t a b ≡ b)) [ true ↦ inl refl | false ↦ inr refl ]

within-widened : (c : Cell) (b : Bounds) (d : Cell) → IsWithin b d → IsWithin (widened c b) d
within-widened c b d w = record {
  left = omega (arith, ints, clamps);
  top = omega (arith, ints, clamps);
  right = omega (arith, ints, clamps);
  bottom = omega (arith, ints, clamps);
}

within-itself : (c : Cell) (b : Bounds) → IsWithin (widened c b) c
within-itself c b = record {
  left = omega (arith, ints, clamps);
  top = omega (arith, ints, clamps);
  right = omega (arith, ints, clamps);
  bottom = omega (arith, ints, clamps);
}

within-alone : (c : Cell) → IsWithin (box_at c) c
within-alone c = record { left = omega (arith, ints); top = omega (arith, ints); right = omega (arith, ints); bottom = omega (arith, ints) }

any-head : (P : Cell → Type 0) (c : Cell) (cs : List Cell) → P c → Any P (c ∷ cs)
any-head P c cs h = (0, c, omega arith, refl, h)

any-tail : (P : Cell → Type 0) (c : Cell) (cs : List Cell) → Any P cs → Any P (c ∷ cs)
any-tail P c cs (k, x, low, at, h) = (suc k, x, omega arith, at, h)

-- a side of the widened box has the new cell on it or a cell that was on it before
side : (f : Cell → ℤ) (c : Cell) (cs : List Cell) (new old : ℤ) → (new ≡ f c) ⊎ (new ≡ old) → Any (λ d. f d ≡ old) cs → Any (λ d. f d ≡ new) (c ∷ cs)
side f c cs new old (inl e) h = any-head (λ d. f d ≡ new) c cs (sym e)
side f c cs new old (inr e) (k, x, low, at, h) = any-tail (λ d. f d ≡ new) c cs (k, x, low, at, h ∙ sym e)

least-widened : (c : Cell) (cs : List Cell) (b : Bounds) → IsLeastBox cs b → IsLeastBox (c ∷ cs) (widened c b)
least-widened c cs b l = record {
  within = All-cons (IsWithin (widened c b)) c cs (within-itself c b)
      (All-weaker (IsWithin b) (IsWithin (widened c b)) (λ d w. within-widened c b d w) cs l.within);
  left = side (λ d. d.x) c cs (int_min c.x b.left) b.left (min_cases c.x b.left) l.left;
  top = side (λ d. d.y) c cs (int_min c.y b.top) b.top (min_cases c.y b.top) l.top;
  right = side (λ d. d.x) c cs (int_max c.x b.right) b.right (max_cases c.x b.right) l.right;
  bottom = side (λ d. d.y) c cs (int_max c.y b.bottom) b.bottom (max_cases c.y b.bottom) l.bottom;
}

least-alone : (c : Cell) → IsLeastBox (c ∷ []) (box_at c)
least-alone c = record {
  within = All-cons (IsWithin (box_at c)) c [] (within-alone c) (All-nil (IsWithin (box_at c)));
  left = any-head (λ d. d.x ≡ c.x) c [] refl;
  top = any-head (λ d. d.y ≡ c.y) c [] refl;
  right = any-head (λ d. d.x ≡ c.x) c [] refl;
  bottom = any-head (λ d. d.y ≡ c.y) c [] refl;
}

-- the box of a list, if there is one, contains all cells of the list and has one of them on each of its four sides
pub box_of-least : (cs : List Cell) → IfSome (box_of cs) (IsLeastBox cs)
box_of-least [] = tt
box_of-least (c ∷ []) = least-alone c
box_of-least (c ∷ d ∷ ds) = least-widened c (d ∷ ds) (grown d (box_of ds)) (box_of-least (d ∷ ds))

-- there is no box exactly if there is no cell
pub box_of-none : (cs : List Cell) → IsNone (box_of cs) ↔ (cs ≡ [])
box_of-none [] = (λ _. refl, λ _. refl)
box_of-none (c ∷ cs) = (λ e. absurd (false≢true (sym e)), λ e. absurd cc)

-- the box of the images of the first i + 1 cells is the box of the images of the first i cells, widened by the image of
-- cell i
pub image_box_more : (f : Cell → Cell) (cs : List Cell) (i : ℕ) (d : Cell) → i < length cs
    → box_of (map f (take (i + 1) cs)) ≡ Some (grown (f (get_or cs i d)) (box_of (map f (take i cs))))
image_box_more f cs i d low =
    ap (λ (xs : List Cell). box_of (map f xs)) (take_more cs i d low)
    ∙ ap box_of (map-append f (take i cs) (get_or cs i d ∷ []))
    ∙ box_of-push (map f (take i cs)) (f (get_or cs i d))
