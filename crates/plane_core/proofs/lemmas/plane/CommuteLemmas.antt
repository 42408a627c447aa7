-- Moving and turning commute with the next generation.
use Rattle.std.proofs.Common.{◌≡◌, ℕ, ℤ, ◌+ℤ◌, neg_ℤ, ◌+◌, ◌==◌, max, true, false, ◌||◌, List, [], ◌∷◌, arith, cond, refl, ap, ◌∙◌, sym, subst, map}
use Rattle.std.specs.Cmp.{both_ways as both_true}
use Rattle.std.specs.Ordering.{is_eq, match_ordering}
use Rattle.std.specs.declared.cmp.Ordering.{Ordering}
use Rattle.std.specs.declared.cmp.Ordering.TheVariants.{Less, Equal, Greater}
use Rattle.std.proofs.lemmas.Int.{ints}
use Rattle.std.proofs.lemmas.Bool.{false≢true}
use Rattle.plane_core.specs.declared.plane.cell.Cell.{Cell}
use Rattle.plane_core.specs.declared.plane.orientation.Orientation.{Orientation}
use Rattle.plane_core.specs.declared.plane.orientation.Orientation.TheVariants.{Same, Quarter, Half, ThreeQuarter, Mirror, Flip, Diagonal, AntiDiagonal}
use Rattle.plane_core.specs.plane.Bounds.{shifted}
use Rattle.plane_core.specs.plane.Cells.{cell_at, cell_cmp, king_distance, distance, moved_by, has, put, set_of, InOrder}
use Rattle.plane_core.specs.plane.Generations.{around, lives, next}
use Rattle.plane_core.specs.plane.Orientations.{turned_cell, image}
use Rattle.plane_core.specs.plane.Rules.{Numbers, is_birth, is_survival}
use Rattle.plane_core.proofs.lemmas.plane.NeighbourhoodLemmas.{around-cons}
use Rattle.plane_core.proofs.lemmas.plane.CellLemmas.{king_distance-moved}
use Rattle.plane_core.proofs.lemmas.plane.GenerationLemmas.{has-next, in_order-next}
use Rattle.plane_core.proofs.lemmas.plane.OrientationLemmas.{has-map, has-map_from, product-cell, turning_back}
use Rattle.plane_core.proofs.lemmas.plane.TransformLemmas.{in_order-shifted}
use Rattle.plane_core.proofs.lemmas.plane.SetLemmas.{same_lists, in_order-set_of, has-set_of, has-before, in_order-head, in_order-tail}

-- ---- a one-to-one map of cells that keeps distances

-- the map has an inverse and keeps king distances, so it keeps neighbours
pub record IsRigid (f g : Cell → Cell) : Type 0 where
  pub there : (c : Cell) → f (g c) ≡ c
  pub back : (c : Cell) → g (f c) ≡ c
  pub keeps : (a b : Cell) → king_distance (f a) (f b) ≡ king_distance a b

module _ (f g : Cell → Cell) (rigid : IsRigid f g) where
  -- an image has a cell exactly if the pattern has the cell's preimage
  has-image : (S : List Cell) (c : Cell) → has (map f S) c ≡ has S (g c)
  has-image S c = both_true (has (map f S) c) (has S (g c))
      (λ h. let d = has-map_from f S c h in subst (λ (x : Cell). has S x ≡ true) (sym (ap g d.2 ∙ rigid.back d.0)) d.1)
      (λ h. subst (λ (x : Cell). has (map f S) x ≡ true) (rigid.there c) (has-map f S (g c) h))

  around-image : (S : List Cell) (c : Cell) → around (map f S) c ≡ around S (g c)
  around-image [] c = refl
  around-image (d ∷ ds) c =
      around-cons (f d) (map f ds) c
      ∙ (λ i. cond ((ap (λ (x : Cell). king_distance x (f d)) (sym (rigid.there c)) ∙ rigid.keeps (g c) d) i == 1) 1 0 + around-image ds c i)
      ∙ sym (around-cons d ds (g c))

  -- a cell has the same number of live neighbours whether a new cell is inserted in order or prepended
  around-put : (x : Cell) (ds : List Cell) (c : Cell) → has ds x ≡ false → around (put x ds) c ≡ around (x ∷ ds) c
  around-put x [] c h = refl
  around-put x (d ∷ ds) c h = go (cell_cmp x d) refl h (around-put x ds c)
    where
      go : (r : Ordering) → cell_cmp x d ≡ r → (is_eq r || has ds x) ≡ false → (has ds x ≡ false → around (put x ds) c ≡ around (x ∷ ds) c)
          → around (match_ordering r (x ∷ d ∷ ds) (d ∷ ds) (d ∷ put x ds)) c ≡ around (x ∷ d ∷ ds) c
      go Less is h ih = refl
      go Equal is h ih = absurd (false≢true (sym h))
      go Greater is h ih = omega (arith, around-cons d (put x ds) c, ih h, around-cons x ds c, around-cons x (d ∷ ds) c, around-cons d ds c)

  -- putting the cells of an image in order, with `set_of`, doesn't change how many live neighbours a cell has
  around-set_of : (S : List Cell) (c : Cell) → InOrder S → around (set_of (map f S)) c ≡ around (map f S) c
  around-set_of [] c o = refl
  around-set_of (d ∷ ds) c o =
      let new : has (set_of (map f ds)) (f d) ≡ false = has-set_of (map f ds) (f d) ∙ has-image ds (f d) ∙ ap (has ds) (rigid.back d)
      ∙ has-before d ds (in_order-head d ds o) in
      around-put (f d) (set_of (map f ds)) c new
      ∙ omega (arith, around-cons (f d) (set_of (map f ds)) c, around-set_of ds c (in_order-tail d ds o), around-cons (f d) (map f ds) c)

  lives-image : (rule : Numbers) (S : List Cell) (c : Cell) → InOrder S → lives rule (set_of (map f S)) c ≡ lives rule S (g c)
  lives-image rule S c o = λ i. cond ((has-set_of (map f S) c ∙ has-image S c) i) (is_survival rule ((around-set_of S c o ∙ around-image S c) i))
      (is_birth rule ((around-set_of S c o ∙ around-image S c) i))

  -- the next generation of the image is the image of the next generation
  pub next-rigid : (rule : Numbers) (S : List Cell) → InOrder S → next rule (set_of (map f S)) ≡ set_of (map f (next rule S))
  next-rigid rule S o = same_lists (next rule (set_of (map f S))) (set_of (map f (next rule S))) (in_order-next rule (set_of (map f S)))
      (in_order-set_of (map f (next rule S)))
      (λ c. has-next rule (set_of (map f S)) c ∙ lives-image rule S c o ∙ sym (has-next rule S (g c)) ∙ sym (has-image (next rule S) c)
      ∙ sym (has-set_of (map f (next rule S)) c))

-- ---- the eight orientations

flipped : (a b : ℤ) → distance (neg_ℤ a) (neg_ℤ b) ≡ distance a b
flipped a b = omega (arith, ints)

crossed : (m n : ℕ) → max m n ≡ max n m
crossed m n = omega arith

pub turned-keeps : (o : Orientation) (a b : Cell) → king_distance (turned_cell o a) (turned_cell o b) ≡ king_distance a b
turned-keeps Same a b = refl
turned-keeps Quarter a b = (λ i. max (flipped a.y b.y i) (distance a.x b.x)) ∙ crossed (distance a.y b.y) (distance a.x b.x)
turned-keeps Half a b = λ i. max (flipped a.x b.x i) (flipped a.y b.y i)
turned-keeps ThreeQuarter a b = (λ i. max (distance a.y b.y) (flipped a.x b.x i)) ∙ crossed (distance a.y b.y) (distance a.x b.x)
turned-keeps Mirror a b = λ i. max (flipped a.x b.x i) (distance a.y b.y)
turned-keeps Flip a b = λ i. max (distance a.x b.x) (flipped a.y b.y i)
turned-keeps Diagonal a b = crossed (distance a.y b.y) (distance a.x b.x)
turned-keeps AntiDiagonal a b = (λ i. max (flipped a.y b.y i) (flipped a.x b.x i)) ∙ crossed (distance a.y b.y) (distance a.x b.x)

turned-rigid : (o : Orientation) → IsRigid (turned_cell o) (turned_cell (turning_back o).0)
turned-rigid o = record {
  there = λ c. product-cell (turning_back o).0 o c ∙ ap (λ (p : Orientation). turned_cell p c) (turning_back o).2;
  back = λ c. product-cell o (turning_back o).0 c ∙ ap (λ (p : Orientation). turned_cell p c) (turning_back o).1;
  keeps = turned-keeps o;
}

-- turning commutes with the next generation
pub next-image : (o : Orientation) (rule : Numbers) (S : List Cell) → InOrder S → next rule (image o S) ≡ image o (next rule S)
unfolding image
next-image o rule S order = next-rigid (turned_cell o) (turned_cell (turning_back o).0) (turned-rigid o) rule S order

-- ---- moving

undo : (a v : ℤ) → (a +ℤ neg_ℤ v) +ℤ v ≡ a
undo a v = omega (arith, ints)

redo : (a v : ℤ) → (a +ℤ v) +ℤ neg_ℤ v ≡ a
redo a v = omega (arith, ints)

moved-rigid : (dx dy : ℤ) → IsRigid (moved_by dx dy) (moved_by (neg_ℤ dx) (neg_ℤ dy))
moved-rigid dx dy = record {
  there = λ c i. cell_at (undo c.x dx i) (undo c.y dy i);
  back = λ c i. cell_at (redo c.x dx i) (redo c.y dy i);
  keeps = king_distance-moved dx dy;
}

-- a list in order is its own set
pub set_of-in_order : (S : List Cell) → InOrder S → set_of S ≡ S
set_of-in_order S o = same_lists (set_of S) S (in_order-set_of S) o (has-set_of S)

-- moving commutes with the next generation
pub next-shifted : (dx dy : ℤ) (rule : Numbers) (S : List Cell) → InOrder S → next rule (shifted dx dy S) ≡ shifted dx dy (next rule S)
next-shifted dx dy rule S o =
    ap (next rule) (sym (set_of-in_order (shifted dx dy S) (in_order-shifted dx dy S o)))
    ∙ next-rigid (moved_by dx dy) (moved_by (neg_ℤ dx) (neg_ℤ dy)) (moved-rigid dx dy) rule S o
    ∙ set_of-in_order (shifted dx dy (next rule S)) (in_order-shifted dx dy (next rule S) (in_order-next rule S))
