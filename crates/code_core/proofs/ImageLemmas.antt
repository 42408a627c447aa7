-- Moving a pattern to the corner is idempotent, and the orientation `Same` changes nothing.
use Rattle.std.proofs.Common.{◌≡◌, ◌∙◌, sym, ap, refl, ℤ, pos, ◌+ℤ◌, neg_ℤ, Bool, true, false, ◌&&◌, List, [], ◌∷◌, map, Option, None, Some, arith}
use Rattle.std.proofs.lemmas.Int.{ints}
use Rattle.plane_core.specs.declared.plane.cell.Cell.{Cell}
use Rattle.plane_core.specs.declared.plane.bounds.Bounds.{Bounds}
use Rattle.plane_core.specs.plane.Bounds.{at_corner, box_of, cornered, shifted}
use Rattle.plane_core.specs.plane.Cells.{InOrder, moved_by, set_of}
use Rattle.plane_core.specs.declared.plane.orientation.Orientation.TheVariants.{Same}
use Rattle.plane_core.specs.plane.Orientations.{image, turned_cell}
use Rattle.plane_core.proofs.lemmas.plane.CommuteLemmas.{set_of-in_order}
use Rattle.plane_core.proofs.lemmas.plane.OrientationLemmas.{at_corner-shifted}

-- `at_corner` is idempotent
pub at_corner-again : (cells : List Cell) → at_corner (at_corner cells) ≡ at_corner cells
at_corner-again cells = go (box_of cells) refl
  where
    go : (b : Option Bounds) → box_of cells ≡ b → at_corner (cornered b cells) ≡ cornered b cells
    go None is = refl
    go (Some b) is = at_corner-shifted (neg_ℤ b.left) (neg_ℤ b.top) cells ∙ ap (λ (o : Option Bounds). cornered o cells) is

-- a coordinate that a shift leaves unchanged is shifted by 0
unmoved : (a v : ℤ) → a +ℤ neg_ℤ v ≡ a → v ≡ pos 0
unmoved a v e = omega (arith, ints)

-- the box of a pattern at the corner has its left side in column 0 and its top in row 0
pub box_at_corner : (cells : List Cell) (b : Bounds) → box_of (at_corner cells) ≡ Some b → (b.left ≡ pos 0) × (b.top ≡ pos 0)
box_at_corner cells b is = go (at_corner cells) is (at_corner-again cells)
  where
    go : (T : List Cell) → box_of T ≡ Some b → at_corner T ≡ T → (b.left ≡ pos 0) × (b.top ≡ pos 0)
    go [] box same = absurd cc
    go (c ∷ cs) box same =
        let whole : shifted (neg_ℤ b.left) (neg_ℤ b.top) (c ∷ cs) ≡ c ∷ cs = sym (ap (λ (o : Option Bounds). cornered o (c ∷ cs)) box) ∙ same in
        let first : moved_by (neg_ℤ b.left) (neg_ℤ b.top) c ≡ c = cc in
        (unmoved c.x b.left (ap (λ (d : Cell). d.x) first), unmoved c.y b.top (ap (λ (d : Cell). d.y) first))

-- the image in the orientation `Same` is the pattern itself
pub image-same : (cells : List Cell) → InOrder cells → image Same cells ≡ cells
unfolding image
image-same cells order = ap set_of (map-alone cells) ∙ set_of-in_order cells order
  where
    map-alone : (cells : List Cell) → map (turned_cell Same) cells ≡ cells
    map-alone [] = refl
    map-alone (c ∷ cs) = ap (λ (more : List Cell). c ∷ more) (map-alone cs)

pub and_swap : (a b : Bool) → (a && b) ≡ (b && a)
and_swap true true = refl
and_swap true false = refl
and_swap false true = refl
and_swap false false = refl
