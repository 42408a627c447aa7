-- Images of patterns in the eight orientations, moved to the corner (0, 0).
use Rattle.std.proofs.Common.{◌≡◌, ℕ, ℤ, suc, ◌<◌, ◌≤◌, ◌+ℤ◌, ◌-ℤ◌, ◌≤ℤ◌, get_or, length, max, neg_ℤ, unsigned_abs, Bool, true, ◌&&◌, List, [], ◌∷◌}
use Rattle.std.proofs.Common.{arith, refl, ap, ◌∙◌, sym, subst, map, Option, Some, None, Any, leb}
use Rattle.std.specs.List.{list_all}
use Rattle.std.specs.Ordering.{match_ordering}
use Rattle.std.specs.declared.cmp.Ordering.{Ordering}
use Rattle.std.specs.declared.cmp.Ordering.TheVariants.{Less, Equal, Greater}
use Rattle.std.specs.Cmp.{both_ways as both_true}
use Rattle.std.proofs.lemmas.Int.{ints}
use Rattle.std.proofs.lemmas.Bool.{and_parts, and_from, le-leb, leb-true}
use Rattle.plane_core.specs.declared.plane.bounds.Bounds.{Bounds}
use Rattle.plane_core.specs.declared.plane.cell.Cell.{Cell}
use Rattle.plane_core.specs.declared.plane.orientation.Orientation.{Orientation}
use Rattle.plane_core.specs.declared.plane.orientation.Orientation.TheVariants.{Same, Quarter, Half, ThreeQuarter, Mirror, Flip, Diagonal, AntiDiagonal}
use Rattle.plane_core.specs.plane.Bounds.{box_of, grown, shifted, cornered, IsLeastBox, IsWithin}
use Rattle.plane_core.specs.plane.Cells.{plane_bound, cell_cmp, moved_by, put, set_of, InOrder, on_plane, IsPattern}
use Rattle.plane_core.specs.plane.Orientations.{turned_cell, landed, corner_transform, image, turned}
use Rattle.plane_core.proofs.lemmas.plane.BoundsLemmas.{box_of-least, widened-swap, widened-pair, min_same, max_same, min_again, max_again}
use Rattle.plane_core.proofs.lemmas.plane.CellLemmas.{cell_cmp-same, cell_cmp-moved}
use Rattle.plane_core.proofs.lemmas.plane.TransformLemmas.{in_order-shifted, all_at, all_images_at}
use Rattle.plane_core.proofs.lemmas.plane.SearchLemmas.{list_all-has, has-list_all}
use Rattle.plane_core.proofs.lemmas.plane.SetLemmas.{has-set_of, in_order-set_of, in_order-nil}

-- ---- boxes

grown-twice : (c : Cell) (b : Option Bounds) → grown c (Some (grown c b)) ≡ grown c b
grown-twice c None i = record { left = min_same c.x i; top = min_same c.y i; right = max_same c.x i; bottom = max_same c.y i }
grown-twice c (Some b) i = record {
  left = min_again c.x b.left i;
  top = min_again c.y b.top i;
  right = max_again c.x b.right i;
  bottom = max_again c.y b.bottom i;
}

grown-swap : (c d : Cell) (b : Option Bounds) → grown c (Some (grown d b)) ≡ grown d (Some (grown c b))
grown-swap c d None = widened-pair c d
grown-swap c d (Some b) = widened-swap c d b

-- if a cell is put into a list, the box of the list is widened to contain the cell
box_of-put : (c : Cell) (ds : List Cell) → box_of (put c ds) ≡ Some (grown c (box_of ds))
box_of-put c [] = refl
box_of-put c (d ∷ ds) = go (cell_cmp c d) refl (box_of-put c ds)
  where
    go : (r : Ordering) → cell_cmp c d ≡ r → box_of (put c ds) ≡ Some (grown c (box_of ds))
        → box_of (match_ordering r (c ∷ d ∷ ds) (d ∷ ds) (d ∷ put c ds)) ≡ Some (grown c (Some (grown d (box_of ds))))
    go Less is ih = refl
    go Equal is ih =
        ap Some (sym (subst (λ (x : Cell). grown x (Some (grown d (box_of ds))) ≡ grown d (box_of ds)) (sym (cell_cmp-same c d is))
        (grown-twice d (box_of ds))))
    go Greater is ih = ap (λ (b : Option Bounds). Some (grown d b)) ih ∙ ap Some (grown-swap d c (box_of ds))

-- the set of a list has the box of the list
pub box_of-set_of : (cs : List Cell) → box_of (set_of cs) ≡ box_of cs
box_of-set_of [] = refl
box_of-set_of (c ∷ cs) = box_of-put c (set_of cs) ∙ ap (λ (b : Option Bounds). Some (grown c b)) (box_of-set_of cs)

-- ---- moved sets

put-moved : (dx dy : ℤ) (c : Cell) (ds : List Cell) → put (moved_by dx dy c) (shifted dx dy ds) ≡ shifted dx dy (put c ds)
put-moved dx dy c [] = refl
put-moved dx dy c (d ∷ ds) = ap
    (λ (r : Ordering). match_ordering r (moved_by dx dy c ∷ shifted dx dy (d ∷ ds)) (shifted dx dy (d ∷ ds))
    (moved_by dx dy d ∷ put (moved_by dx dy c) (shifted dx dy ds))) (cell_cmp-moved dx dy c d) ∙ go (cell_cmp c d) (put-moved dx dy c ds)
  where
    go : (r : Ordering) → put (moved_by dx dy c) (shifted dx dy ds) ≡ shifted dx dy (put c ds)
        → match_ordering r (moved_by dx dy c ∷ shifted dx dy (d ∷ ds)) (shifted dx dy (d ∷ ds))
        (moved_by dx dy d ∷ put (moved_by dx dy c) (shifted dx dy ds)) ≡ shifted dx dy (match_ordering r (c ∷ d ∷ ds) (d ∷ ds) (d ∷ put c ds))
    go Less ih = refl
    go Equal ih = refl
    go Greater ih = ap (λ (es : List Cell). moved_by dx dy d ∷ es) ih

-- the set of moved cells is the moved set
pub set_of-moved : (dx dy : ℤ) (cs : List Cell) → set_of (shifted dx dy cs) ≡ shifted dx dy (set_of cs)
set_of-moved dx dy [] = refl
set_of-moved dx dy (c ∷ cs) = ap (put (moved_by dx dy c)) (set_of-moved dx dy cs) ∙ put-moved dx dy c (set_of cs)

-- all cells of the set of a list pass a test exactly if all cells of the list do
pub list_all-set_of : (p : Cell → Bool) (cs : List Cell) → list_all p (set_of cs) ≡ list_all p cs
list_all-set_of p cs = both_true (list_all p (set_of cs)) (list_all p cs)
    (λ h. has-list_all p cs (λ c e. list_all-has p (set_of cs) h c (has-set_of cs c ∙ e)))
    (λ h. has-list_all p (set_of cs) (λ c e. list_all-has p cs h c (sym (has-set_of cs c) ∙ e)))

landed-map : (o : Orientation) (b : Bounds) (cs : List Cell)
    → map (landed (corner_transform o (Some b))) cs ≡ shifted (neg_ℤ b.left) (neg_ℤ b.top) (map (turned_cell o) cs)
landed-map o b [] = refl
landed-map o b (c ∷ cs) = ap (λ (ds : List Cell). landed (corner_transform o (Some b)) c ∷ ds) (landed-map o b cs)

-- if the images of the cells have a box, the corner transform for this box maps the cells to the image at the corner
pub landed-turned : (o : Orientation) (cs : List Cell) (b : Bounds) → box_of (map (turned_cell o) cs) ≡ Some b
    → set_of (map (landed (corner_transform o (Some b))) cs) ≡ turned o cs
unfolding turned image
landed-turned o cs b e =
    ap set_of (landed-map o b cs)
    ∙ set_of-moved (neg_ℤ b.left) (neg_ℤ b.top) (map (turned_cell o) cs)
    ∙ sym (ap (λ (box : Option Bounds). cornered box (set_of (map (turned_cell o) cs))) (box_of-set_of (map (turned_cell o) cs) ∙ e))

pub landed-plane : (o : Orientation) (cs : List Cell) (b : Bounds) → box_of (map (turned_cell o) cs) ≡ Some b
    → list_all on_plane (map (landed (corner_transform o (Some b))) cs) ≡ list_all on_plane (turned o cs)
landed-plane o cs b e = sym (list_all-set_of on_plane (map (landed (corner_transform o (Some b))) cs)) ∙ ap (list_all on_plane) (landed-turned o cs b e)

pub turned-empty : (o : Orientation) (cs : List Cell) → box_of (map (turned_cell o) cs) ≡ None → turned o cs ≡ []
unfolding turned image
turned-empty o [] e = refl
turned-empty o (c ∷ cs) e = absurd cc

pub is_pattern-turned : (o : Orientation) (cs : List Cell) → list_all on_plane (turned o cs) ≡ true → IsPattern (turned o cs)
unfolding turned image
is_pattern-turned o cs on = record { in_order = ordered (box_of (image o cs)); on_plane = on }
  where
    ordered : (b : Option Bounds) → InOrder (cornered b (image o cs))
    ordered None = in_order-nil
    ordered (Some b) = in_order-shifted (neg_ℤ b.left) (neg_ℤ b.top) (image o cs) (in_order-set_of (map (turned_cell o) cs))

-- ---- images of the plane

neg_size : (a : ℤ) → unsigned_abs (neg_ℤ a) ≡ unsigned_abs a
neg_size a = omega (arith, ints)

-- the image of a cell of the plane is on the plane
on_plane-turned : (o : Orientation) (c : Cell) → on_plane c ≡ true → on_plane (turned_cell o c) ≡ true
unfolding on_plane
on_plane-turned o c h = go o (and_parts (leb (unsigned_abs c.x) plane_bound) (leb (unsigned_abs c.y) plane_bound) h)
  where
    both : (a b m n : ℕ) → a ≡ m → b ≡ n → (leb m plane_bound ≡ true) → (leb n plane_bound ≡ true) → (leb a plane_bound && leb b plane_bound) ≡ true
    both a b m n p q u v = rw (p, q, u, v) refl

    go : (o : Orientation) → (leb (unsigned_abs c.x) plane_bound ≡ true) × (leb (unsigned_abs c.y) plane_bound ≡ true)
        → (leb (unsigned_abs (turned_cell o c).x) plane_bound && leb (unsigned_abs (turned_cell o c).y) plane_bound) ≡ true
    go Same (u, v) = both _ _ _ _ refl refl u v
    go Quarter (u, v) = both _ _ _ _ (neg_size c.y) refl v u
    go Half (u, v) = both _ _ _ _ (neg_size c.x) (neg_size c.y) u v
    go ThreeQuarter (u, v) = both _ _ _ _ refl (neg_size c.x) v u
    go Mirror (u, v) = both _ _ _ _ (neg_size c.x) refl u v
    go Flip (u, v) = both _ _ _ _ refl (neg_size c.y) u v
    go Diagonal (u, v) = both _ _ _ _ refl refl v u
    go AntiDiagonal (u, v) = both _ _ _ _ (neg_size c.y) (neg_size c.x) v u

pub images_on_plane : (o : Orientation) (cs : List Cell) → list_all on_plane cs ≡ true → list_all on_plane (map (turned_cell o) cs) ≡ true
images_on_plane o [] h = refl
images_on_plane o (c ∷ cs) h =
    let parts = and_parts (on_plane c) (list_all on_plane cs) h in
    and_from (on_plane (turned_cell o c)) (list_all on_plane (map (turned_cell o) cs)) (on_plane-turned o c parts.0) (images_on_plane o cs parts.1)

-- if all cells of a list are on the plane, the left and the top of their box are within `plane_bound`
pub corner_small : (cs : List Cell) (b : Bounds) → box_of cs ≡ Some b → list_all on_plane cs ≡ true
    → (unsigned_abs b.left ≤ plane_bound) × (unsigned_abs b.top ≤ plane_bound)
unfolding on_plane
corner_small cs b e on =
    let least : IsLeastBox cs b = rw e at (box_of-least cs) in (
      side (λ c. c.x) b.left (λ c h. leb-true (unsigned_abs c.x) plane_bound
          (and_parts (leb (unsigned_abs c.x) plane_bound) (leb (unsigned_abs c.y) plane_bound) h).0) least.left,
      side (λ c. c.y) b.top (λ c h. leb-true (unsigned_abs c.y) plane_bound
          (and_parts (leb (unsigned_abs c.x) plane_bound) (leb (unsigned_abs c.y) plane_bound) h).1) least.top,
    )
  where
    side : (f : Cell → ℤ) (v : ℤ) → ((c : Cell) → on_plane c ≡ true → unsigned_abs (f c) ≤ plane_bound) → Any (λ c. f c ≡ v) cs → unsigned_abs v ≤ plane_bound
    side f v small (k, x, low, at, h) =
        subst (λ (a : ℤ). unsigned_abs a ≤ plane_bound) h (small x (subst (λ (c : Cell). on_plane c ≡ true) at (all_at on_plane cs k x low on)))

pub image_corner_small : (o : Orientation) (cs : List Cell) (b : Bounds) → box_of (map (turned_cell o) cs) ≡ Some b → list_all on_plane cs ≡ true
    → (unsigned_abs b.left ≤ plane_bound) × (unsigned_abs b.top ≤ plane_bound)
image_corner_small o cs b e on = corner_small (map (turned_cell o) cs) b e (images_on_plane o cs on)

-- ---- placing a pattern at the corner

no_cells : (o : Orientation) (cs : List Cell) → box_of (map (turned_cell o) cs) ≡ None → cs ≡ []
no_cells o [] e = refl
no_cells o (c ∷ cs) e = absurd cc

-- the set of the cells placed by the corner transform is the image at the corner
pub placed-turned : (o : Orientation) (cs : List Cell) → set_of (map (landed (corner_transform o (box_of (map (turned_cell o) cs)))) cs) ≡ turned o cs
placed-turned o cs = go (box_of (map (turned_cell o) cs)) refl
  where
    go : (b : Option Bounds) → box_of (map (turned_cell o) cs) ≡ b → set_of (map (landed (corner_transform o b)) cs) ≡ turned o cs
    go None e = ap (λ (ds : List Cell). set_of (map (landed (corner_transform o None)) ds)) (no_cells o cs e) ∙ sym (turned-empty o cs e)
    go (Some b) e = landed-turned o cs b e

pub placed-plane : (o : Orientation) (cs : List Cell)
    → list_all on_plane (map (landed (corner_transform o (box_of (map (turned_cell o) cs)))) cs) ≡ list_all on_plane (turned o cs)
placed-plane o cs = go (box_of (map (turned_cell o) cs)) refl
  where
    go : (b : Option Bounds) → box_of (map (turned_cell o) cs) ≡ b → list_all on_plane (map (landed (corner_transform o b)) cs) ≡ list_all on_plane (turned o cs)
    go None e = ap (λ (ds : List Cell). list_all on_plane (map (landed (corner_transform o None)) ds)) (no_cells o cs e)
        ∙ ap (list_all on_plane) (sym (turned-empty o cs e))
    go (Some b) e = landed-plane o cs b e

-- ---- whether the image lies on the plane

all_images : (p : Cell → Bool) (f : Cell → Cell) (cs : List Cell) → ((i : ℕ) (d : Cell) → i < length cs → p (f (get_or cs i d)) ≡ true)
    → list_all p (map f cs) ≡ true
all_images p f [] h = refl
all_images p f (c ∷ cs) h =
    and_from (p (f c)) (list_all p (map f cs)) (h 0 c (omega arith)) (all_images p f cs (λ i d low. h (suc i) d (omega arith)))

moved_to : (a left right : ℤ) (n : ℕ) → left ≤ℤ a → a ≤ℤ right → unsigned_abs (right -ℤ left) ≤ n → unsigned_abs (a +ℤ neg_ℤ left) ≤ n
moved_to a left right n low high h = omega (arith, ints)

moved_from : (right left : ℤ) (n : ℕ) → unsigned_abs (right +ℤ neg_ℤ left) ≤ n → unsigned_abs (right -ℤ left) ≤ n
moved_from right left n h = omega (arith, ints)

-- cells moved to the corner are on the plane exactly if opposite sides of their box are at most `plane_bound` apart
box_on_plane : (cs : List Cell) (b : Bounds) → IsLeastBox cs b
    → leb (max (unsigned_abs (b.right -ℤ b.left)) (unsigned_abs (b.bottom -ℤ b.top))) plane_bound
    ≡ list_all on_plane (shifted (neg_ℤ b.left) (neg_ℤ b.top) cs)
unfolding on_plane
box_on_plane cs b least = both_true
    (leb (max (unsigned_abs (b.right -ℤ b.left)) (unsigned_abs (b.bottom -ℤ b.top))) plane_bound)
    (list_all on_plane (shifted (neg_ℤ b.left) (neg_ℤ b.top) cs))
    (λ h. all_images on_plane (moved_by (neg_ℤ b.left) (neg_ℤ b.top)) cs (λ i d low. inside h (get_or cs i d) (least.within i d low)))
    (λ h. le-leb _ plane_bound (both (moved_from b.right b.left plane_bound (across h least.right)) (moved_from b.bottom b.top plane_bound (down h least.bottom))))
  where
    both : {m n : ℕ} → m ≤ plane_bound → n ≤ plane_bound → max m n ≤ plane_bound
    both p q = omega (arith, p, q)

    inside : leb (max (unsigned_abs (b.right -ℤ b.left)) (unsigned_abs (b.bottom -ℤ b.top))) plane_bound ≡ true → (c : Cell) → IsWithin b c
        → on_plane (moved_by (neg_ℤ b.left) (neg_ℤ b.top) c) ≡ true
    inside h c w =
        let most = leb-true (max (unsigned_abs (b.right -ℤ b.left)) (unsigned_abs (b.bottom -ℤ b.top))) plane_bound h in
        and_from (leb (unsigned_abs (c.x +ℤ neg_ℤ b.left)) plane_bound) (leb (unsigned_abs (c.y +ℤ neg_ℤ b.top)) plane_bound)
        (le-leb (unsigned_abs (c.x +ℤ neg_ℤ b.left)) plane_bound (moved_to c.x b.left b.right plane_bound w.left w.right (omega arith)))
        (le-leb (unsigned_abs (c.y +ℤ neg_ℤ b.top)) plane_bound (moved_to c.y b.top b.bottom plane_bound w.top w.bottom (omega arith)))

    parts : (c : Cell) → on_plane (moved_by (neg_ℤ b.left) (neg_ℤ b.top) c) ≡ true
        → (leb (unsigned_abs (c.x +ℤ neg_ℤ b.left)) plane_bound ≡ true) × (leb (unsigned_abs (c.y +ℤ neg_ℤ b.top)) plane_bound ≡ true)
    parts c e = and_parts (leb (unsigned_abs (c.x +ℤ neg_ℤ b.left)) plane_bound) (leb (unsigned_abs (c.y +ℤ neg_ℤ b.top)) plane_bound) e

    across : list_all on_plane (shifted (neg_ℤ b.left) (neg_ℤ b.top) cs) ≡ true → Any (λ c. c.x ≡ b.right) cs
        → unsigned_abs (b.right +ℤ neg_ℤ b.left) ≤ plane_bound
    across h (k, x, low, at, is) =
        let on = subst (λ (c : Cell). on_plane (moved_by (neg_ℤ b.left) (neg_ℤ b.top) c) ≡ true) at
        (all_images_at on_plane (moved_by (neg_ℤ b.left) (neg_ℤ b.top)) cs k x low h) in
        subst (λ (a : ℤ). unsigned_abs (a +ℤ neg_ℤ b.left) ≤ plane_bound) is (leb-true (unsigned_abs (x.x +ℤ neg_ℤ b.left)) plane_bound (parts x on).0)

    down : list_all on_plane (shifted (neg_ℤ b.left) (neg_ℤ b.top) cs) ≡ true → Any (λ c. c.y ≡ b.bottom) cs
        → unsigned_abs (b.bottom +ℤ neg_ℤ b.top) ≤ plane_bound
    down h (k, x, low, at, is) =
        let on = subst (λ (c : Cell). on_plane (moved_by (neg_ℤ b.left) (neg_ℤ b.top) c) ≡ true) at
        (all_images_at on_plane (moved_by (neg_ℤ b.left) (neg_ℤ b.top)) cs k x low h) in
        subst (λ (a : ℤ). unsigned_abs (a +ℤ neg_ℤ b.top) ≤ plane_bound) is (leb-true (unsigned_abs (x.y +ℤ neg_ℤ b.top)) plane_bound (parts x on).1)

pub turned_on_plane : (o : Orientation) (cs : List Cell) (b : Bounds) → box_of (map (turned_cell o) cs) ≡ Some b
    → leb (max (unsigned_abs (b.right -ℤ b.left)) (unsigned_abs (b.bottom -ℤ b.top))) plane_bound ≡ list_all on_plane (turned o cs)
turned_on_plane o cs b e =
    let least : IsLeastBox (map (turned_cell o) cs) b = rw e at (box_of-least (map (turned_cell o) cs)) in
    box_on_plane (map (turned_cell o) cs) b least ∙ ap (list_all on_plane) (sym (landed-map o b cs)) ∙ landed-plane o cs b e

pub nothing_on_plane : (o : Orientation) (cs : List Cell) → box_of (map (turned_cell o) cs) ≡ None → true ≡ list_all on_plane (turned o cs)
nothing_on_plane o cs e = sym (ap (list_all on_plane) (turned-empty o cs e))
