-- The orientations are the symmetry group of the square. A pattern and its translates have the same image, if the image
-- is moved to the corner.
use Rattle.std.proofs.Common.{◌≡◌, ℤ, pos, cond, ◌+ℤ◌, neg_ℤ, Bool, true, false, ◌||◌, List, [], ◌∷◌}
use Rattle.std.proofs.Common.{arith, refl, ap, ◌∙◌, sym, subst, inl, inr, ◌⊎◌, map, Option, Some, None}
use Rattle.std.specs.Int.{int_min, int_max}
use Rattle.std.specs.Cmp.{both_ways as both_true}
use Rattle.std.proofs.lemmas.Int.{ints, clamps}
use Rattle.std.proofs.lemmas.Bool.{false≢true}
use Rattle.plane_core.specs.declared.plane.bounds.Bounds.{Bounds}
use Rattle.plane_core.specs.declared.plane.cell.Cell.{Cell}
use Rattle.plane_core.specs.declared.plane.orientation.Orientation.{Orientation}
use Rattle.plane_core.specs.declared.plane.orientation.Orientation.TheVariants.{Same, Quarter, Half, ThreeQuarter, Mirror, Flip, Diagonal, AntiDiagonal}
use Rattle.plane_core.specs.plane.Bounds.{box_of, grown, shifted, at_corner, cornered}
use Rattle.plane_core.specs.plane.Cells.{cell_at, same_cell, moved_by, has, set_of}
use Rattle.plane_core.specs.plane.Orientations.{orientations, turned_cell, image, turned}
use Rattle.plane_core.specs.plane.OrientationLaws.{quarter_after, mirror_after, product, OrientationsDiffer}
use Rattle.plane_core.specs.plane.OrientationLaws.{ProductAssociates, SameIsIdentity, TurningTwice, TurningBack, TurningMoved}
use Rattle.plane_core.proofs.lemmas.plane.SetLemmas.{same_lists, in_order-set_of, has-set_of, has-head, has-cases, or_right}
use Rattle.plane_core.proofs.lemmas.plane.TurnLemmas.{set_of-moved}

-- ---- images of lists with the same members

or_left : (a b : Bool) → a ≡ true → (a || b) ≡ true
or_left true b e = refl
or_left false b e = absurd (false≢true e)

pub has-map : (f : Cell → Cell) (cs : List Cell) (c : Cell) → has cs c ≡ true → has (map f cs) (f c) ≡ true
has-map f [] c h = absurd (false≢true h)
has-map f (d ∷ ds) c h = elim (has-cases d ds c h) [
  | inl same ↦ subst (λ (x : Cell). has (f d ∷ map f ds) (f x) ≡ true) (sym same) (has-head (f d) (map f ds))
  | inr more ↦ or_right (same_cell (f c) (f d)) (has (map f ds) (f c)) (has-map f ds c more)
]

-- a member of an image is the image of a member
pub has-map_from : (f : Cell → Cell) (cs : List Cell) (c : Cell) → has (map f cs) c ≡ true → (d : Cell) × (has cs d ≡ true) × (c ≡ f d)
has-map_from f [] c h = absurd (false≢true h)
has-map_from f (d ∷ ds) c h = go (has-cases (f d) (map f ds) c h) (has-map_from f ds c)
  where
    go : (c ≡ f d) ⊎ (has (map f ds) c ≡ true) → (has (map f ds) c ≡ true → (e : Cell) × (has ds e ≡ true) × (c ≡ f e))
        → (e : Cell) × (has (d ∷ ds) e ≡ true) × (c ≡ f e)
    go (inl same) ih = (d, has-head d ds, same)
    go (inr more) ih = let found = ih more in (found.0, or_right (same_cell found.0 d) (has ds found.0) found.1, found.2)

-- lists with the same members have images with the same members
has-map_alike : (f : Cell → Cell) (cs ds : List Cell) → ((c : Cell) → has cs c ≡ has ds c) → (c : Cell) → has (map f cs) c ≡ has (map f ds) c
has-map_alike f cs ds same c = both_true (has (map f cs) c) (has (map f ds) c) (over cs ds same) (over ds cs (λ e. sym (same e)))
  where
    over : (xs bs : List Cell) → ((e : Cell) → has xs e ≡ has bs e) → has (map f xs) c ≡ true → has (map f bs) c ≡ true
    over xs bs alike h = let d = has-map_from f xs c h in subst (λ (x : Cell). has (map f bs) x ≡ true) (sym d.2) (has-map f bs d.0 (sym (alike d.0) ∙ d.1))

-- sets of lists with the same members are equal
pub set_of-alike : (cs ds : List Cell) → ((c : Cell) → has cs c ≡ has ds c) → set_of cs ≡ set_of ds
set_of-alike cs ds same = same_lists (set_of cs) (set_of ds) (in_order-set_of cs) (in_order-set_of ds) (λ c. has-set_of cs c ∙ same c ∙ sym (has-set_of ds c))

-- the image of a list and the image of its set have the same set
pub set_of-map : (f : Cell → Cell) (cs : List Cell) → set_of (map f (set_of cs)) ≡ set_of (map f cs)
set_of-map f cs = set_of-alike (map f (set_of cs)) (map f cs) (has-map_alike f (set_of cs) cs (has-set_of cs))

map-map : (f g : Cell → Cell) (h : Cell → Cell) → ((c : Cell) → f (g c) ≡ h c) → (cs : List Cell) → map f (map g cs) ≡ map h cs
map-map f g h e [] = refl
map-map f g h e (c ∷ cs) = λ i. e c i ∷ map-map f g h e cs i

-- ---- the group

back : (a : ℤ) → neg_ℤ (neg_ℤ a) ≡ a
back a = omega (arith, ints)

quarter-cell : (a : Orientation) (c : Cell) → turned_cell Quarter (turned_cell a c) ≡ turned_cell (quarter_after a) c
quarter-cell Same c = refl
quarter-cell Quarter c = refl
quarter-cell Half c = λ i. cell_at (back c.y i) (neg_ℤ c.x)
quarter-cell ThreeQuarter c = λ i. cell_at (back c.x i) c.y
quarter-cell Mirror c = refl
quarter-cell Flip c = λ i. cell_at (back c.y i) c.x
quarter-cell Diagonal c = refl
quarter-cell AntiDiagonal c = λ i. cell_at (back c.x i) (neg_ℤ c.y)

mirror-cell : (a : Orientation) (c : Cell) → turned_cell Mirror (turned_cell a c) ≡ turned_cell (mirror_after a) c
mirror-cell Same c = refl
mirror-cell Quarter c = λ i. cell_at (back c.y i) c.x
mirror-cell Half c = λ i. cell_at (back c.x i) (neg_ℤ c.y)
mirror-cell ThreeQuarter c = refl
mirror-cell Mirror c = λ i. cell_at (back c.x i) c.y
mirror-cell Flip c = refl
mirror-cell Diagonal c = refl
mirror-cell AntiDiagonal c = λ i. cell_at (back c.y i) (neg_ℤ c.x)

-- turning a cell by `a` and then twice by `Quarter` is turning it once by `quarter_after (quarter_after a)`
twice : (a : Orientation) (c : Cell) → turned_cell Quarter (turned_cell Quarter (turned_cell a c)) ≡ turned_cell (quarter_after (quarter_after a)) c
twice a c = ap (turned_cell Quarter) (quarter-cell a c) ∙ quarter-cell (quarter_after a) c

thrice : (a : Orientation) (c : Cell)
    → turned_cell Quarter (turned_cell Quarter (turned_cell Quarter (turned_cell a c))) ≡ turned_cell (quarter_after (quarter_after (quarter_after a))) c
thrice a c = ap (turned_cell Quarter) (twice a c) ∙ quarter-cell (quarter_after (quarter_after a)) c

-- turning a cell by `a` and then by `b` is turning it by their product
pub product-cell : (a b : Orientation) (c : Cell) → turned_cell b (turned_cell a c) ≡ turned_cell (product a b) c
product-cell a Same c = refl
product-cell a Quarter c = quarter-cell a c
product-cell a Half c = twice a c
product-cell a ThreeQuarter c = (λ i. cell_at (sym (back (turned_cell a c).y) i) (neg_ℤ (turned_cell a c).x)) ∙ thrice a c
product-cell a Mirror c = mirror-cell a c
product-cell a AntiDiagonal c = ap (turned_cell Quarter) (mirror-cell a c) ∙ quarter-cell (mirror_after a) c
product-cell a Flip c = (λ i. cell_at (sym (back (turned_cell a c).x) i) (neg_ℤ (turned_cell a c).y))
    ∙ ap (λ (d : Cell). turned_cell Quarter (turned_cell Quarter d)) (mirror-cell a c) ∙ twice (mirror_after a) c
product-cell a Diagonal c = (λ i. cell_at (sym (back (turned_cell a c).y) i) (sym (back (turned_cell a c).x) i))
    ∙ ap (λ (d : Cell). turned_cell Quarter (turned_cell Quarter (turned_cell Quarter d))) (mirror-cell a c) ∙ thrice (mirror_after a) c

-- a cell whose eight images all differ
probe : Cell
probe = cell_at (pos 1) (pos 2)

seen_among : List Orientation → Cell → Orientation
seen_among [] c = Same
seen_among (o ∷ os) c = cond (same_cell c (turned_cell o probe)) o (seen_among os c)

seen : Cell → Orientation
seen c = seen_among orientations c

seen-turned : (o : Orientation) → seen (turned_cell o probe) ≡ o
unfolding seen seen_among probe
seen-turned Same = refl
seen-turned Quarter = refl
seen-turned Half = refl
seen-turned ThreeQuarter = refl
seen-turned Mirror = refl
seen-turned Flip = refl
seen-turned Diagonal = refl
seen-turned AntiDiagonal = refl

one_probe : (a b : Orientation) → turned_cell a probe ≡ turned_cell b probe → a ≡ b
one_probe a b same = sym (seen-turned a) ∙ ap seen same ∙ seen-turned b

pub orientations_differ : OrientationsDiffer
orientations_differ a b same = one_probe a b (same probe)

pub product_associates : ProductAssociates
product_associates a b c = one_probe (product (product a b) c) (product a (product b c)) (
    sym (product-cell (product a b) c probe)
    ∙ ap (turned_cell c) (sym (product-cell a b probe))
    ∙ product-cell b c (turned_cell a probe)
    ∙ product-cell a (product b c) probe
    )

pub same_is_identity : SameIsIdentity
same_is_identity Same = (refl, refl)
same_is_identity Quarter = (refl, refl)
same_is_identity Half = (refl, refl)
same_is_identity ThreeQuarter = (refl, refl)
same_is_identity Mirror = (refl, refl)
same_is_identity Flip = (refl, refl)
same_is_identity Diagonal = (refl, refl)
same_is_identity AntiDiagonal = (refl, refl)

-- the image under `b` of the image under `a` is the image under the product of `a` and `b`
pub image-image : (a b : Orientation) (cs : List Cell) → image b (image a cs) ≡ image (product a b) cs
unfolding image
image-image a b cs = set_of-map (turned_cell b) (map (turned_cell a) cs)
    ∙ ap set_of (map-map (turned_cell b) (turned_cell a) (turned_cell (product a b)) (product-cell a b) cs)

-- ---- at the corner

min-moved : (a b v : ℤ) → int_min (a +ℤ v) (b +ℤ v) ≡ int_min a b +ℤ v
min-moved a b v = omega (arith, ints, clamps)

max-moved : (a b v : ℤ) → int_max (a +ℤ v) (b +ℤ v) ≡ int_max a b +ℤ v
max-moved a b v = omega (arith, ints, clamps)

abbrev moved_box : ℤ → ℤ → Bounds → Bounds
moved_box dx dy b = record { left = b.left +ℤ dx; top = b.top +ℤ dy; right = b.right +ℤ dx; bottom = b.bottom +ℤ dy }

abbrev moved_box_of : ℤ → ℤ → Option Bounds → Option Bounds
moved_box_of dx dy None = None
moved_box_of dx dy (Some b) = Some (moved_box dx dy b)

grown-moved : (dx dy : ℤ) (c : Cell) (b : Option Bounds) → grown (moved_by dx dy c) (moved_box_of dx dy b) ≡ moved_box dx dy (grown c b)
grown-moved dx dy c None = refl
grown-moved dx dy c (Some b) =
    λ i. record { left = min-moved c.x b.left dx i; top = min-moved c.y b.top dy i; right = max-moved c.x b.right dx i; bottom = max-moved c.y b.bottom dy i }

box_of-shifted : (dx dy : ℤ) (cs : List Cell) → box_of (shifted dx dy cs) ≡ moved_box_of dx dy (box_of cs)
box_of-shifted dx dy [] = refl
box_of-shifted dx dy (c ∷ cs) = ap (λ (b : Option Bounds). Some (grown (moved_by dx dy c) b)) (box_of-shifted dx dy cs)
    ∙ ap Some (grown-moved dx dy c (box_of cs))

undone : (a v l : ℤ) → (a +ℤ v) +ℤ neg_ℤ (l +ℤ v) ≡ a +ℤ neg_ℤ l
undone a v l = omega (arith, ints)

-- a pattern and its translate are equal once they are moved to the corner
pub at_corner-shifted : (dx dy : ℤ) (cs : List Cell) → at_corner (shifted dx dy cs) ≡ at_corner cs
at_corner-shifted dx dy cs = ap (λ (b : Option Bounds). cornered b (shifted dx dy cs)) (box_of-shifted dx dy cs) ∙ go (box_of cs)
  where
    go : (b : Option Bounds) → cornered (moved_box_of dx dy b) (shifted dx dy cs) ≡ cornered b cs
    go None = refl
    go (Some b) = map-map (moved_by (neg_ℤ (b.left +ℤ dx)) (neg_ℤ (b.top +ℤ dy))) (moved_by dx dy) (moved_by (neg_ℤ b.left) (neg_ℤ b.top))
        (λ c i. cell_at (undone c.x dx b.left i) (undone c.y dy b.top i)) cs

neg-sum : (a b : ℤ) → neg_ℤ (a +ℤ b) ≡ neg_ℤ a +ℤ neg_ℤ b
neg-sum a b = omega (arith, ints)

-- turning a moved cell gives the turned cell, moved by the turned displacement
turned-moved : (o : Orientation) (dx dy : ℤ) (c : Cell)
    → turned_cell o (moved_by dx dy c) ≡ moved_by (turned_cell o (cell_at dx dy)).x (turned_cell o (cell_at dx dy)).y (turned_cell o c)
turned-moved Same dx dy c = refl
turned-moved Quarter dx dy c = λ i. cell_at (neg-sum c.y dy i) (c.x +ℤ dx)
turned-moved Half dx dy c = λ i. cell_at (neg-sum c.x dx i) (neg-sum c.y dy i)
turned-moved ThreeQuarter dx dy c = λ i. cell_at (c.y +ℤ dy) (neg-sum c.x dx i)
turned-moved Mirror dx dy c = λ i. cell_at (neg-sum c.x dx i) (c.y +ℤ dy)
turned-moved Flip dx dy c = λ i. cell_at (c.x +ℤ dx) (neg-sum c.y dy i)
turned-moved Diagonal dx dy c = refl
turned-moved AntiDiagonal dx dy c = λ i. cell_at (neg-sum c.y dy i) (neg-sum c.x dx i)

maps-agree : (f g h k : Cell → Cell) → ((c : Cell) → f (g c) ≡ h (k c)) → (cs : List Cell) → map f (map g cs) ≡ map h (map k cs)
maps-agree f g h k e [] = refl
maps-agree f g h k e (c ∷ cs) = λ i. e c i ∷ maps-agree f g h k e cs i

-- the image of a moved pattern is the image, moved by the turned displacement
pub image-shifted : (o : Orientation) (dx dy : ℤ) (cs : List Cell)
    → image o (shifted dx dy cs) ≡ shifted (turned_cell o (cell_at dx dy)).x (turned_cell o (cell_at dx dy)).y (image o cs)
unfolding image
image-shifted o dx dy cs =
    ap set_of (maps-agree (turned_cell o) (moved_by dx dy) (moved_by (turned_cell o (cell_at dx dy)).x (turned_cell o (cell_at dx dy)).y)
    (turned_cell o) (turned-moved o dx dy) cs)
    ∙ set_of-moved (turned_cell o (cell_at dx dy)).x (turned_cell o (cell_at dx dy)).y (map (turned_cell o) cs)

-- a pattern has the same turned image if it is first moved to the corner
turned-at_corner : (o : Orientation) (cs : List Cell) → turned o (at_corner cs) ≡ turned o cs
unfolding turned
turned-at_corner o [] = refl
turned-at_corner o (c ∷ cs) =
    let b = grown c (box_of cs) in
    ap at_corner (image-shifted o (neg_ℤ b.left) (neg_ℤ b.top) (c ∷ cs)) ∙ at_corner-shifted _ _ (image o (c ∷ cs))

-- turning by one orientation and then by another is turning by their product
pub turned-turned : (a b : Orientation) (cs : List Cell) → turned b (turned a cs) ≡ turned (product a b) cs
unfolding turned
turned-turned a b cs = turned-at_corner b (image a cs) ∙ ap at_corner (image-image a b cs)

pub turning_twice : TurningTwice
turning_twice = turned-turned

-- the inverse of each orientation
pub turning_back : TurningBack
turning_back Same = (Same, refl, refl)
turning_back Quarter = (ThreeQuarter, refl, refl)
turning_back Half = (Half, refl, refl)
turning_back ThreeQuarter = (Quarter, refl, refl)
turning_back Mirror = (Mirror, refl, refl)
turning_back Flip = (Flip, refl, refl)
turning_back Diagonal = (Diagonal, refl, refl)
turning_back AntiDiagonal = (AntiDiagonal, refl, refl)

pub turning_moved : TurningMoved
unfolding turned
turning_moved a dx dy cs = ap at_corner (image-shifted a dx dy cs) ∙ at_corner-shifted _ _ (image a cs)
