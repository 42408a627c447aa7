-- A pattern that is turned or mirrored keeps its apgcode.
use Rattle.std.proofs.Common.{◌≡◌, ◌∙◌, sym, ap, refl, subst, ℕ, zero, suc, ℤ, pos, neg_ℤ, ◌≤◌, Bool, true, ◌&&◌, ◌==◌, List, [], ◌∷◌, length}
use Rattle.std.proofs.Common.{map, arith, cond, int_eq, Ordering, Less, Equal, Greater}
use Rattle.std.proofs.lemmas.Int.{ints}
use Rattle.plane_core.proofs.lemmas.plane.NeighbourhoodLemmas.{int_eq-true}
use Rattle.std.specs.Cmp.{both_ways}
use Rattle.std.specs.Ordering.{match_ordering}
use Rattle.plane_core.specs.declared.plane.cell.Cell.{Cell}
use Rattle.plane_core.specs.declared.plane.orientation.Orientation.{Orientation}
use Rattle.plane_core.specs.declared.plane.orientation.Orientation.TheVariants.{Same, Quarter, Half, ThreeQuarter, Mirror, Flip, Diagonal, AntiDiagonal}
use Rattle.plane_core.specs.plane.Bounds.{at_corner, box_of, grown, shifted}
use Rattle.plane_core.specs.plane.Cells.{InOrder, cell_at, cell_cmp, put, set_of}
use Rattle.plane_core.specs.plane.Generations.{after, next}
use Rattle.plane_core.specs.plane.Orientations.{image, turned, turned_cell}
use Rattle.plane_core.specs.plane.OrientationLaws.{product}
use Rattle.plane_core.specs.plane.Rules.{Numbers}
use Rattle.plane_core.proofs.lemmas.plane.CommuteLemmas.{next-image}
use Rattle.plane_core.proofs.lemmas.plane.GenerationLemmas.{after-none}
use Rattle.plane_core.proofs.lemmas.plane.OrientationLemmas.{image-image, image-shifted, turning_back}
use Rattle.plane_core.proofs.lemmas.plane.SetLemmas.{in_order-set_of}
use Rattle.code_core.specs.declared.apgcode.Kind.{Kind}
use Rattle.code_core.specs.declared.apgcode.Kind.TheVariants.{Still, Oscillator, Ship}
use Rattle.code_core.specs.declared.recurrence.Recurrence.{Recurrence}
use Rattle.code_core.specs.Apgcodes.{code_text}
use Rattle.code_core.specs.Names.{IsCode, IsImageText, kind_of, number_of}
use Rattle.code_core.specs.Recurrences.{Recurs}
use Rattle.code_core.specs.Texts.{text}
use Rattle.code_core.proofs.ImageLemmas.{and_swap, image-same}
use Rattle.code_core.proofs.LeastLemmas.{least_of_same}
use Rattle.code_core.proofs.MovedCodes.{after-suc, codes_moved, in_order-after, number-same}
use Rattle.laws.specs.Codes.{CodesTurned}

pub in_order-image : (o : Orientation) (cells : List Cell) → InOrder (image o cells)
unfolding image
in_order-image o cells = in_order-set_of (map (turned_cell o) cells)

-- an image that is turned back is the pattern
image-back : (o : Orientation) (cells : List Cell) → InOrder cells → image (turning_back o).0 (image o cells) ≡ cells
image-back o cells order = image-image o (turning_back o).0 cells ∙ ap (λ (p : Orientation). image p cells) (turning_back o).1 ∙ image-same cells order

-- the generations of an image are the images of the generations
pub after-image : (o : Orientation) (rule : Numbers) (cells : List Cell) (g : ℕ) → InOrder cells → after rule (image o cells) g ≡ image o (after rule cells g)
after-image o rule cells zero order = after-none rule (image o cells) ∙ ap (image o) (sym (after-none rule cells))
after-image o rule cells (suc g) order =
    after-suc rule (image o cells) g ∙ ap (next rule) (after-image o rule cells g order)
    ∙ next-image o rule (after rule cells g) (in_order-after rule cells g order)
    ∙ ap (image o) (sym (after-suc rule cells g))

-- the recurrence of an image
abbrev turned_recurrence : Orientation → Recurrence → Recurrence
turned_recurrence o r = record { period = r.period; dx = (turned_cell o (cell_at r.dx r.dy)).x; dy = (turned_cell o (cell_at r.dx r.dy)).y }

recurs-image : (o : Orientation) (rule : Numbers) (cells : List Cell) (limit : ℕ) (r : Recurrence) → InOrder cells → Recurs rule cells limit r
    → Recurs rule (image o cells) limit (turned_recurrence o r)
recurs-image o rule cells limit r order h = record {
  some = h.some;
  within = h.within;
  back = after-image o rule cells r.period order ∙ ap (image o) h.back ∙ image-shifted o r.dx r.dy cells;
  least = λ p ex ey some less is.
      let b = (turning_back o).0 in
      let home : after rule cells p ≡ shifted (turned_cell b (cell_at ex ey)).x (turned_cell b (cell_at ex ey)).y cells =
      sym (image-back o (after rule cells p) (in_order-after rule cells p order)) ∙ ap (image b) (sym (after-image o rule cells p order) ∙ is)
      ∙ image-shifted b ex ey (image o cells) ∙ ap (shifted (turned_cell b (cell_at ex ey)).x (turned_cell b (cell_at ex ey)).y) (image-back o cells order) in
      h.least p (turned_cell b (cell_at ex ey)).x (turned_cell b (cell_at ex ey)).y some less home;
}

-- to turn an image is to turn the pattern by the product of both orientations; both results are moved to the corner
turned-image : (a b : Orientation) (cells : List Cell) → turned b (image a cells) ≡ turned (product a b) cells
unfolding turned
turned-image a b cells = ap at_corner (image-image a b cells)

-- a text of a phase of an image is a text of a phase of the pattern
text-image : (o : Orientation) (rule : Numbers) (cells : List Cell) (period : ℕ) (t : List ℕ) → InOrder cells
    → IsImageText rule (image o cells) period t → IsImageText rule cells period t
text-image o rule cells period t order h = record {
  phase = h.phase;
  orientation = product o h.orientation;
  within = h.within;
  is = ap text (sym (turned-image o h.orientation (after rule cells h.phase))
      ∙ ap (turned h.orientation) (sym (after-image o rule cells h.phase order))) ∙ h.is;
}

text-unimage : (o : Orientation) (rule : Numbers) (cells : List Cell) (period : ℕ) (t : List ℕ) → InOrder cells → IsImageText rule cells period t
    → IsImageText rule (image o cells) period t
text-unimage o rule cells period t order h =
    text-image (turning_back o).0 rule (image o cells) period t (in_order-image o cells)
    (subst (λ (S : List Cell). IsImageText rule S period t) (sym (image-back o cells order)) h)

-- putting a cell into a set adds at most one cell
length-put : (c : Cell) (ds : List Cell) → length (put c ds) ≤ suc (length ds)
length-put c [] = omega arith
length-put c (d ∷ ds) = go (cell_cmp c d) (length-put c ds)
  where
    go : (o : Ordering) → length (put c ds) ≤ suc (length ds) → length (match_ordering o (c ∷ d ∷ ds) (d ∷ ds) (d ∷ put c ds)) ≤ suc (suc (length ds))
    go Less ih = omega arith
    go Equal ih = omega arith
    go Greater ih = omega arith

length-set_of : (cs : List Cell) → length (set_of cs) ≤ length cs
length-set_of [] = omega arith
length-set_of (c ∷ cs) = omega (arith, length-put c (set_of cs), length-set_of cs)

no_more : (o : Orientation) (cells : List Cell) → length (image o cells) ≤ length cells
unfolding image
no_more o cells = omega (arith, length-set_of (map (turned_cell o) cells), map_length (turned_cell o) cells)
  where
    map_length : (f : Cell → Cell) (cs : List Cell) → length (map f cs) ≡ length cs
    map_length f [] = refl
    map_length f (c ∷ cs) = ap suc (map_length f cs)

-- an image has as many cells as the pattern
length-image : (o : Orientation) (cells : List Cell) → InOrder cells → length (image o cells) ≡ length cells
length-image o cells order =
    let back : length (image (turning_back o).0 (image o cells)) ≡ length cells = ap length (image-back o cells order) in
    omega (arith, no_more o cells, no_more (turning_back o).0 (image o cells))

-- a number is 0 if and only if its negation is 0
still-negated : (a : ℤ) → int_eq (neg_ℤ a) (pos 0) ≡ int_eq a (pos 0)
still-negated a = both_ways (int_eq (neg_ℤ a) (pos 0)) (int_eq a (pos 0)) (λ e. back a (int_eq-true (neg_ℤ a) (pos 0) e))
    (λ e. there a (int_eq-true a (pos 0) e))
  where
    back : (a : ℤ) → neg_ℤ a ≡ pos 0 → int_eq a (pos 0) ≡ true
    back a is = let zero_too : pos 0 ≡ a = omega (arith, ints) in subst (λ (b : ℤ). int_eq b (pos 0) ≡ true) zero_too refl

    there : (a : ℤ) → a ≡ pos 0 → int_eq (neg_ℤ a) (pos 0) ≡ true
    there a is = subst (λ (b : ℤ). int_eq (neg_ℤ b) (pos 0) ≡ true) (sym is) refl

-- a turned move is 0 if and only if the move is 0
stays-turned : (o : Orientation) (x y : ℤ) → (int_eq (turned_cell o (cell_at x y)).x (pos 0) && int_eq (turned_cell o (cell_at x y)).y (pos 0)) ≡
    (int_eq x (pos 0) && int_eq y (pos 0))
stays-turned Same x y = refl
stays-turned Quarter x y = ap (λ (b : Bool). b && int_eq x (pos 0)) (still-negated y) ∙ and_swap (int_eq y (pos 0)) (int_eq x (pos 0))
stays-turned Half x y = λ i. still-negated x i && still-negated y i
stays-turned ThreeQuarter x y = ap (λ (b : Bool). int_eq y (pos 0) && b) (still-negated x) ∙ and_swap (int_eq y (pos 0)) (int_eq x (pos 0))
stays-turned Mirror x y = ap (λ (b : Bool). b && int_eq y (pos 0)) (still-negated x)
stays-turned Flip x y = ap (λ (b : Bool). int_eq x (pos 0) && b) (still-negated y)
stays-turned Diagonal x y = and_swap (int_eq y (pos 0)) (int_eq x (pos 0))
stays-turned AntiDiagonal x y = (λ i. still-negated y i && still-negated x i) ∙ and_swap (int_eq y (pos 0)) (int_eq x (pos 0))

-- the number in an apgcode depends on the recurrence only through its period
number-period : (kind : Kind) (S : List Cell) (r q : Recurrence) → r.period ≡ q.period → number_of kind S r ≡ number_of kind S q
number-period Still S r q is = refl
number-period Oscillator S r q is = is
number-period Ship S r q is = is

-- an image is of the pattern's kind
kind-turned : (o : Orientation) (r : Recurrence) → kind_of (turned_recurrence o r) ≡ kind_of r
kind-turned o r = ap (λ (stays : Bool). cond stays (cond (r.period == 1) Still Oscillator) Ship) (stays-turned o r.dx r.dy)

-- an image has the apgcode of the pattern
codes_image : (o : Orientation) (rule : Numbers) (cells : List Cell) (limit : ℕ) (code : List ℕ) → InOrder cells → IsCode rule cells limit code
    → IsCode rule (image o cells) limit code
codes_image o rule cells limit code order h = record {
  recurrence = turned_recurrence o h.recurrence;
  recurs = recurs-image o rule cells limit h.recurrence order h.recurs;
  least = h.least;
  is_least = least_of_same (IsImageText rule cells h.recurrence.period) (IsImageText rule (image o cells) h.recurrence.period) h.least
      (λ t. text-unimage o rule cells h.recurrence.period t order) (λ t. text-image o rule cells h.recurrence.period t order) h.is_least;
  spelled = h.spelled ∙ (λ i. code_text (sym (kind-turned o h.recurrence) i) (number i) h.least);
}
  where
    number : number_of (kind_of h.recurrence) cells h.recurrence ≡ number_of (kind_of (turned_recurrence o h.recurrence)) (image o cells)
        (turned_recurrence o h.recurrence)
    number =
        number-same (kind_of h.recurrence) cells (image o cells) h.recurrence (sym (length-image o cells order))
        ∙ number-period (kind_of h.recurrence) (image o cells) h.recurrence (turned_recurrence o h.recurrence) refl
        ∙ ap (λ (kind : Kind). number_of kind (image o cells) (turned_recurrence o h.recurrence)) (sym (kind-turned o h.recurrence))

-- an image that is moved to the corner has the apgcode of the pattern
pub codes_turned : CodesTurned
unfolding turned
codes_turned o rule cells limit code order h = go (image o cells) refl
  where
    image_code : IsCode rule (image o cells) limit code
    image_code = codes_image o rule cells limit code order h

    go : (T : List Cell) → image o cells ≡ T → IsCode rule (at_corner T) limit code
    go [] is = subst (λ (S : List Cell). IsCode rule S limit code) is image_code
    go (c ∷ cs) is =
        let b = grown c (box_of cs) in
        codes_moved (neg_ℤ b.left) (neg_ℤ b.top) rule (c ∷ cs) limit code (subst InOrder is (in_order-image o cells))
        (subst (λ (S : List Cell). IsCode rule S limit code) is image_code)
