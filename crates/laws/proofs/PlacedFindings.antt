-- A pattern that is moved, turned or mirrored keeps its finding.
use Rattle.std.proofs.Common.{◌≡◌, ◌∙◌, ◌↔◌, ap, sym, refl, subst, ℕ, ℤ, neg_ℤ, ◌+ℤ◌, pos, zero, suc, Bool, true, false, List, []}
use Rattle.std.proofs.Common.{◌∷◌, All, map, get_or, count_by, cond, arith}
use Rattle.std.specs.List.{AllZip}
use Rattle.std.specs.List.Sorted.{IsPermutation}
use Rattle.std.specs.Ordering.{is_lt}
use Rattle.std.proofs.lemmas.Int.{ints}
use Rattle.std.proofs.lemmas.List.Elements.{All-map}
use Rattle.std.proofs.lemmas.List.{get_or-map, length-map}
use Rattle.std.proofs.lemmas.List.Sorted.{All-permutation, IsPermutation-map, IsPermutation-sym, sum_by-IsPermutation}
use Rattle.plane_core.specs.declared.plane.cell.Cell.{Cell}
use Rattle.plane_core.specs.declared.plane.orientation.Orientation.{Orientation}
use Rattle.plane_core.specs.plane.Bounds.{at_corner, box_of, grown, shifted}
use Rattle.plane_core.specs.plane.Cells.{InOrder, cell_at, cell_cmp, moved_by}
use Rattle.plane_core.specs.clusters.Clusters.{AreClusters, Partition}
use Rattle.plane_core.specs.plane.Generations.{after}
use Rattle.plane_core.specs.plane.Orientations.{image, turned, turned_cell}
use Rattle.plane_core.specs.plane.Rules.{Numbers}
use Rattle.plane_core.proofs.lemmas.plane.CellLemmas.{king_distance-moved}
use Rattle.plane_core.proofs.lemmas.plane.CommuteLemmas.{IsRigid, set_of-in_order, turned-keeps}
use Rattle.plane_core.proofs.lemmas.plane.OrientationLemmas.{image-shifted, product-cell, turning_back}
use Rattle.plane_core.proofs.lemmas.plane.TransformLemmas.{in_order-shifted}
use Rattle.plane_core.proofs.lemmas.plane.SetLemmas.{in_order-set_of}
use Rattle.code_core.specs.declared.recurrence.Recurrence.{Recurrence}
use Rattle.code_core.specs.Names.{IsCode}
use Rattle.code_core.specs.Recurrences.{Recurs}
use Rattle.code_core.proofs.MovedCodes.{codes_moved, in_order-after, shifted-back, shifted-swap}
use Rattle.laws.proofs.TurnedCodes.{codes_turned}
use Rattle.survey_core.specs.declared.finding.Finding.{Finding}
use Rattle.survey_core.specs.declared.finding.Finding.TheVariants.{Settled, Unsettled}
use Rattle.laws.specs.Findings.{FindingsMoved, FindingsOfImages, FindingsTurned}
use Rattle.survey_core.specs.Findings.{IsFinding, IsSettled}
use Rattle.survey_core.specs.shapes.ForGood.{ClustersStayForGood, IsCommonPeriod, RecursInPlace}
use Rattle.survey_core.specs.shapes.Objects.{IsMultiple, is_code}
use Rattle.survey_core.proofs.lemmas.rest.ForGoodLemmas.{shifted-none}
use Rattle.survey_core.specs.Profiles.{Settling}
use Rattle.survey_core.specs.rest.Rest.{IsAtRest, KeepApart, RestsAs}
use Rattle.survey_core.specs.shapes.RecurringShapes.{RecursWithin}
use Rattle.laws.proofs.ImageLemmas.{after-image, clusters-image, image-back, image_by, images, images-permute, inverse, partition-image}
use Rattle.laws.proofs.ImageLemmas.{partition-permuted}
use Rattle.laws.proofs.SortedClusters.{first, place, sorted, sorted-permutes}

-- The image of a moved pattern is the pattern's image, moved, and images have the same apgcodes as their patterns.
record KeepsObjects (f : Cell → Cell) : Type 0 where
  moves : (dx dy : ℤ) (cells : List Cell) → InOrder cells
      → (ex : ℤ) × (ey : ℤ) × (image_by f (shifted dx dy cells) ≡ shifted ex ey (image_by f cells))
  codes : (rule : Numbers) (cells : List Cell) (limit : ℕ) (code : List ℕ) → InOrder cells → IsCode rule cells limit code
      → IsCode rule (image_by f cells) limit code

-- ---- clusters with their codes, in another order

abbrev pairs_of : List (List Cell) → List (List ℕ) → List (List Cell × List ℕ)
pairs_of [] codes = []
pairs_of (x ∷ xs) [] = []
pairs_of (x ∷ xs) (y ∷ ys) = (x, y) ∷ pairs_of xs ys

abbrev lefts : List (List Cell × List ℕ) → List (List Cell)
lefts pairs = map (λ pair. pair.0) pairs

abbrev rights : List (List Cell × List ℕ) → List (List ℕ)
rights pairs = map (λ pair. pair.1) pairs

module _ (R : List Cell → List ℕ → Type 0) where
  lefts-pairs : (xs : List (List Cell)) (ys : List (List ℕ)) → AllZip R xs ys → lefts (pairs_of xs ys) ≡ xs
  lefts-pairs [] [] all = refl
  lefts-pairs [] (y ∷ ys) all = absurd all
  lefts-pairs (x ∷ xs) [] all = absurd all
  lefts-pairs (x ∷ xs) (y ∷ ys) all = ap (λ (more : List (List Cell)). x ∷ more) (lefts-pairs xs ys all.1)

  rights-pairs : (xs : List (List Cell)) (ys : List (List ℕ)) → AllZip R xs ys → rights (pairs_of xs ys) ≡ ys
  rights-pairs [] [] all = refl
  rights-pairs [] (y ∷ ys) all = absurd all
  rights-pairs (x ∷ xs) [] all = absurd all
  rights-pairs (x ∷ xs) (y ∷ ys) all = ap (λ (more : List (List ℕ)). y ∷ more) (rights-pairs xs ys all.1)

  all-pairs : (xs : List (List Cell)) (ys : List (List ℕ)) → AllZip R xs ys → All (λ pair. R pair.0 pair.1) (pairs_of xs ys)
  all-pairs [] ys all k d low = absurd (omega arith)
  all-pairs (x ∷ xs) [] all k d low = absurd all
  all-pairs (x ∷ xs) (y ∷ ys) all zero d low = all.0
  all-pairs (x ∷ xs) (y ∷ ys) all (suc k) d low = all-pairs xs ys all.1 k d (omega arith)

  zip-pairs : (pairs : List (List Cell × List ℕ)) → All (λ pair. R pair.0 pair.1) pairs → AllZip R (lefts pairs) (rights pairs)
  zip-pairs [] all = tt
  zip-pairs (pair ∷ pairs) all = (all 0 pair (omega arith), zip-pairs pairs (λ k d low. all (suc k) d (omega arith)))

lefts-sorted : (pairs : List (List Cell × List ℕ)) → lefts (sorted (λ pair. first pair.0) pairs) ≡ sorted first (lefts pairs)
lefts-sorted [] = refl
lefts-sorted (pair ∷ pairs) = lefts-place pair (sorted (λ p. first p.0) pairs) ∙ ap (place first pair.0) (lefts-sorted pairs)
  where
    lefts-place : (pair : List Cell × List ℕ) (pairs : List (List Cell × List ℕ)) → lefts (place (λ p. first p.0) pair pairs) ≡ place first pair.0 (lefts pairs)
    lefts-place pair [] = refl
    lefts-place pair (other ∷ others) = go (is_lt (cell_cmp (first pair.0) (first other.0))) (lefts-place pair others)
      where
        go : (b : Bool) → lefts (place (λ p. first p.0) pair others) ≡ place first pair.0 (lefts others)
            → lefts (cond b (pair ∷ other ∷ others) (other ∷ place (λ p. first p.0) pair others))
            ≡ cond b (pair.0 ∷ other.0 ∷ lefts others) (other.0 ∷ place first pair.0 (lefts others))
        go true ih = refl
        go false ih = ap (λ (more : List (List Cell)). other.0 ∷ more) ih

-- if clusters and their codes are sorted together, by the first cells of the clusters, each code occurs as often as
-- before
sorted_codes : (R : List Cell → List ℕ → Type 0) (xs : List (List Cell)) (ys : List (List ℕ)) → AllZip R xs ys
    → (zs : List (List ℕ)) × AllZip R (sorted first xs) zs × ((p : List ℕ → Bool) → count_by p zs ≡ count_by p ys)
sorted_codes R xs ys all = (
  rights there,
  subst (λ (clusters : List (List Cell)). AllZip R clusters (rights there))
      (lefts-sorted (pairs_of xs ys) ∙ ap (sorted first) (lefts-pairs R xs ys all))
      (zip-pairs R there (All-permutation (λ pair. R pair.0 pair.1) (pairs_of xs ys) there permutes (all-pairs R xs ys all))),
  λ p. sum_by-IsPermutation (λ y. cond (p y) 1 0) (rights (pairs_of xs ys)) (rights there)
      (IsPermutation-map (λ pair. pair.1) (pairs_of xs ys) there permutes) ∙ ap (count_by p) (rights-pairs R xs ys all),
)
  where
    there : List (List Cell × List ℕ)
    there = sorted (λ pair. first pair.0) (pairs_of xs ys)

    permutes : IsPermutation (pairs_of xs ys) there
    permutes = sorted-permutes (λ pair. first pair.0) (pairs_of xs ys)

-- ---- the image of a pattern at rest

module _ (f g : Cell → Cell) (rigid : IsRigid f g) (there : KeepsObjects f) (home : KeepsObjects g) (rule : Numbers) where
  -- if a pattern recurs with a displacement, its image recurs with the image of the displacement
  recurs-image : (limit : ℕ) (cells : List Cell) → InOrder cells → (r : Recurrence) → Recurs rule cells limit r → (ex ey : ℤ)
      → image_by f (shifted r.dx r.dy cells) ≡ shifted ex ey (image_by f cells)
      → Recurs rule (image_by f cells) limit (record { period = r.period; dx = ex; dy = ey })
  recurs-image limit cells order r back ex ey moved = record {
    some = back.some;
    within = back.within;
    back = after-image f g rigid rule cells r.period order ∙ ap (image_by f) back.back ∙ moved;
    least = λ p dx dy some less is.
        let other = home.moves dx dy (image_by f cells) (in_order-set_of (map f cells)) in
        back.least p other.0 other.1 some less
        (sym (image-back f g rigid (after rule cells p) (in_order-after rule cells p order))
        ∙ ap (image_by g) (sym (after-image f g rigid rule cells p order) ∙ is)
        ∙ other.2 ∙ ap (shifted other.0 other.1) (image-back f g rigid cells order));
  }

  back-image : (limit : ℕ) (cells : List Cell) → InOrder cells → RecursWithin rule limit cells → RecursWithin rule limit (image_by f cells)
  back-image limit cells order (r, back) =
      let move = there.moves r.dx r.dy cells order in
      (record { period = r.period; dx = move.0; dy = move.1 }, recurs-image limit cells order r back move.0 move.1 move.2)

  in_place-image : (limit : ℕ) (cells : List Cell) (period : ℕ) → InOrder cells → RecursInPlace rule limit cells period
      → RecursInPlace rule limit (image_by f cells) period
  in_place-image limit cells period order back =
      recurs-image limit cells order (record { period = period; dx = pos 0; dy = pos 0 }) back (pos 0) (pos 0)
      (ap (image_by f) (shifted-none cells) ∙ sym (shifted-none (image_by f cells)))

-- ---- clusters that stay for good

-- if the image recurs in its place, so does the pattern
in_place-home : (f g : Cell → Cell) (rigid : IsRigid f g) → KeepsObjects f → KeepsObjects g → (rule : Numbers) (limit : ℕ) (cells : List Cell)
    (period : ℕ) → InOrder cells → RecursInPlace rule limit (image_by f cells) period → RecursInPlace rule limit cells period
in_place-home f g rigid there home rule limit cells period order back =
    subst (λ (part : List Cell). RecursInPlace rule limit part period) (image-back f g rigid cells order)
    (in_place-image g f (inverse f g rigid) home there rule limit (image_by f cells) period (in_order-set_of (map f cells)) back)

-- clusters stay for good if and only if their images do, in whatever order
module _ (f g : Cell → Cell) (rigid : IsRigid f g) (there : KeepsObjects f) (home : KeepsObjects g) (rule : Numbers) (limit horizon : ℕ)
    (clusters others : List (List Cell)) (orders : All InOrder clusters) (permuted : IsPermutation (map (image_by f) clusters) others) where
  all-there : (P Q : List Cell → Type 0) → ((part : List Cell) → InOrder part → P part → Q (image_by f part)) → All P clusters → All Q others
  all-there P Q step all =
      All-permutation Q (map (image_by f) clusters) others permuted
      (All-map Q (image_by f) clusters (λ k d low. step (get_or clusters k d) (orders k d low) (all k d low)))

  all-home : (P Q : List Cell → Type 0) → ((part : List Cell) → InOrder part → Q (image_by f part) → P part) → All Q others → All P clusters
  all-home P Q step all k d low =
      let back = All-permutation Q others (map (image_by f) clusters) (IsPermutation-sym (map (image_by f) clusters) others permuted) all in
      let long = length-map clusters (image_by f) in
      step (get_or clusters k d) (orders k d low)
      (subst Q (get_or-map (image_by f) clusters k d d low) (back k d (omega (arith, low, long))))

  common-there : (m : ℕ) → IsCommonPeriod rule limit clusters m → IsCommonPeriod rule limit others m
  common-there m common = record {
    some = common.some;
    each = all-there (λ part. (period : ℕ) → RecursInPlace rule limit part period → IsMultiple m period)
        (λ part. (period : ℕ) → RecursInPlace rule limit part period → IsMultiple m period)
        (λ part order each period back. each period (in_place-home f g rigid there home rule limit part period order back)) common.each;
  }

  common-home : (m : ℕ) → IsCommonPeriod rule limit others m → IsCommonPeriod rule limit clusters m
  common-home m common = record {
    some = common.some;
    each = all-home (λ part. (period : ℕ) → RecursInPlace rule limit part period → IsMultiple m period)
        (λ part. (period : ℕ) → RecursInPlace rule limit part period → IsMultiple m period)
        (λ part order each period back. each period (in_place-image f g rigid there home rule limit part period order back)) common.each;
  }

  stay-image : ClustersStayForGood rule limit horizon clusters ↔ ClustersStayForGood rule limit horizon others
  stay-image = (
    λ good. record {
      in_place = all-there (λ part. (period : ℕ) × RecursInPlace rule limit part period) (λ part. (period : ℕ) × RecursInPlace rule limit part period)
          (λ part order (period, back). (period, in_place-image f g rigid there home rule limit part period order back)) good.in_place;
      multiple = good.multiple;
      common = common-there good.multiple good.common;
      least = λ m common. good.least m (common-home m common);
      within = good.within;
    },
    λ good. record {
      in_place = all-home (λ part. (period : ℕ) × RecursInPlace rule limit part period) (λ part. (period : ℕ) × RecursInPlace rule limit part period)
          (λ part order (period, back). (period, in_place-home f g rigid there home rule limit part period order back)) good.in_place;
      multiple = good.multiple;
      common = common-home good.multiple good.common;
      least = λ m common. good.least m (common-there m common);
      within = good.within;
    },
  )

-- ---- the clusters of an image

module _ (f g : Cell → Cell) (rigid : IsRigid f g) (there : KeepsObjects f) (home : KeepsObjects g) (rule : Numbers) where
  module _ (profile : Settling) (cells : List Cell) (order : InOrder cells) where
    -- if the clusters of the pattern keep apart after n generations, so do the clusters of the image
    apart-image : (clusters : List (List Cell)) (are : AreClusters cells clusters) (n : ℕ) → KeepApart rule cells clusters n
        → KeepApart rule (image_by f cells) (images f g rigid cells order clusters are) n
    apart-image clusters are n apart =
        partition-permuted (after rule (image_by f cells) n) (map (λ part. after rule part n) (map (image_by f) clusters))
        (map (λ part. after rule part n) (images f g rigid cells order clusters are))
        (in_order-after rule (image_by f cells) n (in_order-set_of (map f cells)))
        (All-map InOrder (λ part. after rule part n) (map (image_by f) clusters)
        (All-map (λ part. InOrder (after rule part n)) (image_by f) clusters
        (λ k d low. in_order-after rule (image_by f (get_or clusters k d)) n (in_order-set_of (map f (get_or clusters k d))))))
        (IsPermutation-map (λ part. after rule part n) (map (image_by f) clusters) (images f g rigid cells order clusters are)
        (images-permute f g rigid cells order clusters are))
        (subst (λ (whole : List Cell). Partition whole (map (λ part. after rule part n) (map (image_by f) clusters)))
        (sym (after-image f g rigid rule cells n order))
        (subst (Partition (image_by f (after rule cells n))) (later clusters (λ k d low. (are.each k d low).in_order))
        (partition-image f g rigid (after rule cells n) (map (λ part. after rule part n) clusters) apart)))
      where
        later : (parts : List (List Cell)) → All InOrder parts
            → map (image_by f) (map (λ part. after rule part n) parts) ≡ map (λ part. after rule part n) (map (image_by f) parts)
        later [] orders = refl
        later (part ∷ parts) orders =
            λ i. sym (after-image f g rigid rule part n (orders 0 part (omega arith))) i ∷ later parts (λ k d low. orders (suc k) d (omega arith)) i

    rests-image : (clusters : List (List Cell)) (rest : RestsAs rule profile cells clusters)
        → RestsAs rule profile (image_by f cells) (images f g rigid cells order clusters rest.parts)
    rests-image clusters rest = record {
      parts = clusters-image f g rigid cells order clusters rest.parts;
      back = All-permutation (RecursWithin rule profile.period) (map (image_by f) clusters) (images f g rigid cells order clusters rest.parts)
          (images-permute f g rigid cells order clusters rest.parts)
          (All-map (RecursWithin rule profile.period) (image_by f) clusters
          (λ k d low. back-image f g rigid there home rule profile.period (get_or clusters k d) (rest.parts.each k d low).in_order (rest.back k d low)));
      apart = λ n low. apart-image clusters rest.parts n (rest.apart n low);
    }

    at_rest-image : IsAtRest rule profile cells → IsAtRest rule profile (image_by f cells)
    at_rest-image (clusters, rest) = (images f g rigid cells order clusters rest.parts, rests-image clusters rest)

    -- the image of a settled pattern is settled, with the same objects
    settled-image : (objects : List (List ℕ × ℕ)) (good : Bool) → IsSettled rule profile cells objects good
        → IsSettled rule profile (image_by f cells) objects good
    settled-image objects good is = record {
      clusters = images f g rigid cells order is.clusters is.rest.parts;
      rest = rests-image is.clusters is.rest;
      counted = record {
        lawful = is.counted.lawful;
        codes = moved.0;
        named = moved.1;
        counts = λ code. is.counted.counts code ∙ sym (moved.2 (is_code code));
      };
      good = (
        λ e. stay.0 (is.good.0 e),
        λ good. is.good.1 (stay.1 good),
      );
    }
      where
        stay : ClustersStayForGood rule profile.period profile.horizon is.clusters
            ↔ ClustersStayForGood rule profile.period profile.horizon (images f g rigid cells order is.clusters is.rest.parts)
        stay = stay-image f g rigid there home rule profile.period profile.horizon is.clusters
            (images f g rigid cells order is.clusters is.rest.parts) (λ k d low. (is.rest.parts.each k d low).in_order)
            (images-permute f g rigid cells order is.clusters is.rest.parts)

        named : (parts : List (List Cell)) (codes : List (List ℕ)) → All InOrder parts
            → AllZip (λ cluster code. IsCode rule cluster profile.period code) parts codes
            → AllZip (λ cluster code. IsCode rule cluster profile.period code) (map (image_by f) parts) codes
        named [] [] orders all = tt
        named [] (y ∷ ys) orders all = absurd all
        named (x ∷ xs) [] orders all = absurd all
        named (x ∷ xs) (y ∷ ys) orders all =
            (there.codes rule x profile.period y (orders 0 x (omega arith)) all.0, named xs ys (λ k d low. orders (suc k) d (omega arith)) all.1)

        moved : (zs : List (List ℕ))
            × AllZip (λ cluster code. IsCode rule cluster profile.period code) (sorted first (map (image_by f) is.clusters)) zs
            × ((p : List ℕ → Bool) → count_by p zs ≡ count_by p is.counted.codes)
        moved = sorted_codes (λ cluster code. IsCode rule cluster profile.period code) (map (image_by f) is.clusters) is.counted.codes
            (named is.clusters is.counted.codes (λ k d low. (is.rest.parts.each k d low).in_order) is.counted.named)

-- if a generation of the image is at rest, so is the same generation of the pattern
rest-home : (f g : Cell → Cell) → IsRigid f g → KeepsObjects f → KeepsObjects g → (rule : Numbers) (profile : Settling) (cells : List Cell) (n : ℕ)
    → InOrder cells → IsAtRest rule profile (after rule (image_by f cells) n) → IsAtRest rule profile (after rule cells n)
rest-home f g rigid there home rule profile cells n order rest =
    subst (IsAtRest rule profile) (image-back f g rigid (after rule cells n) (in_order-after rule cells n order))
    (at_rest-image g f (inverse f g rigid) home there rule profile (image_by f (after rule cells n)) (in_order-set_of (map f (after rule cells n)))
    (subst (IsAtRest rule profile) (after-image f g rigid rule cells n order) rest))

finding-image : (f g : Cell → Cell) → IsRigid f g → KeepsObjects f → KeepsObjects g → (rule : Numbers) (profile : Settling) (cells : List Cell)
    (finding : Finding) → InOrder cells → IsFinding rule profile cells finding → IsFinding rule profile (image_by f cells) finding
finding-image f g rigid there home rule profile cells (Settled t objects good) order is = (
  is.0,
  λ u check less rest. is.1 u check less (rest-home f g rigid there home rule profile cells u order rest),
  subst (λ (state : List Cell). IsSettled rule profile state objects good) (sym (after-image f g rigid rule cells t order))
      (settled-image f g rigid there home rule profile (after rule cells t) (in_order-after rule cells t order) objects good is.2),
)
finding-image f g rigid there home rule profile cells Unsettled order is =
    λ u check rest. is u check (rest-home f g rigid there home rule profile cells u order rest)

-- ---- moves

undo : (a v : ℤ) → (a +ℤ neg_ℤ v) +ℤ v ≡ a
undo a v = omega (arith, ints)

redo : (a v : ℤ) → (a +ℤ v) +ℤ neg_ℤ v ≡ a
redo a v = omega (arith, ints)

moved-rigid : (dx dy : ℤ) → IsRigid (moved_by dx dy) (moved_by (neg_ℤ dx) (neg_ℤ dy))
moved-rigid dx dy = record {
  there = λ c i. cell_at (undo c.x dx i) (undo c.y dy i);
  back = λ c i. cell_at (redo c.x dx i) (redo c.y dy i);
  keeps = king_distance-moved dx dy;
}

-- the image of a pattern under a move is the moved pattern
moved-is_image : (dx dy : ℤ) (cells : List Cell) → InOrder cells → image_by (moved_by dx dy) cells ≡ shifted dx dy cells
moved-is_image dx dy cells order = set_of-in_order (shifted dx dy cells) (in_order-shifted dx dy cells order)

moved-keeps_objects : (dx dy : ℤ) → KeepsObjects (moved_by dx dy)
moved-keeps_objects dx dy = record {
  moves = λ ex ey cells order. (
    ex,
    ey,
    moved-is_image dx dy (shifted ex ey cells) (in_order-shifted ex ey cells order) ∙ shifted-swap dx dy ex ey cells
        ∙ ap (shifted ex ey) (sym (moved-is_image dx dy cells order)),
  );
  codes = λ rule cells limit code order is.
      subst (λ (moved : List Cell). IsCode rule moved limit code) (sym (moved-is_image dx dy cells order)) (codes_moved dx dy rule cells limit code order is);
}

pub findings_moved : FindingsMoved
findings_moved dx dy rule profile cells finding order is =
    subst (λ (moved : List Cell). IsFinding rule profile moved finding) (moved-is_image dx dy cells order)
    (finding-image (moved_by dx dy) (moved_by (neg_ℤ dx) (neg_ℤ dy)) (moved-rigid dx dy) (moved-keeps_objects dx dy)
    (moved-keeps_objects (neg_ℤ dx) (neg_ℤ dy)) rule profile cells finding order is)

-- ---- turns

turned-rigid : (o : Orientation) → IsRigid (turned_cell o) (turned_cell (turning_back o).0)
turned-rigid o = record {
  there = λ c. product-cell (turning_back o).0 o c ∙ ap (λ (p : Orientation). turned_cell p c) (turning_back o).2;
  back = λ c. product-cell o (turning_back o).0 c ∙ ap (λ (p : Orientation). turned_cell p c) (turning_back o).1;
  keeps = turned-keeps o;
}

-- a pattern that was moved to the corner can be moved back
corner-back : (cells : List Cell) → (dx : ℤ) × (dy : ℤ) × (shifted dx dy (at_corner cells) ≡ cells)
corner-back [] = (pos 0, pos 0, refl)
corner-back (c ∷ cs) =
    let b = grown c (box_of cs) in
    (neg_ℤ (neg_ℤ b.left), neg_ℤ (neg_ℤ b.top), shifted-back (neg_ℤ b.left) (neg_ℤ b.top) (c ∷ cs))

in_order-corner : (cells : List Cell) → InOrder cells → InOrder (at_corner cells)
in_order-corner [] order = order
in_order-corner (c ∷ cs) order =
    let b = grown c (box_of cs) in in_order-shifted (neg_ℤ b.left) (neg_ℤ b.top) (c ∷ cs) order

image-is_image : (o : Orientation) (cells : List Cell) → image o cells ≡ image_by (turned_cell o) cells
unfolding image
image-is_image o cells = refl

turned-at_corner : (o : Orientation) (cells : List Cell) → turned o cells ≡ at_corner (image_by (turned_cell o) cells)
unfolding turned image
turned-at_corner o cells = refl

turned-keeps_objects : (o : Orientation) → KeepsObjects (turned_cell o)
turned-keeps_objects o = record {
  moves = λ dx dy cells order. (
    (turned_cell o (cell_at dx dy)).x,
    (turned_cell o (cell_at dx dy)).y,
    sym (image-is_image o (shifted dx dy cells)) ∙ image-shifted o dx dy cells
        ∙ ap (shifted (turned_cell o (cell_at dx dy)).x (turned_cell o (cell_at dx dy)).y) (image-is_image o cells),
  );
  codes = λ rule cells limit code order is.
      let back = corner-back (image_by (turned_cell o) cells) in
      subst (λ (image : List Cell). IsCode rule image limit code) back.2
      (codes_moved back.0 back.1 rule (at_corner (image_by (turned_cell o) cells)) limit code
      (in_order-corner (image_by (turned_cell o) cells) (in_order-set_of (map (turned_cell o) cells)))
      (subst (λ (corner : List Cell). IsCode rule corner limit code) (turned-at_corner o cells) (codes_turned o rule cells limit code order is)));
}

pub findings_of_images : FindingsOfImages
findings_of_images o rule profile cells finding order is =
    subst (λ (image : List Cell). IsFinding rule profile image finding) (sym (image-is_image o cells))
    (finding-image (turned_cell o) (turned_cell (turning_back o).0) (turned-rigid o) (turned-keeps_objects o)
    (turned-keeps_objects (turning_back o).0) rule profile cells finding order is)

-- a pattern keeps its finding when it is moved to the corner
finding-corner : (rule : Numbers) (profile : Settling) (cells : List Cell) (finding : Finding) → InOrder cells → IsFinding rule profile cells finding
    → IsFinding rule profile (at_corner cells) finding
finding-corner rule profile [] finding order is = is
finding-corner rule profile (c ∷ cs) finding order is =
    let b = grown c (box_of cs) in findings_moved (neg_ℤ b.left) (neg_ℤ b.top) rule profile (c ∷ cs) finding order is

pub findings_turned : FindingsTurned
findings_turned o rule profile cells finding order is =
    subst (λ (corner : List Cell). IsFinding rule profile corner finding) (sym (turned-at_corner o cells))
    (finding-corner rule profile (image_by (turned_cell o) cells) finding (in_order-set_of (map (turned_cell o) cells))
    (subst (λ (image : List Cell). IsFinding rule profile image finding) (image-is_image o cells)
    (findings_of_images o rule profile cells finding order is)))
