-- Sorting clusters by their first cells.
use Rattle.std.proofs.Common.{◌≡◌, ◌≢◌, ◌∙◌, ap, sym, refl, subst, zero, suc, pos, Bool, true, false, ◌||◌, cond, List, [], ◌∷◌, All, AllPairs, map, arith}
use Rattle.std.specs.List.Sorted.{IsPermutation}
use Rattle.std.specs.Ordering.{is_eq, is_lt, match_ordering}
use Rattle.std.specs.declared.cmp.Ordering.{Ordering}
use Rattle.std.specs.declared.cmp.Ordering.TheVariants.{Less, Equal, Greater}
use Rattle.std.proofs.lemmas.Bool.{false≢true, false_from_ne_true}
use Rattle.std.proofs.lemmas.List.Kept.{AllPairs-cons}
use Rattle.std.proofs.lemmas.List.Sorted.{IsPermutation-cons, IsPermutation-middle, IsPermutation-refl, IsPermutation-sym, IsPermutation-trans}
use Rattle.plane_core.specs.declared.plane.cell.Cell.{Cell}
use Rattle.plane_core.specs.plane.Cells.{InOrder, cell_cmp, has, put, same_cell, set_of}
use Rattle.plane_core.specs.clusters.Clusters.{FirstBefore}
use Rattle.plane_core.proofs.lemmas.plane.CellLemmas.{same_cell-same}
use Rattle.plane_core.proofs.lemmas.plane.SetLemmas.{IsBefore, has-head, has-set_of, in_order-head, in_order-set_of, in_order-tail}
use Rattle.survey_core.proofs.lemmas.PartitionLemmas.{Disjoint}

-- the first cell of a list, or the origin if the list is empty
abbrev pub first : List Cell → Cell
first [] = record { y = pos 0; x = pos 0 }
first (c ∷ cs) = c

module _ {X : Type 0} (key : X → Cell) where
  -- x, inserted before the first item with a later key
  abbrev pub place : X → List X → List X
  place x [] = x ∷ []
  place x (y ∷ ys) = cond (is_lt (cell_cmp (key x) (key y))) (x ∷ y ∷ ys) (y ∷ place x ys)

  -- the list, sorted by the keys of its items
  abbrev pub sorted : List X → List X
  sorted [] = []
  sorted (x ∷ xs) = place x (sorted xs)

  place-permutes : (x : X) (ys : List X) → IsPermutation (x ∷ ys) (place x ys)
  place-permutes x [] = IsPermutation-refl (x ∷ [])
  place-permutes x (y ∷ ys) = go (is_lt (cell_cmp (key x) (key y))) (place-permutes x ys)
    where
      swapped : IsPermutation (x ∷ y ∷ ys) (y ∷ x ∷ ys)
      swapped = IsPermutation-sym (y ∷ x ∷ ys) (x ∷ y ∷ ys) (IsPermutation-middle (y ∷ []) x ys)

      go : (b : Bool) → IsPermutation (x ∷ ys) (place x ys) → IsPermutation (x ∷ y ∷ ys) (cond b (x ∷ y ∷ ys) (y ∷ place x ys))
      go true ih = IsPermutation-refl (x ∷ y ∷ ys)
      go false ih = IsPermutation-trans (x ∷ y ∷ ys) (y ∷ x ∷ ys) (y ∷ place x ys) swapped (IsPermutation-cons y (x ∷ ys) (place x ys) ih)

  pub sorted-permutes : (xs : List X) → IsPermutation xs (sorted xs)
  sorted-permutes [] = IsPermutation-refl []
  sorted-permutes (x ∷ xs) =
      IsPermutation-trans (x ∷ xs) (x ∷ sorted xs) (place x (sorted xs)) (IsPermutation-cons x xs (sorted xs) (sorted-permutes xs))
      (place-permutes x (sorted xs))

  -- the keys are distinct
  abbrev pub KeysDiffer : List X → Type 0
  KeysDiffer [] = Unit {0}
  KeysDiffer (x ∷ xs) = (has (map key xs) (key x) ≡ false) × KeysDiffer xs

  -- if the key of an item is new, inserting the item puts the key into the set of keys
  place-put : (x : X) (ys : List X) → has (map key ys) (key x) ≡ false → map key (place x ys) ≡ put (key x) (map key ys)
  place-put x [] new = refl
  place-put x (y ∷ ys) new = go (cell_cmp (key x) (key y)) refl (place-put x ys)
    where
      go : (o : Ordering) → cell_cmp (key x) (key y) ≡ o → (has (map key ys) (key x) ≡ false → map key (place x ys) ≡ put (key x) (map key ys))
          → map key (cond (is_lt o) (x ∷ y ∷ ys) (y ∷ place x ys))
          ≡ match_ordering o (key x ∷ key y ∷ map key ys) (key y ∷ map key ys) (key y ∷ put (key x) (map key ys))
      go Less e ih = refl
      go Equal e ih = absurd (false≢true (sym new ∙ ap (λ (o : Ordering). is_eq o || has (map key ys) (key x)) e))
      go Greater e ih =
          ap (λ (cells : List Cell). key y ∷ cells) (ih (sym (ap (λ (o : Ordering). is_eq o || has (map key ys) (key x)) e) ∙ new))

  pub sorted-keys : (xs : List X) → KeysDiffer xs → map key (sorted xs) ≡ set_of (map key xs)
  sorted-keys [] differ = refl
  sorted-keys (x ∷ xs) differ =
      let remainder : map key (sorted xs) ≡ set_of (map key xs) = sorted-keys xs differ.1 in
      place-put x (sorted xs) (ap (λ (cells : List Cell). has cells (key x)) remainder ∙ has-set_of (map key xs) (key x) ∙ differ.0)
      ∙ ap (put (key x)) remainder

-- if the first cells of nonempty clusters are in order, `FirstBefore` holds for each cluster and every later cluster
pairs_from : (clusters : List (List Cell)) → All (λ cluster. cluster ≢ []) clusters → InOrder (map first clusters) → AllPairs FirstBefore clusters
pairs_from [] some order = λ i j d lt low. absurd (omega arith)
pairs_from (x ∷ xs) some order =
    AllPairs-cons FirstBefore x xs (later xs (λ k d low. some (suc k) d (omega arith)) (in_order-head (first x) (map first xs) order))
    (pairs_from xs (λ k d low. some (suc k) d (omega arith)) (in_order-tail (first x) (map first xs) order))
  where
    before : (a b : List Cell) → a ≢ [] → b ≢ [] → cell_cmp (first a) (first b) ≡ Less → FirstBefore a b
    before [] b one other e = absurd (one refl)
    before (c ∷ cs) [] one other e = absurd (other refl)
    before (c ∷ cs) (d ∷ ds) one other e = e

    later : (ys : List (List Cell)) → All (λ cluster. cluster ≢ []) ys → IsBefore (first x) (map first ys) → All (FirstBefore x) ys
    later [] more h k d low = absurd (omega arith)
    later (y ∷ ys) more h zero d low = before x y (some 0 x (omega arith)) (more 0 y (omega arith)) h.0
    later (y ∷ ys) more h (suc k) d low = later ys (λ i e under. more (suc i) e (omega arith)) h.1 k d (omega arith)

has-first : (cluster : List Cell) → cluster ≢ [] → has cluster (first cluster) ≡ true
has-first [] some = absurd (some refl)
has-first (c ∷ cs) some = has-head c cs

-- clusters that share no cell have different first cells
pub firsts_differ : (clusters : List (List Cell)) → All (λ cluster. cluster ≢ []) clusters → AllPairs Disjoint clusters → KeysDiffer first clusters
firsts_differ [] some apart = tt
firsts_differ (x ∷ xs) some apart = (
  other xs (λ k d low. some (suc k) d (omega arith)) (λ k d low. apart 0 (suc k) d (omega arith) (omega arith)),
  firsts_differ xs (λ k d low. some (suc k) d (omega arith)) (λ i j d lt low. apart (suc i) (suc j) d (omega arith) (omega arith)),
)
  where
    another : (y : List Cell) → y ≢ [] → Disjoint x y → same_cell (first x) (first y) ≡ false
    another y more none = false_from_ne_true (same_cell (first x) (first y)) (λ e.
        let same : first x ≡ first y = same_cell-same (first x) (first y) e in
        false≢true (sym (none (first y) (subst (λ (c : Cell). has x c ≡ true) same (has-first x (some 0 x (omega arith))))) ∙ has-first y more))

    other : (ys : List (List Cell)) → All (λ cluster. cluster ≢ []) ys → All (Disjoint x) ys → has (map first ys) (first x) ≡ false
    other [] more none = refl
    other (y ∷ ys) more none =
        λ i. another y (more 0 y (omega arith)) (none 0 y (omega arith)) i
        || other ys (λ k d low. more (suc k) d (omega arith)) (λ k d low. none (suc k) d (omega arith)) i

-- if disjoint clusters are sorted by their first cells, `FirstBefore` holds for each cluster and every later cluster
pub sorted_in_order : (clusters : List (List Cell)) → All (λ cluster. cluster ≢ []) clusters → All (λ cluster. cluster ≢ []) (sorted first clusters)
    → AllPairs Disjoint clusters → AllPairs FirstBefore (sorted first clusters)
sorted_in_order clusters some all apart =
    pairs_from (sorted first clusters) all
    (subst InOrder (sym (sorted-keys first clusters (firsts_differ clusters some apart))) (in_order-set_of (map first clusters)))
