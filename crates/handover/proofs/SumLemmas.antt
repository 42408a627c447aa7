-- Sums over the views of all passes, when one view changes.
use Rattle.std.proofs.Common.{◌≡◌, ◌≢◌, ◌≤◌, ◌+◌, ℕ, zero, suc, List, [], ◌∷◌, ◌++◌, set, sym, refl, ap, subst, arith, ⊎_elim}
use Rattle.std.specs.List.{sum_by}
use Rattle.std.proofs.lemmas.List.Sums.{sum_by-cons}
use Rattle.atomic_table.proofs.Lists.{at_set, at_snoc}
use mathlib.Core.Option.{some, some-injective, some-ne-none}
use lib.ListN.{get_elem?}

module _ {X : Type 0} (f : X → ℕ) where
  -- if `w` replaces `v`, the new sum plus the value of `v` is the old sum plus the value of `w`
  pub sum_set : (l : List X) (i : ℕ) (v w : X) → get_elem? l i ≡ some v → sum_by f (set l i w) + f v ≡ sum_by f l + f w
  sum_set [] i v w at = absurd (some-ne-none v (sym at))
  sum_set (x ∷ xs) zero v w at = let e : f x ≡ f v = ap f (some-injective x v at) in omega (arith, sum_by-cons f w xs, sum_by-cons f x xs)
  sum_set (x ∷ xs) (suc i) v w at = let h = sum_set xs i v w at in omega (arith, sum_by-cons f x (set xs i w), sum_by-cons f x xs)

  -- the value of one view is at most the sum
  pub sum_at : (l : List X) (i : ℕ) (v : X) → get_elem? l i ≡ some v → f v ≤ sum_by f l
  sum_at [] i v at = absurd (some-ne-none v (sym at))
  sum_at (x ∷ xs) zero v at = let e : f x ≡ f v = ap f (some-injective x v at) in omega (arith, sum_by-cons f x xs)
  sum_at (x ∷ xs) (suc i) v at = let h = sum_at xs i v at in omega (arith, sum_by-cons f x xs)

  -- the values of two views add up to at most the sum
  pub sum_two : (l : List X) (i j : ℕ) (v w : X) → i ≢ j → get_elem? l i ≡ some v → get_elem? l j ≡ some w → f v + f w ≤ sum_by f l
  sum_two [] i j v w apart at there = absurd (some-ne-none v (sym at))
  sum_two (x ∷ xs) zero zero v w apart at there = absurd (apart refl)
  sum_two (x ∷ xs) zero (suc j) v w apart at there =
      let e : f x ≡ f v = ap f (some-injective x v at) in let h = sum_at xs j w there in omega (arith, sum_by-cons f x xs)
  sum_two (x ∷ xs) (suc i) zero v w apart at there =
      let e : f x ≡ f w = ap f (some-injective x w there) in let h = sum_at xs i v at in omega (arith, sum_by-cons f x xs)
  sum_two (x ∷ xs) (suc i) (suc j) v w apart at there = let h = sum_two xs i j v w (λ e. apart (ap suc e)) at there in omega (arith, sum_by-cons f x xs)

  -- if f is at most g for each view, then the sum of f is at most the sum of g
  pub sum_below : (g : X → ℕ) (l : List X) → ((j : ℕ) (u : X) → get_elem? l j ≡ some u → f u ≤ g u) → sum_by f l ≤ sum_by g l
  sum_below g [] le = omega arith
  sum_below g (x ∷ xs) le =
      let a = le 0 x refl in let b = sum_below g xs (λ j u e. le (suc j) u e) in omega (arith, sum_by-cons f x xs, sum_by-cons g x xs)

  sum_none : (g : X → ℕ) (l : List X) → sum_by g l ≡ 0 → ((j : ℕ) (u : X) → get_elem? l j ≡ some u → g u ≡ 0 → f u ≡ 0) → sum_by f l ≡ 0
  sum_none g [] none zeros = refl
  sum_none g (x ∷ xs) none zeros =
      let first : g x ≡ 0 = omega (arith, sum_by-cons g x xs) in
      let others : sum_by g xs ≡ 0 = omega (arith, sum_by-cons g x xs) in
      let a = zeros 0 x refl first in
      let b = sum_none g xs others (λ j u e. zeros (suc j) u e) in
      omega (arith, sum_by-cons f x xs)

  -- if one view has the whole sum of g, and f is 0 wherever g is 0, that view has the whole sum of f
  pub sum_alone : (g : X → ℕ) (l : List X) (i : ℕ) (v : X) → get_elem? l i ≡ some v → sum_by g l ≡ g v
      → ((j : ℕ) (u : X) → get_elem? l j ≡ some u → g u ≡ 0 → f u ≡ 0) → sum_by f l ≡ f v
  sum_alone g [] i v at all zeros = absurd (some-ne-none v (sym at))
  sum_alone g (x ∷ xs) zero v at all zeros =
      let e : f x ≡ f v = ap f (some-injective x v at) in
      let d : g x ≡ g v = ap g (some-injective x v at) in
      let others : sum_by g xs ≡ 0 = omega (arith, sum_by-cons g x xs) in
      let b = sum_none g xs others (λ j u h. zeros (suc j) u h) in
      omega (arith, sum_by-cons f x xs)
  sum_alone g (x ∷ xs) (suc i) v at all zeros =
      let part = remainder g xs i v at in
      let first : g x ≡ 0 = omega (arith, sum_by-cons g x xs) in
      let others : sum_by g xs ≡ g v = omega (arith, sum_by-cons g x xs) in
      let a = zeros 0 x refl first in
      let b = sum_alone g xs i v at others (λ j u h. zeros (suc j) u h) in
      omega (arith, sum_by-cons f x xs)
    where
      remainder : (g : X → ℕ) (l : List X) (i : ℕ) (v : X) → get_elem? l i ≡ some v → g v ≤ sum_by g l
      remainder g [] i v at = absurd (some-ne-none v (sym at))
      remainder g (x ∷ xs) zero v at = let e : g x ≡ g v = ap g (some-injective x v at) in omega (arith, sum_by-cons g x xs)
      remainder g (x ∷ xs) (suc i) v at = let h = remainder g xs i v at in omega (arith, sum_by-cons g x xs)

module _ {X : Type 0} (P : X → Type 0) where
  -- after one view is replaced, all views have a property if the new view and the others have it
  pub each_set : (l : List X) (i : ℕ) (w : X) → ((j : ℕ) (u : X) → j ≢ i → get_elem? l j ≡ some u → P u) → P w
      → (j : ℕ) (u : X) → get_elem? (set l i w) j ≡ some u → P u
  each_set l i w others mine j u e =
      ⊎_elim (λ (x : (j ≡ i) × (w ≡ u)). subst P x.1 mine) (λ (x : (j ≢ i) × (get_elem? l j ≡ some u)). others j u x.0 x.1) (at_set l i j w u e)

  -- after one view is appended, all views have a property if the new view and the others have it
  pub each_push : (l : List X) (w : X) → ((j : ℕ) (u : X) → get_elem? l j ≡ some u → P u) → P w → (j : ℕ) (u : X) → get_elem? (l ++ w ∷ []) j ≡ some u → P u
  each_push l w others mine j u e =
      ⊎_elim (λ (x : get_elem? l j ≡ some u). others j u x) (λ (x : w ≡ u). subst P x mine) (at_snoc l w u j e)
