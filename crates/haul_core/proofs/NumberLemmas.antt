-- Lists of the same numbers, in any order.
use Rattle.std.proofs.Common.{◌≡◌, ◌∙◌, ◌+◌, ◌<◌, ◌≤◌, ℕ, Bool, true, false, cond, nat_eq, nat_le, List, [], ◌∷◌, ap, sym, subst, refl, arith, inl, inr}
use Rattle.std.proofs.Common.{◌⊎◌, ◌||◌, filter, length, sum_by, take}
use Rattle.std.specs.Cmp.{nat_eq_equiv}
use Rattle.std.specs.List.{AllByRecursion, list_any}
use Rattle.std.proofs.lemmas.Bool.{cases_lt, cases_order, le-leb, ne_eqb}
use Rattle.std.proofs.lemmas.List.Sums.{sum_by-cons}
use Rattle.haul_core.specs.Samples.{AreSameNumbers}
use Rattle.haul_core.specs.SampleSteps.{ascending, least_three, with_number}
use Rattle.haul_core.proofs.MissingLemmas.{count_no, count_yes, counted, counted_filter}
use Rattle.haul_core.proofs.SampleLemmas.{with_greater, with_least}

-- ---- sums don't depend on the order

sum_with : (f : ℕ → ℕ) (n : ℕ) (xs : List ℕ) → sum_by f (with_number n xs) ≡ sum_by f (n ∷ xs)
sum_with f n [] = refl
sum_with f n (x ∷ xs) = elim (cases_lt x n) [
  | inl greater ↦
      let remainder : sum_by f (with_number n xs) ≡ sum_by f (n ∷ xs) = sum_with f n xs in
      let a : sum_by f (x ∷ with_number n xs) ≡ f x + sum_by f (with_number n xs) = sum_by-cons f x (with_number n xs) in
      let b : sum_by f (n ∷ xs) ≡ f n + sum_by f xs = sum_by-cons f n xs in
      let c : sum_by f (n ∷ x ∷ xs) ≡ f n + sum_by f (x ∷ xs) = sum_by-cons f n (x ∷ xs) in
      let d : sum_by f (x ∷ xs) ≡ f x + sum_by f xs = sum_by-cons f x xs in
      let swapped : sum_by f (x ∷ with_number n xs) ≡ sum_by f (n ∷ x ∷ xs) = omega arith in
      ap (sum_by f) (with_greater n x xs greater) ∙ swapped
  | inr least ↦ ap (sum_by f) (with_least n x xs least)
]

pub sum_ascending : (f : ℕ → ℕ) (xs : List ℕ) → sum_by f (ascending xs) ≡ sum_by f xs
sum_ascending f [] = refl
sum_ascending f (x ∷ xs) =
    sum_with f x (ascending xs) ∙ sum_by-cons f x (ascending xs) ∙ ap (λ (m : ℕ). f x + m) (sum_ascending f xs) ∙ sym (sum_by-cons f x xs)

-- ---- ascending lists with the same numbers are equal

abbrev pub IsUp : List ℕ → Type 0
IsUp [] = Unit {0}
IsUp (x ∷ xs) = AllByRecursion (λ y. x ≤ y) xs × IsUp xs

pub all_with : (p n : ℕ) (xs : List ℕ) → p ≤ n → AllByRecursion (λ y. p ≤ y) xs → AllByRecursion (λ y. p ≤ y) (with_number n xs)
all_with p n [] low all = (low, tt)
all_with p n (x ∷ xs) low all = elim (cases_lt x n) [
  | inl greater ↦ subst (AllByRecursion (λ y. p ≤ y)) (sym (with_greater n x xs greater)) (all.0, all_with p n xs low all.1)
  | inr least ↦ subst (AllByRecursion (λ y. p ≤ y)) (sym (with_least n x xs least)) (low, all)
]

pub all_lower : (p q : ℕ) (xs : List ℕ) → p ≤ q → AllByRecursion (λ y. q ≤ y) xs → AllByRecursion (λ y. p ≤ y) xs
all_lower p q [] low all = tt
all_lower p q (x ∷ xs) low all = let first : q ≤ x = all.0 in (omega arith, all_lower p q xs low all.1)

up_with : (n : ℕ) (xs : List ℕ) → IsUp xs → IsUp (with_number n xs)
up_with n [] up = (tt, tt)
up_with n (x ∷ xs) up = elim (cases_lt x n) [
  | inl greater ↦
      let low : x ≤ n = omega arith in
      subst IsUp (sym (with_greater n x xs greater)) (all_with x n xs low up.0, up_with n xs up.1)
  | inr least ↦ subst IsUp (sym (with_least n x xs least)) ((least, all_lower n x xs least up.0), up)
]

pub up_ascending : (xs : List ℕ) → IsUp (ascending xs)
up_ascending [] = tt
up_ascending (x ∷ xs) = up_with x (ascending xs) (up_ascending xs)

-- a number below all numbers of a list isn't among them
uncounted_low : (n p : ℕ) (xs : List ℕ) → n < p → AllByRecursion (λ y. p ≤ y) xs → counted n xs ≡ 0
uncounted_low n p [] low all = refl
uncounted_low n p (x ∷ xs) low all =
    let first : p ≤ x = all.0 in
    count_no (nat_eq n) x xs (ne_eqb n x (λ e. omega arith)) ∙ uncounted_low n p xs low all.1

counted_first : (x : ℕ) (xs : List ℕ) → counted x (x ∷ xs) ≡ 1 + counted x xs
counted_first x xs = count_yes (nat_eq x) x xs (nat_eq_equiv.refl x)

pub one_up : (xs ys : List ℕ) → IsUp xs → IsUp ys → AreSameNumbers xs ys → xs ≡ ys
one_up [] [] h k same = refl
one_up [] (y ∷ ys) h k same =
    let none : 0 ≡ counted y (y ∷ ys) = same y in
    let some : counted y (y ∷ ys) ≡ 1 + counted y ys = counted_first y ys in
    absurd (omega arith)
one_up (x ∷ xs) [] h k same =
    let none : counted x (x ∷ xs) ≡ 0 = same x in
    let some : counted x (x ∷ xs) ≡ 1 + counted x xs = counted_first x xs in
    absurd (omega arith)
one_up (x ∷ xs) (y ∷ ys) h k same = go (cases_order x y) (one_up xs ys h.1 k.1)
  where
    tails : x ≡ y → (n : ℕ) → counted n xs ≡ counted n ys
    tails first n =
        let a : counted n (x ∷ xs) ≡ cond {A = ℕ} (nat_eq n x) 1 0 + counted n xs = sum_by-cons (λ z. cond {A = ℕ} (nat_eq n z) 1 0) x xs in
        let b : counted n (y ∷ ys) ≡ cond {A = ℕ} (nat_eq n y) 1 0 + counted n ys = sum_by-cons (λ z. cond {A = ℕ} (nat_eq n z) 1 0) y ys in
        let c : cond {A = ℕ} (nat_eq n x) 1 0 ≡ cond {A = ℕ} (nat_eq n y) 1 0 = ap (λ (z : ℕ). cond {A = ℕ} (nat_eq n z) 1 0) first in
        let d : counted n (x ∷ xs) ≡ counted n (y ∷ ys) = same n in
        omega arith

    go : (x ≡ y) ⊎ ((x < y) ⊎ (y < x)) → (AreSameNumbers xs ys → xs ≡ ys) → x ∷ xs ≡ y ∷ ys
    go (inl first) remainder = λ i. first i ∷ remainder (tails first) i
    go (inr (inl less)) remainder =
        let here : counted x (x ∷ xs) ≡ 1 + counted x xs = counted_first x xs in
        let lower : y ≤ y = omega arith in
        let there : counted x (y ∷ ys) ≡ 0 = uncounted_low x y (y ∷ ys) less (lower, k.0) in
        let both : counted x (x ∷ xs) ≡ counted x (y ∷ ys) = same x in
        absurd (omega arith)
    go (inr (inr more)) remainder =
        let here : counted y (y ∷ ys) ≡ 1 + counted y ys = counted_first y ys in
        let lower : x ≤ x = omega arith in
        let there : counted y (x ∷ xs) ≡ 0 = uncounted_low y x (x ∷ xs) more (lower, h.0) in
        let both : counted y (x ∷ xs) ≡ counted y (y ∷ ys) = same y in
        absurd (omega arith)

-- ---- what lists with the same numbers have in common

pub same_ascending : (xs ys : List ℕ) → AreSameNumbers xs ys → ascending xs ≡ ascending ys
same_ascending xs ys same =
    one_up (ascending xs) (ascending ys) (up_ascending xs) (up_ascending ys)
    (λ n. sum_ascending (λ z. cond {A = ℕ} (nat_eq n z) 1 0) xs ∙ same n ∙ sym (sum_ascending (λ z. cond {A = ℕ} (nat_eq n z) 1 0) ys))

pub same_sum : (f : ℕ → ℕ) (xs ys : List ℕ) → AreSameNumbers xs ys → sum_by f xs ≡ sum_by f ys
same_sum f xs ys same = sym (sum_ascending f xs) ∙ ap (sum_by f) (same_ascending xs ys same) ∙ sum_ascending f ys

ones : (xs : List ℕ) → sum_by (λ (n : ℕ). 1) xs ≡ length xs
ones [] = refl
ones (x ∷ xs) =
    let first : sum_by (λ (n : ℕ). 1) (x ∷ xs) ≡ 1 + sum_by (λ (n : ℕ). 1) xs = sum_by-cons (λ (n : ℕ). 1) x xs in
    omega (arith, first, ones xs)

pub same_length : (xs ys : List ℕ) → AreSameNumbers xs ys → length xs ≡ length ys
same_length xs ys same = sym (ones xs) ∙ same_sum (λ (n : ℕ). 1) xs ys same ∙ ones ys

pub same_least : (q : ℕ → Bool) (xs ys : List ℕ) → AreSameNumbers xs ys → least_three (filter q xs) ≡ least_three (filter q ys)
same_least q xs ys same =
    ap (take 3) (same_ascending (filter q xs) (filter q ys)
    (λ n. counted_filter q n xs ∙ ap (λ (m : ℕ). cond {A = ℕ} (q n) m 0) (same n) ∙ sym (counted_filter q n ys)))

pub any_counted : (n : ℕ) (xs : List ℕ) → list_any (nat_eq n) xs ≡ nat_le 1 (counted n xs)
any_counted n [] = refl
any_counted n (x ∷ xs) = go (nat_eq n x) refl (any_counted n xs)
  where
    go : (b : Bool) → nat_eq n x ≡ b → list_any (nat_eq n) xs ≡ nat_le 1 (counted n xs) → (nat_eq n x || list_any (nat_eq n) xs) ≡ nat_le 1 (counted n (x ∷ xs))
    go true e ih =
        ap (λ (b : Bool). b || list_any (nat_eq n) xs) e
        ∙ sym (ap (nat_le 1) (count_yes (nat_eq n) x xs e) ∙ le-leb 1 (1 + counted n xs) (omega arith))
    go false e ih = ap (λ (b : Bool). b || list_any (nat_eq n) xs) e ∙ ih ∙ sym (ap (nat_le 1) (count_no (nat_eq n) x xs e))

pub same_member : (n : ℕ) (xs ys : List ℕ) → AreSameNumbers xs ys → list_any (nat_eq n) xs ≡ list_any (nat_eq n) ys
same_member n xs ys same = any_counted n xs ∙ ap (nat_le 1) (same n) ∙ sym (any_counted n ys)
