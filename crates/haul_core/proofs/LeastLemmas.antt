-- The list `least_three numbers` has the three lowest of the numbers, and it is the only such list.
use Rattle.std.proofs.Common.{◌≡◌, ◌∙◌, ◌+◌, ◌≤◌, ◌++◌, ◌⊎◌, ℕ, zero, suc, cond, nat_eq, List, [], ◌∷◌, All, append-nil, drop, length, take}
use Rattle.std.proofs.Common.{ap, arith, inl, inr, refl, sym}
use Rattle.std.specs.List.{AllByRecursion}
use Rattle.std.proofs.lemmas.List.{take-append-drop, take_all, take_at}
use Rattle.std.proofs.lemmas.List.Elements.{All-from_recursion, recursion_from_All}
use Rattle.std.proofs.lemmas.List.Sums.{sum_by-append}
use Rattle.haul_core.specs.SampleSteps.{ascending, least_three}
use Rattle.haul_core.specs.Samples.{AreLeastThree, IsAscending}
use Rattle.haul_core.proofs.JoinedSamples.{ascending-ascending, take-ascending}
use Rattle.haul_core.proofs.MissingLemmas.{counted}
use Rattle.haul_core.proofs.NumberLemmas.{IsUp, all_lower, all_with, one_up, sum_ascending, up_ascending}

-- 1 for this number, and 0 for any other
abbrev unit : ℕ → ℕ → ℕ
unit n z = cond {A = ℕ} (nat_eq n z) 1 0

all_drop : (k x : ℕ) (xs : List ℕ) → AllByRecursion (λ y. x ≤ y) xs → AllByRecursion (λ y. x ≤ y) (drop k xs)
all_drop zero x xs all = all
all_drop (suc k) x [] all = tt
all_drop (suc k) x (y ∷ ys) all = all_drop k x ys all.1

-- the first k of ascending numbers are no greater than the others
firsts_lower : (k : ℕ) (xs : List ℕ) → IsUp xs → AllByRecursion (λ m. All (λ n. m ≤ n) (drop k xs)) (take k xs)
firsts_lower zero xs up = tt
firsts_lower (suc k) [] up = tt
firsts_lower (suc k) (x ∷ xs) up = (All-from_recursion (λ n. x ≤ n) (drop k xs) (all_drop k x xs up.0), firsts_lower k xs up.1)

few_first : (xs : List ℕ) → length (take 3 xs) ≤ 3
few_first [] = omega arith
few_first (a ∷ []) = omega arith
few_first (a ∷ b ∷ []) = omega arith
few_first (a ∷ b ∷ c ∷ xs) = omega arith

three_first : (xs : List ℕ) → (length (take 3 xs) ≡ 3) ⊎ (drop 3 xs ≡ [])
three_first [] = inr refl
three_first (a ∷ []) = inr refl
three_first (a ∷ b ∷ []) = inr refl
three_first (a ∷ b ∷ c ∷ xs) = inl refl

pub least_is : (numbers : List ℕ) → AreLeastThree numbers (least_three numbers)
least_is numbers = record {
  others = drop 3 (ascending numbers);
  all = λ n. ap (counted n) (take-append-drop 3 (ascending numbers)) ∙ sum_ascending (unit n) numbers;
  ascending = take-ascending 3 (ascending numbers) (ascending-ascending numbers);
  lower = All-from_recursion (λ m. All (λ n. m ≤ n) (drop 3 (ascending numbers))) (take 3 (ascending numbers))
      (firsts_lower 3 (ascending numbers) (up_ascending numbers));
  few = few_first (ascending numbers);
  three = three_first (ascending numbers);
}

up_of : (xs : List ℕ) → IsAscending xs → IsUp xs
up_of [] h = tt
up_of (x ∷ []) h = (tt, tt)
up_of (x ∷ y ∷ xs) h = let remainder : IsUp (y ∷ xs) = up_of (y ∷ xs) h.1 in ((h.0, all_lower x y xs h.0 remainder.0), remainder)

all_both : (x : ℕ) (xs ys : List ℕ) → AllByRecursion (λ y. x ≤ y) xs → AllByRecursion (λ y. x ≤ y) ys → AllByRecursion (λ y. x ≤ y) (xs ++ ys)
all_both x [] ys a b = b
all_both x (y ∷ xs) ys a b = (a.0, all_both x xs ys a.1 b)

all_ascending : (x : ℕ) (xs : List ℕ) → AllByRecursion (λ y. x ≤ y) xs → AllByRecursion (λ y. x ≤ y) (ascending xs)
all_ascending x [] all = tt
all_ascending x (y ∷ ys) all = all_with x y (ascending ys) all.0 (all_ascending x ys all.1)

-- if `xs` ascends, and no number of `ys` is lower than a number of `xs`, the list `xs ++ ascending ys` ascends
up_both : (xs ys : List ℕ) → IsUp xs → AllByRecursion (λ m. All (λ n. m ≤ n) ys) xs → IsUp (xs ++ ascending ys)
up_both [] ys up lower = up_ascending ys
up_both (x ∷ xs) ys up lower =
    (all_both x xs (ascending ys) up.0 (all_ascending x ys (recursion_from_All (λ n. x ≤ n) ys lower.0)), up_both xs ys up.1 lower.1)

pub one_least : (numbers least : List ℕ) → AreLeastThree numbers least → least ≡ least_three numbers
one_least numbers least l =
    let lower = recursion_from_All (λ m. All (λ n. m ≤ n) l.others) least l.lower in
    let whole : least ++ ascending l.others ≡ ascending numbers =
    one_up (least ++ ascending l.others) (ascending numbers) (up_both least l.others (up_of least l.ascending) lower) (up_ascending numbers)
    (λ n. sum_by-append (unit n) least (ascending l.others) ∙ ap (λ (m : ℕ). counted n least + m) (sum_ascending (unit n) l.others)
    ∙ sym (sum_by-append (unit n) least l.others) ∙ l.all n ∙ sym (sum_ascending (unit n) numbers)) in
    sym (prefix l.three) ∙ ap (take 3) whole
  where
    prefix : (length least ≡ 3) ⊎ (l.others ≡ []) → take 3 (least ++ ascending l.others) ≡ least
    prefix (inl three) = take_at least (ascending l.others) 3 three
    prefix (inr none) =
        ap (λ (ys : List ℕ). take 3 (least ++ ascending ys)) none ∙ ap (take 3) (append-nil least) ∙ take_all 3 least l.few

pub determined : (numbers one other : List ℕ) → AreLeastThree numbers one → AreLeastThree numbers other → one ≡ other
determined numbers one other h k = one_least numbers one h ∙ sym (one_least numbers other k)
