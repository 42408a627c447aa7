-- To find the three lowest numbers of two lists together, the three lowest of each list are enough.
use Rattle.std.proofs.Common.{◌≡◌, ◌∙◌, ◌≤◌, ◌<◌, ◌++◌, ℕ, zero, suc, List, [], ◌∷◌, take, ap, sym, refl, arith, subst, inl, inr, ◌⊎◌}
use Rattle.std.proofs.lemmas.Bool.{cases_lt}
use Rattle.std.proofs.lemmas.List.{append_assoc, append-nil}
use Rattle.haul_core.specs.SampleSteps.{ascending, least_three, with_each, with_number}
use Rattle.haul_core.specs.Samples.{IsAscending}
use Rattle.haul_core.proofs.SampleLemmas.{ascending_push, take_with, with_first, with_greater, with_least}

-- inserting a number keeps a list ascending
with-ascending : (n : ℕ) (xs : List ℕ) → IsAscending xs → IsAscending (with_number n xs)
with-ascending n [] h = tt
with-ascending n (x ∷ []) h = go (cases_lt x n)
  where
    go : (x < n) ⊎ (n ≤ x) → IsAscending (with_number n (x ∷ []))
    go (inl more) = subst IsAscending (sym (with_greater n x [] more)) (omega arith, tt)
    go (inr least) = subst IsAscending (sym (with_least n x [] least)) (least, tt)
with-ascending n (x ∷ y ∷ xs) h = go (cases_lt x n) (cases_lt y n) (with-ascending n (y ∷ xs) h.1)
  where
    go : (x < n) ⊎ (n ≤ x) → (y < n) ⊎ (n ≤ y) → IsAscending (with_number n (y ∷ xs)) → IsAscending (with_number n (x ∷ y ∷ xs))
    go (inr least) any remainder = subst IsAscending (sym (with_least n x (y ∷ xs) least)) (least, h)
    go (inl more) (inl past) remainder = subst IsAscending (sym (with_greater n x (y ∷ xs) more ∙ ap (λ (t : List ℕ). x ∷ t) (with_greater n y xs past)))
        (h.0, subst IsAscending (with_greater n y xs past) remainder)
    go (inl more) (inr here) remainder = subst IsAscending (sym (with_greater n x (y ∷ xs) more ∙ ap (λ (t : List ℕ). x ∷ t) (with_least n y xs here)))
        (omega arith, subst IsAscending (with_least n y xs here) remainder)

pub ascending-ascending : (xs : List ℕ) → IsAscending (ascending xs)
ascending-ascending [] = tt
ascending-ascending (x ∷ xs) = with-ascending x (ascending xs) (ascending-ascending xs)

pub take-ascending : (k : ℕ) (xs : List ℕ) → IsAscending xs → IsAscending (take k xs)
take-ascending zero xs h = tt
take-ascending (suc k) [] h = tt
take-ascending (suc k) (x ∷ []) h = go k
  where
    go : (k : ℕ) → IsAscending (x ∷ take k [])
    go zero = tt
    go (suc k) = tt
take-ascending (suc zero) (x ∷ y ∷ xs) h = tt
take-ascending (suc (suc k)) (x ∷ y ∷ xs) h = (h.0, take-ascending (suc k) (y ∷ xs) h.1)

-- sorting ascending numbers doesn't change them
ascending-same : (xs : List ℕ) → IsAscending xs → ascending xs ≡ xs
ascending-same [] h = refl
ascending-same (x ∷ []) h = refl
ascending-same (x ∷ y ∷ xs) h = ap (with_number x) (ascending-same (y ∷ xs) h.1) ∙ with_first x (y ∷ xs) h

-- if `ys` and `zs` have the same three lowest numbers, so do `xs ++ ys` and `xs ++ zs`
least_after : (xs ys zs : List ℕ) → least_three ys ≡ least_three zs → least_three (xs ++ ys) ≡ least_three (xs ++ zs)
least_after [] ys zs h = h
least_after (x ∷ xs) ys zs h =
    sym (take_with 3 x (ascending (xs ++ ys))) ∙ ap (λ (t : List ℕ). take 3 (with_number x t)) (least_after xs ys zs h) ∙ take_with 3 x (ascending (xs ++ zs))

least_of_least : (ys : List ℕ) → least_three (least_three ys) ≡ least_three ys
least_of_least ys =
    ap (take 3) (ascending-same (least_three ys) (take-ascending 3 (ascending ys) (ascending-ascending ys))) ∙ take-again (ascending ys)
  where
    take-again : (xs : List ℕ) → take 3 (take 3 xs) ≡ take 3 xs
    take-again [] = refl
    take-again (a ∷ []) = refl
    take-again (a ∷ b ∷ []) = refl
    take-again (a ∷ b ∷ c ∷ xs) = refl

each_is : (xs ns : List ℕ) → with_each (least_three xs) ns ≡ least_three (xs ++ ns)
each_is xs [] = ap least_three (sym (append-nil xs))
each_is xs (n ∷ ns) =
    ap (λ (t : List ℕ). with_each t ns) (take_with 3 n (ascending xs) ∙ ap (take 3) (sym (ascending_push xs n)))
    ∙ each_is (xs ++ n ∷ []) ns ∙ ap least_three (append_assoc xs (n ∷ []) ns)

pub least_of_both : (xs ys : List ℕ) → with_each (least_three xs) (least_three ys) ≡ least_three (xs ++ ys)
least_of_both xs ys = each_is xs (least_three ys) ∙ least_after xs (least_three ys) ys (least_of_least ys)

-- if only the three lowest numbers of each list are kept, the three lowest of both lists together stay the same
pub least_of_leasts : (xs ys : List ℕ) → least_three (least_three xs ++ least_three ys) ≡ least_three (xs ++ ys)
least_of_leasts xs ys =
    sym (each_is (least_three xs) (least_three ys)) ∙ ap (λ (t : List ℕ). with_each t (least_three ys)) (least_of_least xs)
    ∙ least_of_both xs ys
