-- Keeping the three lowest of some numbers, one number at a time.
use Rattle.std.proofs.Common.{◌≡◌, ◌∙◌, ◌+◌, ◌<◌, ◌≤◌, ℕ, zero, suc, Bool, cond, List, []}
use Rattle.std.proofs.Common.{◌∷◌, ◌++◌, ap, sym, subst, refl, arith, length, take, drop, get_or, set, inl, inr, ◌⊎◌, add-zero}
use Rattle.std.proofs.lemmas.Bool.{cases_lt, cases_order, le-leb, lt-leb}
use Rattle.std.proofs.lemmas.List.{append_assoc, drop-drop, drop-set-lt, drop_more, get_or-drop}
use Rattle.std.proofs.lemmas.List.{get_or-take, length-set, length-take-le, take-take, take_more, take_more_set}
use Rattle.haul_core.specs.SampleSteps.{ascending, with_number}
use Rattle.haul_core.specs.Samples.{IsAscending}

pub with_least : (n x : ℕ) (more : List ℕ) → n ≤ x → with_number n (x ∷ more) ≡ n ∷ x ∷ more
with_least n x more h = ap (λ (b : Bool). cond b (n ∷ x ∷ more) (x ∷ with_number n more)) (le-leb n x h)

pub with_greater : (n x : ℕ) (more : List ℕ) → x < n → with_number n (x ∷ more) ≡ x ∷ with_number n more
with_greater n x more h = ap (λ (b : Bool). cond b (n ∷ x ∷ more) (x ∷ with_number n more)) (lt-leb n x h)

-- if the first of ascending numbers is inserted into the others, it is the first again
pub with_first : (x : ℕ) (more : List ℕ) → IsAscending (x ∷ more) → with_number x more ≡ x ∷ more
with_first x [] h = refl
with_first x (y ∷ more) h = with_least x y more h.0

-- ---- dropping all but the first `k` numbers before an insertion doesn't change the first `k` after it

pub take_with : (k n : ℕ) (xs : List ℕ) → take k (with_number n (take k xs)) ≡ take k (with_number n xs)
take_with zero n xs = refl
take_with (suc k) n [] = refl
take_with (suc k) n (x ∷ more) = elim (cases_lt x n) [
  | inl greater ↦ ap (take (suc k)) (with_greater n x (take k more) greater) ∙ ap (λ (ys : List ℕ). x ∷ ys) (take_with k n more)
      ∙ sym (ap (take (suc k)) (with_greater n x more greater))
  | inr least ↦ ap (take (suc k)) (with_least n x (take k more) least) ∙ ap (λ (ys : List ℕ). n ∷ ys) (take-take k (suc k) (x ∷ more) (omega arith))
      ∙ sym (ap (take (suc k)) (with_least n x more least))
]

-- ---- a number is inserted among the first `count` numbers of an array

-- the places before `place` are done, the other places are unchanged, and `left` is still to be inserted
pub record Putting (old : List ℕ) (count number : ℕ) (numbers : List ℕ) (left place : ℕ) : Type 0 where
  pub long : length numbers ≡ length old
  pub done : take place numbers ++ with_number left (drop place (take count old)) ≡ with_number number (take count old)
  pub remainder : drop place numbers ≡ drop place old
  pub ascending : IsAscending (drop place (take count old))

ascending_tail : (x : ℕ) (xs : List ℕ) → IsAscending (x ∷ xs) → IsAscending xs
ascending_tail x [] h = tt
ascending_tail x (y ∷ ys) h = h.1

-- the number at the place is still that of the old list
next_old : (old : List ℕ) (count number : ℕ) (numbers : List ℕ) (left place : ℕ) → count ≤ length old → place < count
    → Putting old count number numbers left place
    → drop place (take count old) ≡ get_or numbers place 0 ∷ drop (place + 1) (take count old)
next_old old count number numbers left place few low p =
    let long : length (take count old) ≡ count = length-take-le count old few in
    let here : get_or (take count old) place 0 ≡ get_or numbers place 0 =
    get_or-take count old place 0 low ∙ ap (λ (n : ℕ). get_or old n 0) (sym (add-zero place)) ∙ sym (get_or-drop place old 0 0)
    ∙ ap (λ (xs : List ℕ). get_or xs 0 0) (sym p.remainder) ∙ get_or-drop place numbers 0 0 ∙ ap (λ (n : ℕ). get_or numbers n 0) (add-zero place) in
    drop_more (take count old) place 0 (omega arith) ∙ ap (λ (x : ℕ). x ∷ drop (place + 1) (take count old)) here

remainder_more : (xs ys : List ℕ) (i : ℕ) → drop i xs ≡ drop i ys → drop (i + 1) xs ≡ drop (i + 1) ys
remainder_more xs ys i e = sym (drop-drop 1 i xs) ∙ ap (drop 1) e ∙ drop-drop 1 i ys

pub putting_low : (old : List ℕ) (count number : ℕ) (numbers : List ℕ) (left place : ℕ) → count ≤ length old → place < count → left ≤ get_or numbers place 0
    → Putting old count number numbers left place → Putting old count number (set numbers place left) (get_or numbers place 0) (place + 1)
putting_low old count number numbers left place few low h p =
    let kept : ℕ = get_or numbers place 0 in
    let remainder : List ℕ = drop (place + 1) (take count old) in
    let next = next_old old count number numbers left place few low p in
    let up : IsAscending (kept ∷ remainder) = subst IsAscending next p.ascending in
    let long : length numbers ≡ length old = p.long in
    record {
      long = length-set numbers place left ∙ p.long;
      done = ap (λ (xs : List ℕ). xs ++ with_number kept remainder) (take_more_set numbers place left (omega arith))
          ∙ append_assoc (take place numbers) (left ∷ []) (with_number kept remainder)
          ∙ ap (λ (xs : List ℕ). take place numbers ++ left ∷ xs) (with_first kept remainder up)
          ∙ ap (λ (xs : List ℕ). take place numbers ++ xs) (sym (with_least left kept remainder h))
          ∙ ap (λ (xs : List ℕ). take place numbers ++ with_number left xs) (sym next)
          ∙ p.done;
      remainder = drop-set-lt (place + 1) numbers place left (omega arith) ∙ remainder_more numbers old place p.remainder;
      ascending = ascending_tail kept remainder up;
    }

pub putting_high : (old : List ℕ) (count number : ℕ) (numbers : List ℕ) (left place : ℕ) → count ≤ length old → place < count → get_or numbers place 0 < left
    → Putting old count number numbers left place → Putting old count number numbers left (place + 1)
putting_high old count number numbers left place few low h p =
    let kept : ℕ = get_or numbers place 0 in
    let remainder : List ℕ = drop (place + 1) (take count old) in
    let next = next_old old count number numbers left place few low p in
    let up : IsAscending (kept ∷ remainder) = subst IsAscending next p.ascending in
    let long : length numbers ≡ length old = p.long in
    record {
      long = p.long;
      done = ap (λ (xs : List ℕ). xs ++ with_number left remainder) (take_more numbers place 0 (omega arith))
          ∙ append_assoc (take place numbers) (kept ∷ []) (with_number left remainder)
          ∙ ap (λ (xs : List ℕ). take place numbers ++ xs) (sym (with_greater left kept remainder h))
          ∙ ap (λ (xs : List ℕ). take place numbers ++ with_number left xs) (sym next)
          ∙ p.done;
      remainder = remainder_more numbers old place p.remainder;
      ascending = ascending_tail kept remainder up;
    }

-- ---- the order in which numbers are inserted doesn't matter

pub with_two : (a b : ℕ) (xs : List ℕ) → with_number a (with_number b xs) ≡ with_number b (with_number a xs)
with_two a b [] = go (cases_order a b)
  where
    go : (a ≡ b) ⊎ ((a < b) ⊎ (b < a)) → with_number a (b ∷ []) ≡ with_number b (a ∷ [])
    go (inl same) = λ i. with_number (same i) (sym same i ∷ [])
    go (inr (inl less)) = with_least a b [] (omega arith) ∙ sym (with_greater b a [] less)
    go (inr (inr more)) = with_greater a b [] more ∙ sym (with_least b a [] (omega arith))
with_two a b (x ∷ xs) = go (cases_lt x a) (cases_lt x b) (cases_order a b) (with_two a b xs)
  where
    go : (x < a) ⊎ (a ≤ x) → (x < b) ⊎ (b ≤ x) → (a ≡ b) ⊎ ((a < b) ⊎ (b < a)) → with_number a (with_number b xs) ≡ with_number b (with_number a xs)
        → with_number a (with_number b (x ∷ xs)) ≡ with_number b (with_number a (x ∷ xs))
    go (inl xa) (inl xb) order remainder =
        ap (with_number a) (with_greater b x xs xb) ∙ with_greater a x (with_number b xs) xa ∙ ap (λ (ys : List ℕ). x ∷ ys) remainder
        ∙ sym (ap (with_number b) (with_greater a x xs xa) ∙ with_greater b x (with_number a xs) xb)
    go (inl xa) (inr bx) order remainder =
        ap (with_number a) (with_least b x xs bx) ∙ with_greater a b (x ∷ xs) (omega arith) ∙ ap (λ (ys : List ℕ). b ∷ ys) (with_greater a x xs xa)
        ∙ sym (ap (with_number b) (with_greater a x xs xa) ∙ with_least b x (with_number a xs) bx)
    go (inr ax) (inl xb) order remainder =
        ap (with_number a) (with_greater b x xs xb) ∙ with_least a x (with_number b xs) ax
        ∙ sym (ap (with_number b) (with_least a x xs ax) ∙ with_greater b a (x ∷ xs) (omega arith) ∙ ap (λ (ys : List ℕ). a ∷ ys) (with_greater b x xs xb))
    go (inr ax) (inr bx) (inl same) remainder = λ i. with_number (same i) (with_number (sym same i) (x ∷ xs))
    go (inr ax) (inr bx) (inr (inl less)) remainder =
        ap (with_number a) (with_least b x xs bx) ∙ with_least a b (x ∷ xs) (omega arith)
        ∙ sym (ap (with_number b) (with_least a x xs ax) ∙ with_greater b a (x ∷ xs) less ∙ ap (λ (ys : List ℕ). a ∷ ys) (with_least b x xs bx))
    go (inr ax) (inr bx) (inr (inr more)) remainder =
        ap (with_number a) (with_least b x xs bx) ∙ with_greater a b (x ∷ xs) more ∙ ap (λ (ys : List ℕ). b ∷ ys) (with_least a x xs ax)
        ∙ sym (ap (with_number b) (with_least a x xs ax) ∙ with_least b a (x ∷ xs) (omega arith))

pub ascending_push : (xs : List ℕ) (n : ℕ) → ascending (xs ++ n ∷ []) ≡ with_number n (ascending xs)
ascending_push [] n = refl
ascending_push (x ∷ xs) n = ap (with_number x) (ascending_push xs n) ∙ with_two x n (ascending xs)
