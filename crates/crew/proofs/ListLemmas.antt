-- Facts about lists: subsequences, tests of items, ascending numbers, numbers at places, ranges.
use Rattle.std.proofs.Common.{◌≡◌, ◌<◌, ◌≤◌, ◌+◌, ◌-◌, ◌++◌, ◌∙◌, ℕ, zero, suc, All, Bool, true, false, true≢false, List, [], ◌∷◌, ap, arith}
use Rattle.std.proofs.Common.{cond, filter, get_or, inl, inr, length, map, nat_eq, refl, subst, sym, ⊎_elim}
use Rattle.std.specs.Prelude.{AllPairs, Contains, count_by, slice_index}
use Rattle.std.specs.List.{IsDistinct, range_with_len}
use Rattle.std.proofs.lemmas.Bool.{ne_eqb}
use Rattle.std.proofs.lemmas.List.Elements.{All-cons, All-head, All-nil, All-tail, Contains-get_or}
use Rattle.std.proofs.lemmas.List.FromFn.{get_or-range_with_len, length-range_with_len}
use Rattle.std.proofs.lemmas.List.Kept.{AllPairs-cons}
use Rattle.std.proofs.lemmas.List.Sums.{sum_by-append, sum_by-cons}
use Rattle.std.proofs.lemmas.Map.Keys.{IsDistinct-tail}
use mathlib.Core.Logic.{dite}
use native.Mathlib.Decide.{ℕ_discrete}
use Rattle.haul_core.specs.Subsequences.{IsSubsequence}

-- ---- subsequences and parts of a list

module _ {X : Type 0} where
  pub part_none : (xs : List X) → IsSubsequence [] xs
  part_none [] = refl
  part_none (x ∷ xs) = inl (part_none xs)

  pub part_all : (xs : List X) → IsSubsequence xs xs
  part_all [] = refl
  part_all (x ∷ xs) = inr (xs, refl, part_all xs)

  pub part_append : (part xs more ys : List X) → IsSubsequence part xs → IsSubsequence more ys
      → IsSubsequence (part ++ more) (xs ++ ys)
  part_append part [] more ys p q = subst (λ (l : List X). IsSubsequence (l ++ more) ys) (sym p) q
  part_append part (x ∷ xs) more ys p q =
      ⊎_elim (λ (h : IsSubsequence part xs). inl (part_append part xs more ys h q))
      (λ (h : (remainder : List X) × (part ≡ x ∷ remainder) × IsSubsequence remainder xs).
      inr (h.0 ++ more, ap (λ (l : List X). l ++ more) h.1, part_append h.0 xs more ys h.2 q)) p

module _ {X : Type 0} (P : X → Type 0) where
  pub all_left : (xs ys : List X) → All P (xs ++ ys) → All P xs
  all_left [] ys h = All-nil P
  all_left (x ∷ xs) ys h = All-cons P x xs (All-head P x (xs ++ ys) h) (all_left xs ys (All-tail P x (xs ++ ys) h))

  pub all_right : (xs ys : List X) → All P (xs ++ ys) → All P ys
  all_right [] ys h = h
  all_right (x ∷ xs) ys h = all_right xs ys (All-tail P x (xs ++ ys) h)

  pub all_part : (part xs : List X) → IsSubsequence part xs → All P xs → All P part
  all_part part [] p h = subst (All P) (sym p) (All-nil P)
  all_part part (x ∷ xs) p h =
      ⊎_elim (λ (q : IsSubsequence part xs). all_part part xs q (All-tail P x xs h))
      (λ (q : (remainder : List X) × (part ≡ x ∷ remainder) × IsSubsequence remainder xs).
      subst (All P) (sym q.1) (All-cons P x q.0 (All-head P x xs h) (all_part q.0 xs q.2 (All-tail P x xs h)))) p

-- if all images under `f` have a property, `f x` has it for each item `x`
pub all_unmap : {X Y : Type 0} (P : Y → Type 0) (f : X → Y) (xs : List X) → All P (map f xs) → All (λ x. P (f x)) xs
all_unmap P f [] h = All-nil (λ x. P (f x))
all_unmap P f (x ∷ xs) h =
    All-cons (λ y. P (f y)) x xs (All-head P (f x) (map f xs) h) (all_unmap P f xs (All-tail P (f x) (map f xs) h))

-- one more item adds 1 to the count if it passes the test
pub count_cons : {X : Type 0} (p : X → Bool) (x : X) (xs : List X) → count_by p (x ∷ xs) ≡ cond {A = ℕ} (p x) 1 0 + count_by p xs
count_cons p x xs = sum_by-cons (λ y. cond {A = ℕ} (p y) 1 0) x xs

pub count_append : {X : Type 0} (p : X → Bool) (xs ys : List X) → count_by p (xs ++ ys) ≡ count_by p xs + count_by p ys
count_append p xs ys = sum_by-append (λ y. cond {A = ℕ} (p y) 1 0) xs ys

pub count_none : {X : Type 0} (p : X → Bool) (xs : List X) → All (λ x. p x ≡ false) xs → count_by p xs ≡ 0
count_none p [] none = refl
count_none p (x ∷ xs) none =
    let here : cond {A = ℕ} (p x) 1 0 ≡ 0 = ap (λ (b : Bool). cond {A = ℕ} b 1 0) (All-head (λ y. p y ≡ false) x xs none) in
    let more = count_none p xs (All-tail (λ y. p y ≡ false) x xs none) in
    let all = count_cons p x xs in
    omega arith

pub count_all : {X : Type 0} (p : X → Bool) (xs : List X) → All (λ x. p x ≡ true) xs → count_by p xs ≡ length xs
count_all p [] every = refl
count_all p (x ∷ xs) every =
    let here : cond {A = ℕ} (p x) 1 0 ≡ 1 = ap (λ (b : Bool). cond {A = ℕ} b 1 0) (All-head (λ y. p y ≡ true) x xs every) in
    let more = count_all p xs (All-tail (λ y. p y ≡ true) x xs every) in
    let all = count_cons p x xs in
    omega arith

-- if q implies p, and no item that passes p passes q, then no item passes q
pub none_pass : (p q : ℕ → Bool) (xs : List ℕ) → ((n : ℕ) → q n ≡ true → p n ≡ true) → All (λ n. q n ≡ false) (filter p xs)
    → filter q xs ≡ []
none_pass p q [] says none = refl
none_pass p q (x ∷ xs) says none = go (λ h. none_pass p q xs says h) (q x) (p x) refl refl none
  where
    go : (All (λ n. q n ≡ false) (filter p xs) → filter q xs ≡ []) → (a b : Bool) → q x ≡ a → p x ≡ b
        → All (λ n. q n ≡ false) (cond b (x ∷ filter p xs) (filter p xs)) → cond a (x ∷ filter q xs) (filter q xs) ≡ []
    go more true true is also h = absurd (true≢false (sym is ∙ All-head (λ n. q n ≡ false) x (filter p xs) h))
    go more true false is also h = absurd (true≢false (sym (says x is) ∙ also))
    go more false true is also h = more (All-tail (λ n. q n ≡ false) x (filter p xs) h)
    go more false false is also h = more h

-- ---- numbers that ascend

abbrev pub Rises : List ℕ → Type 0
Rises xs = AllPairs (λ x y. x < y) xs

rises_head : (x : ℕ) (xs : List ℕ) → Rises (x ∷ xs) → All (λ y. x < y) xs
rises_head x xs h k d lt = h 0 (suc k) d (omega arith) (omega arith)

rises_tail : (x : ℕ) (xs : List ℕ) → Rises (x ∷ xs) → Rises xs
rises_tail x xs h i j d lt below = h (suc i) (suc j) d (omega arith) (omega arith)

pub rises_left : (xs ys : List ℕ) → Rises (xs ++ ys) → Rises xs
rises_left [] ys h = λ i j d lt below. absurd (omega arith)
rises_left (x ∷ xs) ys h =
    AllPairs-cons (λ a b. a < b) x xs (all_left (λ y. x < y) xs ys (rises_head x (xs ++ ys) h)) (rises_left xs ys (rises_tail x (xs ++ ys) h))

pub rises_part : (part xs : List ℕ) → IsSubsequence part xs → Rises xs → Rises part
rises_part part [] p h = subst Rises (sym p) h
rises_part part (x ∷ xs) p h =
    ⊎_elim (λ (q : IsSubsequence part xs). rises_part part xs q (rises_tail x xs h))
    (λ (q : (remainder : List ℕ) × (part ≡ x ∷ remainder) × IsSubsequence remainder xs).
    subst Rises (sym q.1) (AllPairs-cons (λ a b. a < b) x q.0 (all_part (λ y. x < y) q.0 xs q.2 (rises_head x xs h))
    (rises_part q.0 xs q.2 (rises_tail x xs h)))) p

pub distinct_right : (xs ys : List ℕ) → IsDistinct nat_eq (xs ++ ys) → IsDistinct nat_eq ys
distinct_right [] ys h = h
distinct_right (x ∷ xs) ys h = distinct_right xs ys (IsDistinct-tail nat_eq x (xs ++ ys) h)

-- ---- numbers at places of a list

pub at_places : (missing places : List ℕ) → All (λ t. t < length missing) places → All (Contains missing) (map (slice_index missing) places)
at_places missing [] below = All-nil (Contains missing)
at_places missing (t ∷ ts) below =
    All-cons (Contains missing) (slice_index missing t) (map (slice_index missing) ts)
    (Contains-get_or missing t 0 (All-head (λ s. s < length missing) t ts below))
    (at_places missing ts (All-tail (λ s. s < length missing) t ts below))

above : (missing : List ℕ) → Rises missing → (t : ℕ) (ts : List ℕ) → All (λ s. t < s) ts → All (λ s. s < length missing) ts
    → All (λ n. slice_index missing t < n) (map (slice_index missing) ts)
above missing up t [] more below = All-nil (λ n. slice_index missing t < n)
above missing up t (s ∷ ss) more below =
    All-cons (λ n. slice_index missing t < n) (slice_index missing s) (map (slice_index missing) ss)
    (up t s 0 (All-head (λ u. t < u) s ss more) (All-head (λ u. u < length missing) s ss below))
    (above missing up t ss (All-tail (λ u. t < u) s ss more) (All-tail (λ u. u < length missing) s ss below))

pub rises_at : (missing places : List ℕ) → Rises missing → Rises places → All (λ t. t < length missing) places → Rises (map (slice_index missing) places)
rises_at missing [] up rise below = λ i j d lt small. absurd (omega arith)
rises_at missing (t ∷ ts) up rise below =
    AllPairs-cons (λ a b. a < b) (slice_index missing t) (map (slice_index missing) ts)
    (above missing up t ts (rises_head t ts rise) (All-tail (λ s. s < length missing) t ts below))
    (rises_at missing ts up (rises_tail t ts rise) (All-tail (λ s. s < length missing) t ts below))

-- what holds for the numbers at these places holds for the number at place `t`, if `t` is one of the places
pub at_place : (P : ℕ → Type 0) (missing places : List ℕ) (t : ℕ) → All P (map (slice_index missing) places)
    → 1 ≤ count_by (nat_eq t) places → P (slice_index missing t)
at_place P missing [] t all some = absurd (let none : count_by (nat_eq t) [] ≡ 0 = refl in omega (arith, some, none))
at_place P missing (u ∷ us) t all some =
    dite (ℕ_discrete t u)
    (λ same. subst (λ (v : ℕ). P (slice_index missing v)) (sym same) (All-head P (slice_index missing u) (map (slice_index missing) us) all))
    (λ apart.
    let here : cond {A = ℕ} (nat_eq t u) 1 0 ≡ 0 = ap (λ (b : Bool). cond {A = ℕ} b 1 0) (ne_eqb t u apart) in
    let both = count_cons (nat_eq t) u us in
    at_place P missing us t (All-tail P (slice_index missing u) (map (slice_index missing) us) all) (omega (arith, some, here, both)))

-- ---- ranges

-- what holds for all numbers of a range holds for each number from `first` up to, but not including, `first + n`
pub in_range : (P : ℕ → Type 0) (first n w : ℕ) → All P (range_with_len first n) → first ≤ w → w < first + n → P w
in_range P first n w all le lt =
    let long = length-range_with_len first n in
    let here : get_or (range_with_len first n) (w - first) 0 ≡ w =
    get_or-range_with_len first n (w - first) 0 (omega (arith, le, lt)) ∙ omega (arith, le) in
    subst P here (all (w - first) 0 (omega (arith, long, le, lt)))

pub range_within : (first n last : ℕ) → first + n ≤ last + 1 → All (λ v. (first ≤ v) × (v ≤ last)) (range_with_len first n)
range_within first zero last le = All-nil (λ v. (first ≤ v) × (v ≤ last))
range_within first (suc n) last le =
    let more = range_within (first + 1) n last (omega arith) in
    All-cons (λ v. (first ≤ v) × (v ≤ last)) first (range_with_len (first + 1) n) (omega arith, omega arith)
    (λ k d lt. let m = more k d lt in (omega (arith, m.0), m.1))
