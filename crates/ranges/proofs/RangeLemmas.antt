-- Ranges that share a number, and ranges in normal form.
use Rattle.std.proofs.Common.{◌≡◌, ◌∙◌, ◌+◌, ◌<◌, ◌≤◌, ℕ, Bool, true, false, List, [], ◌∷◌, ◌++◌, ap, sym}
use Rattle.std.proofs.Common.{subst, refl, arith, max, min, cond, count_by, inl, inr, length, drop, take, get_or, ◌||◌, ◌≢◌, zero-add}
use Rattle.std.proofs.lemmas.Bool.{and_from, and_parts, cases_Bool, cases_lt, false≢true, ltb-false, ltb-true, lt-ltb, leb-true, le-leb, or_parts}
use Rattle.std.proofs.lemmas.Bool.Decides.{nat_tests}
use Rattle.std.proofs.lemmas.List.{append_assoc, drop_all, drop_more}
use Rattle.std.proofs.lemmas.List.Elements.{All-cons, All-filter, All-head, All-nil, All-push, All-tail, All-weaker, filter_passes}
use Rattle.std.proofs.lemmas.List.Sorted.{All-permutation, IsNonDecreasingBy-drop, list_any-IsPermutation, sum_by-IsPermutation}
use Rattle.std.proofs.lemmas.List.Sums.{count_by_more_no, count_by_more_yes, sum_by-cons, sum_by-take-le}
use Rattle.std.specs.List.{All, filter, list_any}
use Rattle.std.specs.List.Sorted.{IsNonDecreasingBy, IsPermutation}
use Rattle.ranges.specs.declared.range.Range.{Range}
use Rattle.ranges.specs.RangeSteps.{Ascending, BeginFrom, has_numbers, shares}
use Rattle.ranges.specs.Ranges.{AreBelow, AreNormal, IsNormalForm, Overlap, end_of, is_in, is_in_range, number_bound, size_of}

pub in_range : (n : ℕ) (r : Range) → r.first ≤ n → n < end_of r → is_in_range n r ≡ true
in_range n r low high = and_from _ _ (le-leb r.first n low) (lt-ltb n (end_of r) high)

pub first_of_in : (n : ℕ) (r : Range) → is_in_range n r ≡ true → r.first ≤ n
first_of_in n r h = leb-true _ _ (and_parts _ _ h).0

pub end_of_in : (n : ℕ) (r : Range) → is_in_range n r ≡ true → n < end_of r
end_of_in n r h = ltb-true _ _ (and_parts _ _ h).1

-- if two ranges pass the test `shares`, they have a number in common
pub share_one : (a b : Range) → shares a b ≡ true → (n : ℕ) × (is_in_range n a ≡ true) × (is_in_range n b ≡ true)
share_one a b h =
    let low : max a.first b.first < min (end_of a) (end_of b) = ltb-true _ _ h in
    (max a.first b.first, in_range _ a (omega arith) (omega arith), in_range _ b (omega arith) (omega arith))

-- if two ranges have a number in common, they pass the test `shares`
pub shares_from : (n : ℕ) (a b : Range) → is_in_range n a ≡ true → is_in_range n b ≡ true → shares a b ≡ true
shares_from n a b in_a in_b =
    let la = first_of_in n a in_a in
    let ha = end_of_in n a in_a in
    let lb = first_of_in n b in_b in
    let hb = end_of_in n b in_b in
    lt-ltb (max a.first b.first) (min (end_of a) (end_of b)) (omega arith)

pub count_hit : {X : Type 0} (p : X → Bool) (x : X) (xs : List X) → p x ≡ true → count_by p (x ∷ xs) ≡ 1 + count_by p xs
count_hit p x xs h = sum_by-cons (λ y. cond {A = ℕ} (p y) 1 0) x xs ∙ ap (λ (b : Bool). cond {A = ℕ} b 1 0 + count_by p xs) h

pub count_miss : {X : Type 0} (p : X → Bool) (x : X) (xs : List X) → p x ≡ false → count_by p (x ∷ xs) ≡ count_by p xs
count_miss p x xs h = sum_by-cons (λ y. cond {A = ℕ} (p y) 1 0) x xs ∙ ap (λ (b : Bool). cond {A = ℕ} b 1 0 + count_by p xs) h ∙ zero-add (count_by p xs)

-- if r passes the test `shares` with one of the ranges rs, some number of r is in one of them
pub met : (r : Range) (rs : List Range) → list_any (shares r) rs ≡ true → (n : ℕ) × (is_in_range n r ≡ true) × (1 ≤ count_by (is_in_range n) rs)
met r [] h = absurd (false≢true h)
met r (x ∷ xs) h = elim (cases_Bool (shares r x)) [
  | inl hit ↦ let s = share_one r x hit in
      let few : count_by (is_in_range s.0) (x ∷ xs) ≡ 1 + count_by (is_in_range s.0) xs = count_hit (is_in_range s.0) x xs s.2 in
      (s.0, s.1, omega arith)
  | inr miss ↦ let more = met r xs (sym (ap (λ b. b || list_any (shares r) xs) miss) ∙ h) in
      (more.0, more.1, omega (arith, more.2, sum_by-cons (λ y. cond {A = ℕ} (is_in_range more.0 y) 1 0) x xs))
]

-- if r passes the test `shares` with none of the ranges rs, no number of r is in any of them
pub unmet : (n : ℕ) (r : Range) (rs : List Range) → list_any (shares r) rs ≡ false → is_in_range n r ≡ true → count_by (is_in_range n) rs ≡ 0
unmet n r [] h is = refl
unmet n r (x ∷ xs) h is = elim (cases_Bool (is_in_range n x)) [
  | inl hit ↦ absurd (false≢true (sym (or_parts _ _ h).0 ∙ shares_from n r x is hit))
  | inr miss ↦ count_miss (is_in_range n) x xs miss ∙ unmet n r xs (or_parts _ _ h).1 is
]

pub overlap_met : (ranges : List Range) (i : ℕ) (d : Range) → i < length ranges → list_any (shares (get_or ranges i d)) (take i ranges) ≡ true
    → Overlap ranges
overlap_met ranges i d low h =
    let m = met (get_or ranges i d) (take i ranges) h in
    let n : ℕ = m.0 in
    let two : 2 ≤ count_by (is_in_range n) (take (i + 1) ranges) = omega (arith, m.2, count_by_more_yes (is_in_range n) ranges i d low m.1) in
    (n, omega (arith, two, sum_by-take-le (λ r. cond {A = ℕ} (is_in_range n r) 1 0) ranges (i + 1)))

pub unmet_more : (ranges : List Range) (i : ℕ) (d : Range) → i < length ranges → list_any (shares (get_or ranges i d)) (take i ranges) ≡ false
    → ((n : ℕ) → count_by (is_in_range n) (take i ranges) ≤ 1) → (n : ℕ) → count_by (is_in_range n) (take (i + 1) ranges) ≤ 1
unmet_more ranges i d low h before n = elim (cases_Bool (is_in_range n (get_or ranges i d))) [
  | inl hit ↦ omega (arith, count_by_more_yes (is_in_range n) ranges i d low hit, unmet n (get_or ranges i d) (take i ranges) h hit)
  | inr miss ↦ omega (arith, count_by_more_no (is_in_range n) ranges i d low miss, before n)
]

-- ---- normal form

-- the state of the loop that joins ranges that touch: the ranges in `done` no longer change, the range `latest` may
-- still grow, and the loop has yet to read the ranges in `remainder`
pub record Joining (all done : List Range) (latest : Range) (remainder : List Range) : Type 0 where
  pub normal : AreNormal (done ++ latest ∷ [])
  pub ascending : Ascending (latest ∷ remainder)
  pub same : (n : ℕ) → is_in (done ++ latest ∷ remainder) n ≡ is_in all n
  pub size : size_of (done ++ latest ∷ remainder) ≡ size_of all
  pub done_below : AreBelow number_bound done
  pub below : AreBelow number_bound (latest ∷ remainder)

normal_last : (done : List Range) (a b : Range) → AreNormal (done ++ a ∷ []) → a.first ≡ b.first → 1 ≤ b.count → AreNormal (done ++ b ∷ [])
normal_last [] a b n e s = (s, tt, tt)
normal_last (x ∷ []) a b n e s = (n.0, subst (λ (f : ℕ). end_of x < f) e n.1, (s, tt, tt))
normal_last (x ∷ y ∷ more) a b n e s = (n.0, n.1, normal_last (y ∷ more) a b n.2 e s)

normal_two : (done : List Range) (a b : Range) → AreNormal (done ++ a ∷ []) → end_of a < b.first → 1 ≤ b.count → AreNormal (done ++ a ∷ b ∷ [])
normal_two [] a b n gap s = (n.0, gap, (s, tt, tt))
normal_two (x ∷ []) a b n gap s = (n.0, n.1, (n.2.0, gap, (s, tt, tt)))
normal_two (x ∷ y ∷ more) a b n gap s = (n.0, n.1, normal_two (y ∷ more) a b n.2 gap s)

abbrev pub grown : Range → Range → Range
grown a r = record { first = a.first; count = a.count + r.count }

in_grown : (n : ℕ) (a r : Range) → end_of a ≡ r.first → is_in_range n (grown a r) ≡ (is_in_range n a || is_in_range n r)
in_grown n a r e = grind (arith, nat_tests)

or_assoc : (a b c : Bool) → ((a || b) || c) ≡ (a || (b || c))
or_assoc true b c = refl
or_assoc false b c = refl

in_joined : (n : ℕ) (done : List Range) (a r : Range) (remainder : List Range) → end_of a ≡ r.first
    → is_in (done ++ grown a r ∷ remainder) n ≡ is_in (done ++ a ∷ r ∷ remainder) n
in_joined n [] a r remainder e = ap (λ (b : Bool). b || is_in remainder n) (in_grown n a r e) ∙ or_assoc (is_in_range n a) (is_in_range n r) (is_in remainder n)
in_joined n (x ∷ more) a r remainder e = ap (λ (b : Bool). is_in_range n x || b) (in_joined n more a r remainder e)

size_joined : (done : List Range) (a r : Range) (remainder : List Range) → size_of (done ++ grown a r ∷ remainder) ≡ size_of (done ++ a ∷ r ∷ remainder)
size_joined [] a r remainder =
    omega (arith, sum_by-cons (λ (x : Range). x.count) (grown a r) remainder, sum_by-cons (λ (x : Range). x.count) a (r ∷ remainder), sum_by-cons (λ (x : Range). x.count) r remainder)
size_joined (x ∷ more) a r remainder =
    sum_by-cons (λ (x : Range). x.count) x (more ++ grown a r ∷ remainder) ∙ ap (λ (n : ℕ). x.count + n) (size_joined more a r remainder)
    ∙ sym (sum_by-cons (λ (x : Range). x.count) x (more ++ a ∷ r ∷ remainder))

-- if the next range r begins at the end of the latest range a, then a grows by r
pub joining_touch : (all done : List Range) (a r : Range) (remainder : List Range) → end_of a ≡ r.first → Joining all done a (r ∷ remainder)
    → Joining all done (grown a r) remainder
joining_touch all done a r remainder e j =
    let end : end_of r ≡ end_of (grown a r) = omega arith in
    record {
      normal = normal_last done a (grown a r) j.normal refl (omega (arith, j.ascending.0));
      ascending = (omega (arith, j.ascending.0), subst (λ (p : ℕ). BeginFrom p remainder) end j.ascending.2.1, j.ascending.2.2);
      same = λ n. in_joined n done a r remainder e ∙ j.same n;
      size = size_joined done a r remainder ∙ j.size;
      done_below = j.done_below;
      below = All-cons (λ x. end_of x ≤ number_bound) (grown a r) remainder
          (subst (λ (p : ℕ). p ≤ number_bound) end (All-head (λ x. end_of x ≤ number_bound) r remainder (All-tail (λ x. end_of x ≤ number_bound) a (r ∷ remainder) j.below)))
          (All-tail (λ x. end_of x ≤ number_bound) r remainder (All-tail (λ x. end_of x ≤ number_bound) a (r ∷ remainder) j.below));
    }

-- if the next range r doesn't begin at the end of the latest range a, then a is done, and r is the latest range
pub joining_gap : (all done : List Range) (a r : Range) (remainder : List Range) → end_of a ≢ r.first → Joining all done a (r ∷ remainder)
    → Joining all (done ++ a ∷ []) r remainder
joining_gap all done a r remainder apart j =
    let goes : end_of a ≤ r.first = j.ascending.1 in
    let same : (done ++ a ∷ []) ++ r ∷ remainder ≡ done ++ a ∷ r ∷ remainder = append_assoc done (a ∷ []) (r ∷ remainder) in
    record {
      normal = subst AreNormal (sym (append_assoc done (a ∷ []) (r ∷ []))) (normal_two done a r j.normal (omega arith) j.ascending.2.0);
      ascending = j.ascending.2;
      same = λ n. ap (λ (xs : List Range). is_in xs n) same ∙ j.same n;
      size = ap size_of same ∙ j.size;
      done_below = All-push (λ x. end_of x ≤ number_bound) done a j.done_below (All-head (λ x. end_of x ≤ number_bound) a (r ∷ remainder) j.below);
      below = All-tail (λ x. end_of x ≤ number_bound) a (r ∷ remainder) j.below;
    }

pub joining_start : (a : Range) (remainder : List Range) → Ascending (a ∷ remainder) → AreBelow number_bound (a ∷ remainder) → Joining (a ∷ remainder) [] a remainder
joining_start a remainder asc below = record {
  normal = (asc.0, tt, tt);
  ascending = asc;
  same = λ n. refl;
  size = refl;
  done_below = All-nil (λ x. end_of x ≤ number_bound);
  below = below;
}

-- ---- the ranges in ascending order

-- if `has_numbers` is false for a range, no number is in the range
in_empty : (n : ℕ) (r : Range) → has_numbers r ≡ false → is_in_range n r ≡ false
in_empty n r h =
    let none : r.count ≤ 0 = ltb-false 0 r.count h in
    elim (cases_Bool (is_in_range n r)) [
      | inl hit ↦ let low = first_of_in n r hit in let high = end_of_in n r hit in absurd (omega arith)
      | inr miss ↦ miss
    ]

pub is_in-some : (n : ℕ) (rs : List Range) → is_in (filter has_numbers rs) n ≡ is_in rs n
is_in-some n [] = refl
is_in-some n (r ∷ more) = go (has_numbers r) refl (is_in-some n more)
  where
    go : (b : Bool) → has_numbers r ≡ b → is_in (filter has_numbers more) n ≡ is_in more n
        → is_in (cond b (r ∷ filter has_numbers more) (filter has_numbers more)) n ≡ (is_in_range n r || is_in more n)
    go true e same = ap (λ (b : Bool). is_in_range n r || b) same
    go false e same = same ∙ ap (λ (b : Bool). b || is_in more n) (sym (in_empty n r e))

pub size_of-some : (rs : List Range) → size_of (filter has_numbers rs) ≡ size_of rs
size_of-some [] = refl
size_of-some (r ∷ more) = go (has_numbers r) refl (size_of-some more) ∙ sym (sum_by-cons (λ (x : Range). x.count) r more)
  where
    go : (b : Bool) → has_numbers r ≡ b → size_of (filter has_numbers more) ≡ size_of more
        → size_of (cond b (r ∷ filter has_numbers more) (filter has_numbers more)) ≡ r.count + size_of more
    go true e same = sum_by-cons (λ (x : Range). x.count) r (filter has_numbers more) ∙ ap (λ (n : ℕ). r.count + n) same
    go false e same = let none : r.count ≤ 0 = ltb-false 0 r.count e in omega arith

count_some : (n : ℕ) (rs : List Range) → count_by (is_in_range n) (filter has_numbers rs) ≤ count_by (is_in_range n) rs
count_some n [] = omega arith
count_some n (r ∷ more) = go (has_numbers r) (count_some n more)
  where
    go : (b : Bool) → count_by (is_in_range n) (filter has_numbers more) ≤ count_by (is_in_range n) more
        → count_by (is_in_range n) (cond b (r ∷ filter has_numbers more) (filter has_numbers more)) ≤ count_by (is_in_range n) (r ∷ more)
    go true low = omega (
      arith,
      sum_by-cons (λ y. cond {A = ℕ} (is_in_range n y) 1 0) r (filter has_numbers more),
      sum_by-cons (λ y. cond {A =
          ℕ} (is_in_range n y) 1 0) r more,
    )
    go false low = omega (arith, sum_by-cons (λ y. cond {A = ℕ} (is_in_range n y) 1 0) r more)

ascending_from : (rs : List Range) → ((n : ℕ) → count_by (is_in_range n) rs ≤ 1) → IsNonDecreasingBy (λ r. r.first) rs → All (λ r. 1 ≤ r.count) rs
    → Ascending rs
ascending_from [] few up some = tt
ascending_from (r ∷ []) few up some = (All-head (λ r. 1 ≤ r.count) r [] some, tt, tt)
ascending_from (r ∷ s ∷ more) few up some =
    let first : r.first ≤ s.first = up 0 1 r (omega arith) (omega arith) in
    let own : 1 ≤ r.count = All-head (λ r. 1 ≤ r.count) r (s ∷ more) some in
    let next : 1 ≤ s.count = All-head (λ r. 1 ≤ r.count) s more (All-tail (λ r. 1 ≤ r.count) r (s ∷ more) some) in
    let after : end_of r ≤ s.first = elim (cases_lt s.first (end_of r)) [
      | inl low ↦ absurd (omega (
        arith,
        few s.first,
        count_hit (is_in_range s.first) r (s ∷ more) (in_range s.first r first low),
        count_hit (is_in_range s.first) s more (in_range s.first s (omega arith) (omega arith)),
      ))
      | inr high ↦ high
    ] in (
      own,
      after,
      ascending_from (s ∷ more)
          (λ n. omega (arith, few n, sum_by-cons (λ y. cond {A = ℕ} (is_in_range n y) 1 0) r (s ∷ more)))
          (IsNonDecreasingBy-drop (λ r. r.first) 1 (r ∷ s ∷ more) up) (All-tail (λ r. 1 ≤ r.count) r (s ∷ more) some),
    )

pub ascending_of : (ranges ordered : List Range) → IsPermutation (filter has_numbers ranges) ordered → IsNonDecreasingBy (λ r. r.first) ordered
    → ¬ Overlap ranges → Ascending ordered
ascending_of ranges ordered same up apart =
    ascending_from ordered (λ n. elim (cases_lt (count_by (is_in_range n) ordered) 2) [
      | inl few ↦ omega arith
      | inr many ↦ absurd (apart (
        n,
        omega (
          arith,
          count_some n ranges,
          sum_by-IsPermutation (λ y. cond {A = ℕ} (is_in_range n y) 1 0) (filter has_numbers ranges) ordered same,
        ),
      ))
    ]) up
    (All-permutation (λ r. 1 ≤ r.count) (filter has_numbers ranges) ordered same
    (All-weaker (λ r. has_numbers r ≡ true) (λ r. 1 ≤ r.count) (λ r h. let some : 0 < r.count = ltb-true 0 r.count h in omega arith)
    (filter has_numbers ranges) (filter_passes has_numbers ranges)))

pub below_of : (ranges ordered : List Range) → IsPermutation (filter has_numbers ranges) ordered → AreBelow number_bound ranges
    → AreBelow number_bound ordered
below_of ranges ordered same below =
    All-permutation (λ r. end_of r ≤ number_bound) (filter has_numbers ranges) ordered same (All-filter has_numbers (λ r. end_of r ≤ number_bound) ranges below)

pub form_of : (ranges ordered joined : List Range) → IsPermutation (filter has_numbers ranges) ordered → IsNormalForm ordered joined
    → IsNormalForm ranges joined
form_of ranges ordered joined same form = record {
  normal_form = form.normal_form;
  same = λ n. form.same n ∙ sym (list_any-IsPermutation (is_in_range n) (filter has_numbers ranges) ordered same) ∙ is_in-some n ranges;
}

pub size_of_ordered : (ranges ordered : List Range) → IsPermutation (filter has_numbers ranges) ordered → size_of ordered ≡ size_of ranges
size_of_ordered ranges ordered same = sum_by-IsPermutation (λ (r : Range). r.count) (filter has_numbers ranges) ordered same ∙ size_of-some ranges

pub latest_below : (all done : List Range) (latest : Range) (remainder : List Range) → Joining all done latest remainder → end_of latest ≤ number_bound
latest_below all done latest remainder j = All-head (λ x. end_of x ≤ number_bound) latest remainder j.below

pub next_below : (all done : List Range) (latest r : Range) (remainder : List Range) → Joining all done latest (r ∷ remainder) → end_of r ≤ number_bound
next_below all done latest r remainder j = All-head (λ x. end_of x ≤ number_bound) r remainder (All-tail (λ x. end_of x ≤ number_bound) latest (r ∷ remainder) j.below)

-- the lemmas about `Joining` for a loop over a slice, where the ranges to come are those from place i on
pub touch_at : (all done : List Range) (latest : Range) (more : List Range) (i : ℕ) (d : Range) → i < length more → end_of latest ≡ (get_or more i d).first
    → Joining all done latest (drop i more) → Joining all done (grown latest (get_or more i d)) (drop (i + 1) more)
touch_at all done latest more i d low e j =
    joining_touch all done latest (get_or more i d) (drop (i + 1) more) e (subst (λ (remainder : List Range). Joining all done latest remainder) (drop_more more i d low) j)

pub gap_at : (all done : List Range) (latest : Range) (more : List Range) (i : ℕ) (d : Range) → i < length more → end_of latest ≢ (get_or more i d).first
    → Joining all done latest (drop i more) → Joining all (done ++ latest ∷ []) (get_or more i d) (drop (i + 1) more)
gap_at all done latest more i d low e j =
    joining_gap all done latest (get_or more i d) (drop (i + 1) more) e (subst (λ (remainder : List Range). Joining all done latest remainder) (drop_more more i d low) j)

pub next_below_at : (all done : List Range) (latest : Range) (more : List Range) (i : ℕ) (d : Range) → i < length more
    → Joining all done latest (drop i more) → end_of (get_or more i d) ≤ number_bound
next_below_at all done latest more i d low j =
    next_below all done latest (get_or more i d) (drop (i + 1) more) (subst (λ (remainder : List Range). Joining all done latest remainder) (drop_more more i d low) j)

pub start_from : (all : List Range) (a : Range) (remainder : List Range) → all ≡ a ∷ remainder → Ascending all → AreBelow number_bound all → Joining all [] a remainder
start_from all a remainder e asc below =
    subst (λ (xs : List Range). Joining xs [] a remainder) (sym e) (joining_start a remainder (subst Ascending e asc) (subst (AreBelow number_bound) e below))

-- after the loop, the joined ranges are the normal form of all ranges, have as many numbers as these, and lie below
-- `number_bound`
pub all_joined : (all done joined more : List Range) (latest : Range) (i : ℕ) → length more ≤ i → Joining all done latest (drop i more)
    → joined ≡ done ++ latest ∷ [] → IsNormalForm all joined × (size_of joined ≡ size_of all) × AreBelow number_bound joined
all_joined all done joined more latest i past j is =
    let end : Joining all done latest [] = subst (Joining all done latest) (drop_all i more past) j in (
      record { normal_form = subst AreNormal (sym is) end.normal; same = λ n. ap (λ (rs : List Range). is_in rs n) is ∙ end.same n },
      ap size_of is ∙ end.size,
      subst (AreBelow number_bound) (sym is)
          (All-push (λ x. end_of x ≤ number_bound) done latest end.done_below (All-head (λ x. end_of x ≤ number_bound) latest [] end.below)),
    )
