-- Taken and missing numbers, by counting how often each number occurs.
use Rattle.std.proofs.Common.{◌≡◌, ◌∙◌, ◌+◌, ◌-◌, ◌<◌, ◌≤◌, ℕ, zero, suc, Bool, true, false, cond, not, nat_eq, nat_le, nat_lt, ◌&&◌, ◌||◌, List, [], ◌∷◌, ◌++◌}
use Rattle.std.proofs.Common.{ap, sym, subst, refl, arith, append_assoc, inl, inr, count_by, filter, length, map, zero-add}
use Rattle.std.specs.Cmp.{both_ways as both_true, nat_cmp_is, nat_eq_equiv}
use Rattle.std.specs.List.{All, AllByRecursion, IsDistinct, list_any, range_with_len}
use Rattle.std.specs.List.Sorted.{IsStrictlyIncreasing, IsStrictlySortedBy}
use Rattle.std.specs.Map.{keys_of, lookup}
use Rattle.std.specs.Option.{is_some}
use Rattle.std.specs.Ordering.{nat_cmp}
use Rattle.std.specs.declared.cmp.Ordering.TheVariants.{Less}
use Rattle.std.proofs.lemmas.Bool.{cases_Bool, eq-eqb, eqb-true, false≢true}
use Rattle.std.proofs.lemmas.Bool.Decides.{nat_tests}
use Rattle.std.proofs.lemmas.List.{length-append, length-map}
use Rattle.std.proofs.lemmas.List.Elements.{All-append, All-cons, All-filter, All-head, All-nil, All-tail, filter_agree}
use Rattle.std.proofs.lemmas.List.FromFn.{length-range_with_len}
use Rattle.std.proofs.lemmas.List.Kept.{IsStrictlyIncreasing-filter}
use Rattle.std.proofs.lemmas.List.Sums.{count_by-le-length, sum_by-append, sum_by-cons}
use Rattle.std.proofs.lemmas.Map.Keys.{IsDistinct-head, IsDistinct-tail, IsStrictlyIncreasing-from_sorted}
use Rattle.std.proofs.lemmas.Map.Made.{is_some-lookup}
use Rattle.ranges.specs.declared.range.Range.{Range}
use Rattle.haul_core.specs.Keeping.{numbers_in}
use Rattle.haul_core.specs.Missing.{AreAll, IsComplete, is_taken, missing_of, numbers_of, numbers_of_range}
use Rattle.haul_core.specs.MissingSteps.{has_no_worker}
use Rattle.ranges.specs.Ranges.{AreBelow, AreNormal, BeginAfter, end_of, is_in, is_in_range, size_of}

-- how often a number occurs in a list
abbrev pub counted : ℕ → List ℕ → ℕ
counted n xs = count_by (nat_eq n) xs

pub count_yes : {X : Type 0} (p : X → Bool) (x : X) (xs : List X) → p x ≡ true → count_by p (x ∷ xs) ≡ 1 + count_by p xs
count_yes p x xs h = sum_by-cons (λ y. cond {A = ℕ} (p y) 1 0) x xs ∙ ap (λ (b : Bool). cond {A = ℕ} b 1 0 + count_by p xs) h

pub count_no : {X : Type 0} (p : X → Bool) (x : X) (xs : List X) → p x ≡ false → count_by p (x ∷ xs) ≡ count_by p xs
count_no p x xs h = sum_by-cons (λ y. cond {A = ℕ} (p y) 1 0) x xs ∙ ap (λ (b : Bool). cond {A = ℕ} b 1 0 + count_by p xs) h ∙ zero-add (count_by p xs)

-- a filter keeps all occurrences of a number, or none
pub counted_filter : (q : ℕ → Bool) (n : ℕ) (xs : List ℕ) → counted n (filter q xs) ≡ cond {A = ℕ} (q n) (counted n xs) 0
counted_filter q n [] = go (q n)
  where
    go : (b : Bool) → 0 ≡ cond {A = ℕ} b 0 0
    go true = refl
    go false = refl
counted_filter q n (x ∷ xs) = go (nat_eq n x) refl (q x) refl (counted_filter q n xs)
  where
    go : (b : Bool) → nat_eq n x ≡ b → (d : Bool) → q x ≡ d → counted n (filter q xs) ≡ cond {A = ℕ} (q n) (counted n xs) 0
        → counted n (cond d (x ∷ filter q xs) (filter q xs)) ≡ cond {A = ℕ} (q n) (counted n (x ∷ xs)) 0
    go true e true h ih =
        let passes : q n ≡ true = ap q (eqb-true n x e) ∙ h in
        count_yes (nat_eq n) x (filter q xs) e ∙ ap (λ (m : ℕ). 1 + m) (ih ∙ ap (λ (b : Bool). cond {A = ℕ} b (counted n xs) 0) passes)
        ∙ sym (ap (λ (b : Bool). cond {A = ℕ} b (counted n (x ∷ xs)) 0) passes ∙ count_yes (nat_eq n) x xs e)
    go true e false h ih =
        let drops : q n ≡ false = ap q (eqb-true n x e) ∙ h in
        ih ∙ ap (λ (b : Bool). cond {A = ℕ} b (counted n xs) 0) drops ∙ sym (ap (λ (b : Bool). cond {A = ℕ} b (counted n (x ∷ xs)) 0) drops)
    go false e true h ih = count_no (nat_eq n) x (filter q xs) e ∙ ih ∙ ap (λ (m : ℕ). cond {A = ℕ} (q n) m 0) (sym (count_no (nat_eq n) x xs e))
    go false e false h ih = ih ∙ ap (λ (m : ℕ). cond {A = ℕ} (q n) m 0) (sym (count_no (nat_eq n) x xs e))

-- ---- the numbers of a set

counted_range : (n a k : ℕ) → counted n (range_with_len a k) ≡ cond {A = ℕ} (nat_le a n && nat_lt n (a + k)) 1 0
counted_range n a zero =
    let none : (nat_le a n && nat_lt n (a + 0)) ≡ false = grind (arith, nat_tests) in
    sym (ap (λ (b : Bool). cond {A = ℕ} b 1 0) none)
counted_range n a (suc k) = elim (cases_Bool (nat_eq n a)) [
  | inl same ↦
      let is : n ≡ a = eqb-true n a same in
      let past : (nat_le (a + 1) n && nat_lt n (a + 1 + k)) ≡ false = grind (arith, nat_tests) in
      let here : (nat_le a n && nat_lt n (a + suc k)) ≡ true = grind (arith, nat_tests) in
      count_yes (nat_eq n) a (range_with_len (a + 1) k) same
      ∙ ap (λ (m : ℕ). 1 + m) (counted_range n (a + 1) k ∙ ap (λ (b : Bool). cond {A = ℕ} b 1 0) past)
      ∙ sym (ap (λ (b : Bool). cond {A = ℕ} b 1 0) here)
  | inr other ↦
      let apart : n ≡ a → ⊥ = λ e. false≢true (sym other ∙ eq-eqb n a e) in
      let alike : (nat_le (a + 1) n && nat_lt n (a + 1 + k)) ≡ (nat_le a n && nat_lt n (a + suc k)) = grind (arith, nat_tests) in
      count_no (nat_eq n) a (range_with_len (a + 1) k) other ∙ counted_range n (a + 1) k ∙ ap (λ (b : Bool). cond {A = ℕ} b 1 0) alike
]

-- a number before all ranges is in none of them
pub none_before : (n place : ℕ) (ranges : List Range) → n ≤ place → BeginAfter place ranges → AreNormal ranges → is_in ranges n ≡ false
none_before n place [] low begin normal = refl
none_before n place (r ∷ more) low begin normal =
    let out : is_in_range n r ≡ false = grind (arith, nat_tests) in
    ap (λ (b : Bool). b || is_in more n) out ∙ none_before n (end_of r) more (omega (arith, begin)) normal.1 normal.2

-- the list of a set's numbers has each of them once, and no other number
pub counted_numbers : (n : ℕ) (ranges : List Range) → AreNormal ranges → counted n (numbers_of ranges) ≡ cond {A = ℕ} (is_in ranges n) 1 0
counted_numbers n [] normal = refl
counted_numbers n (r ∷ more) normal =
    sum_by-append (λ y. cond {A = ℕ} (nat_eq n y) 1 0) (numbers_of_range r) (numbers_of more)
    ∙ (λ i. counted_range n r.first r.count i + counted_numbers n more normal.2 i)
    ∙ go (is_in_range n r) refl (is_in more n) refl
  where
    go : (b : Bool) → is_in_range n r ≡ b → (d : Bool) → is_in more n ≡ d → cond {A = ℕ} b 1 0 + cond {A = ℕ} d 1 0 ≡ cond {A = ℕ} (b || d) 1 0
    go true e true h =
        let low : n ≤ end_of r = grind (arith, nat_tests) in
        absurd (false≢true (sym (none_before n (end_of r) more low normal.1 normal.2) ∙ h))
    go true e false h = refl
    go false e true h = refl
    go false e false h = refl

pub length_numbers : (ranges : List Range) → length (numbers_of ranges) ≡ size_of ranges
length_numbers [] = refl
length_numbers (r ∷ more) =
    length-append (numbers_of_range r) (numbers_of more) ∙ (λ i. length-range_with_len r.first r.count i + length_numbers more i)
    ∙ sym (sum_by-cons (λ (x : Range). x.count) r more)

-- ---- the numbers that are missing

parted : {X : Type 0} (p : X → Bool) (xs : List X) → length (filter (λ x. not (p x)) xs) + count_by p xs ≡ length xs
parted p [] = refl
parted p (x ∷ xs) = go (p x) refl (parted p xs)
  where
    go : (b : Bool) → p x ≡ b → length (filter (λ x. not (p x)) xs) + count_by p xs ≡ length xs
        → length (cond (not b) (x ∷ filter (λ x. not (p x)) xs) (filter (λ x. not (p x)) xs)) + count_by p (x ∷ xs) ≡ length (x ∷ xs)
    go true e ih = omega (arith, ih, count_yes p x xs e)
    go false e ih = omega (arith, ih, count_no p x xs e)

filter_twice : (p q : ℕ → Bool) (xs : List ℕ) → filter (λ n. not (p n || q n)) xs ≡ filter (λ n. not (q n)) (filter (λ n. not (p n)) xs)
filter_twice p q [] = refl
filter_twice p q (x ∷ xs) = go (p x) (filter_twice p q xs)
  where
    go : (b : Bool) → filter (λ n. not (p n || q n)) xs ≡ filter (λ n. not (q n)) (filter (λ n. not (p n)) xs)
        → cond (not (b || q x)) (x ∷ filter (λ n. not (p n || q n)) xs) (filter (λ n. not (p n || q n)) xs)
        ≡ filter (λ n. not (q n)) (cond (not b) (x ∷ filter (λ n. not (p n)) xs) (filter (λ n. not (p n)) xs))
    go true ih = ih
    go false ih = ap (λ (ys : List ℕ). cond (not (q x)) (x ∷ ys) ys) ih

filter_all : (xs : List ℕ) → filter (λ n. true) xs ≡ xs
filter_all [] = refl
filter_all (x ∷ xs) = ap (λ (ys : List ℕ). x ∷ ys) (filter_all xs)

-- if all numbers of a list differ from t, each member n of the list differs from t
apart_in : (n t : ℕ) (ts : List ℕ) → AllByRecursion (λ y. nat_eq t y ≡ false) ts → list_any (nat_eq n) ts ≡ true → nat_eq n t ≡ false
apart_in n t [] apart h = absurd (false≢true h)
apart_in n t (x ∷ ts) apart h = elim (cases_Bool (nat_eq n x)) [
  | inl same ↦ subst (λ (m : ℕ). nat_eq m t ≡ false) (sym (eqb-true n x same)) (nat_eq_equiv.symm x t ∙ apart.0)
  | inr other ↦ apart_in n t ts apart.1 (sym (ap (λ (b : Bool). b || list_any (nat_eq n) ts) other) ∙ h)
]

or_right : (b d : Bool) → d ≡ true → (b || d) ≡ true
or_right true d h = refl
or_right false d h = h

-- filtering out k distinct numbers, each of which occurs once in a list, makes the list shorter by k
left_over : (ts xs : List ℕ) → IsDistinct nat_eq ts → ((n : ℕ) → list_any (nat_eq n) ts ≡ true → counted n xs ≡ 1)
    → length (filter (λ n. not (list_any (nat_eq n) ts)) xs) + length ts ≡ length xs
left_over [] xs distinct each = let all : length (filter (λ n. true) xs) ≡ length xs = ap length (filter_all xs) in omega (arith, all)
left_over (t ∷ ts) xs distinct each =
    let less : List ℕ = filter (λ n. not (nat_eq n t)) xs in
    let twice : length (filter (λ n. not (list_any (nat_eq n) (t ∷ ts))) xs) ≡ length (filter (λ n. not (list_any (nat_eq n) ts)) less) =
    ap length (filter_twice (λ n. nat_eq n t) (λ n. list_any (nat_eq n) ts) xs) in
    let swapped : length less ≡ length (filter (λ n. not (nat_eq t n)) xs) =
    ap length (filter_agree (λ n. not (nat_eq n t)) (λ n. not (nat_eq t n)) (λ n. ap not (nat_eq_equiv.symm n t)) xs) in
    let itself : list_any (nat_eq t) (t ∷ ts) ≡ true = ap (λ (b : Bool). b || list_any (nat_eq t) ts) (nat_eq_equiv.refl t) in
    let once : counted t xs ≡ 1 = each t itself in
    let remainder : length (filter (λ n. not (list_any (nat_eq n) ts)) less) + length ts ≡ length less =
    left_over ts less (IsDistinct-tail nat_eq t ts distinct)
    (λ n h. counted_filter (λ n. not (nat_eq n t)) n xs
    ∙ ap (λ (b : Bool). cond {A = ℕ} (not b) (counted n xs) 0) (apart_in n t ts (IsDistinct-head nat_eq t ts distinct) h)
    ∙ each n (or_right (nat_eq n t) (list_any (nat_eq n) ts) h)) in
    omega (arith, twice, swapped, once, remainder, parted (nat_eq t) xs)

-- each taken number is in the set
taken_in : (ranges : List Range) (taken : List (ℕ × ℕ)) → All (λ t. is_in ranges t.1 ≡ true) taken → (n : ℕ) → is_taken taken n ≡ true
    → is_in ranges n ≡ true
taken_in ranges [] within n h = absurd (false≢true h)
taken_in ranges (t ∷ ts) within n h = elim (cases_Bool (nat_eq n t.1)) [
  | inl same ↦ subst (λ (m : ℕ). is_in ranges m ≡ true) (sym (eqb-true n t.1 same)) (All-head (λ t. is_in ranges t.1 ≡ true) t ts within)
  | inr other ↦ taken_in ranges ts (All-tail (λ t. is_in ranges t.1 ≡ true) t ts within) n
      (sym (ap (λ (b : Bool). b || is_taken ts n) other) ∙ h)
]

pub missing_counted : (ranges : List Range) (taken : List (ℕ × ℕ)) → AreNormal ranges → All (λ t. is_in ranges t.1 ≡ true) taken
    → IsDistinct nat_eq (numbers_in taken) → length (missing_of ranges taken) + length taken ≡ size_of ranges
missing_counted ranges taken normal within distinct =
    let left : length (missing_of ranges taken) + length (numbers_in taken) ≡ length (numbers_of ranges) =
    left_over (numbers_in taken) (numbers_of ranges) distinct
    (λ n h. counted_numbers n ranges normal ∙ ap (λ (b : Bool). cond {A = ℕ} b 1 0) (taken_in ranges taken within n h)) in
    omega (arith, left, length-map taken (λ t. t.1), length_numbers ranges)

-- ---- complete hauls

counted_missing : (ranges : List Range) (taken : List (ℕ × ℕ)) (n : ℕ) → AreNormal ranges
    → counted n (missing_of ranges taken) ≡ cond {A = ℕ} (not (is_taken taken n)) (cond {A = ℕ} (is_in ranges n) 1 0) 0
counted_missing ranges taken n normal =
    counted_filter (λ n. not (is_taken taken n)) n (numbers_of ranges)
    ∙ ap (λ (m : ℕ). cond {A = ℕ} (not (is_taken taken n)) m 0) (counted_numbers n ranges normal)

pub complete_from : (ranges : List Range) (taken : List (ℕ × ℕ)) → AreNormal ranges → length (missing_of ranges taken) ≡ 0 → IsComplete ranges taken
complete_from ranges taken normal none n is = go (is_taken taken n) refl
  where
    go : (b : Bool) → is_taken taken n ≡ b → b ≡ true
    go true e = refl
    go false e =
        let one : counted n (missing_of ranges taken) ≡ 1 =
        counted_missing ranges taken n normal ∙ (λ i. cond {A = ℕ} (not (e i)) (cond {A = ℕ} (is i) 1 0) 0) in
        absurd (omega (arith, one, none, count_by-le-length (nat_eq n) (missing_of ranges taken)))

uncounted : (xs : List ℕ) → ((n : ℕ) → counted n xs ≡ 0) → length xs ≡ 0
uncounted [] none = refl
uncounted (x ∷ xs) none =
    let some : counted x (x ∷ xs) ≡ 1 + counted x xs = count_yes (nat_eq x) x xs (nat_eq_equiv.refl x) in
    absurd (omega (arith, some, none x))

pub none_missing : (ranges : List Range) (taken : List (ℕ × ℕ)) → AreNormal ranges → IsComplete ranges taken → length (missing_of ranges taken) ≡ 0
none_missing ranges taken normal complete =
    uncounted (missing_of ranges taken) (λ n. counted_missing ranges taken n normal ∙ go (is_taken taken n) (is_in ranges n) (complete n))
  where
    go : (b d : Bool) → (d ≡ true → b ≡ true) → cond {A = ℕ} (not b) (cond {A = ℕ} d 1 0) 0 ≡ 0
    go true d h = refl
    go false true h = absurd (false≢true (h refl))
    go false false h = refl

-- in a list of distinct numbers, `counted` is 1 for each number of the list, and 0 for any other
once : (n : ℕ) (ns : List ℕ) → IsDistinct nat_eq ns → counted n ns ≡ cond {A = ℕ} (list_any (nat_eq n) ns) 1 0
once n [] distinct = refl
once n (t ∷ ts) distinct = go (nat_eq n t) refl (list_any (nat_eq n) ts) refl (once n ts (IsDistinct-tail nat_eq t ts distinct))
  where
    go : (b : Bool) → nat_eq n t ≡ b → (d : Bool) → list_any (nat_eq n) ts ≡ d → counted n ts ≡ cond {A = ℕ} (list_any (nat_eq n) ts) 1 0
        → counted n (t ∷ ts) ≡ cond {A = ℕ} (nat_eq n t || list_any (nat_eq n) ts) 1 0
    go true e true h ih = absurd (false≢true (sym (apart_in n t ts (IsDistinct-head nat_eq t ts distinct) h) ∙ e))
    go true e false h ih =
        count_yes (nat_eq n) t ts e ∙ ap (λ (m : ℕ). 1 + m) (ih ∙ ap (λ (b : Bool). cond {A = ℕ} b 1 0) h)
        ∙ sym (ap (λ (b : Bool). cond {A = ℕ} (b || list_any (nat_eq n) ts) 1 0) e)
    go false e d h ih = count_no (nat_eq n) t ts e ∙ ih ∙ sym (ap (λ (b : Bool). cond {A = ℕ} (b || list_any (nat_eq n) ts) 1 0) e)

pub all_taken : (ranges : List Range) (taken : List (ℕ × ℕ)) → All (λ t. is_in ranges t.1 ≡ true) taken → IsDistinct nat_eq (numbers_in taken)
    → IsComplete ranges taken → AreAll ranges (numbers_in taken)
all_taken ranges taken within distinct complete n =
    once n (numbers_in taken) distinct
    ∙ ap (λ (b : Bool). cond {A = ℕ} b 1 0) (both_true (is_taken taken n) (is_in ranges n) (taken_in ranges taken within n) (complete n))

-- ---- the list of the missing numbers

less : (x y : ℕ) → x < y → nat_cmp x y ≡ Less
less x y h = sym (nat_cmp_is x y Less h)

before_range : (p a k : ℕ) → p < a → AllByRecursion (λ y. nat_cmp p y ≡ Less) (range_with_len a k)
before_range p a zero low = tt
before_range p a (suc k) low = (less p a low, before_range p (a + 1) k (omega arith))

all_append : (P : ℕ → Type 0) (xs ys : List ℕ) → AllByRecursion P xs → AllByRecursion P ys → AllByRecursion P (xs ++ ys)
all_append P [] ys h k = k
all_append P (x ∷ xs) ys h k = (h.0, all_append P xs ys h.1 k)

sorted_append : (xs ys : List ℕ) → IsStrictlySortedBy nat_cmp xs → IsStrictlySortedBy nat_cmp ys
    → AllByRecursion (λ x. AllByRecursion (λ y. nat_cmp x y ≡ Less) ys) xs → IsStrictlySortedBy nat_cmp (xs ++ ys)
unfolding IsStrictlySortedBy
sorted_append [] ys h k across = k
sorted_append (x ∷ xs) ys h k across =
    (all_append (λ y. nat_cmp x y ≡ Less) xs ys h.0 across.0, sorted_append xs ys h.1 k across.1)

before_ranges : (p place : ℕ) (ranges : List Range) → p ≤ place → BeginAfter place ranges → AreNormal ranges
    → AllByRecursion (λ y. nat_cmp p y ≡ Less) (numbers_of ranges)
before_ranges p place [] low begin normal = tt
before_ranges p place (r ∷ more) low begin normal =
    let first : p < r.first = omega (arith, begin) in
    all_append (λ y. nat_cmp p y ≡ Less) (numbers_of_range r) (numbers_of more) (before_range p r.first r.count first)
    (before_ranges p (end_of r) more (omega arith) normal.1 normal.2)

sorted_range : (a k : ℕ) → IsStrictlySortedBy nat_cmp (range_with_len a k)
unfolding IsStrictlySortedBy
sorted_range a zero = tt
sorted_range a (suc k) = (before_range a (a + 1) k (omega arith), sorted_range (a + 1) k)

range_before : (a k place : ℕ) (ranges : List Range) → a + k ≤ place → BeginAfter place ranges → AreNormal ranges
    → AllByRecursion (λ x. AllByRecursion (λ y. nat_cmp x y ≡ Less) (numbers_of ranges)) (range_with_len a k)
range_before a zero place ranges low begin normal = tt
range_before a (suc k) place ranges low begin normal =
    (before_ranges a place ranges (omega arith) begin normal, range_before (a + 1) k place ranges (omega arith) begin normal)

sorted_numbers : (ranges : List Range) → AreNormal ranges → IsStrictlySortedBy nat_cmp (numbers_of ranges)
unfolding IsStrictlySortedBy
sorted_numbers [] normal = tt
sorted_numbers (r ∷ more) normal =
    sorted_append (numbers_of_range r) (numbers_of more) (sorted_range r.first r.count) (sorted_numbers more normal.2)
    (range_before r.first r.count (end_of r) more (omega arith) normal.1 normal.2)

pub missing_ascends : (ranges : List Range) (taken : List (ℕ × ℕ)) → AreNormal ranges → IsStrictlyIncreasing (missing_of ranges taken)
missing_ascends ranges taken normal =
    IsStrictlyIncreasing-filter (λ n. not (is_taken taken n)) (numbers_of ranges)
    (IsStrictlyIncreasing-from_sorted (numbers_of ranges) (sorted_numbers ranges normal))

keys_turned : (taken : List (ℕ × ℕ)) → keys_of (map (λ t. (t.1, t.0)) taken) ≡ numbers_in taken
keys_turned [] = refl
keys_turned (t ∷ ts) = ap (λ (ns : List ℕ). t.1 ∷ ns) (keys_turned ts)

-- the numbers of a set that have no worker are the missing ones
pub same_missing : (ranges : List Range) (taken workers : List (ℕ × ℕ)) → workers ≡ map (λ t. (t.1, t.0)) taken
    → filter (has_no_worker workers) (numbers_of ranges) ≡ missing_of ranges taken
same_missing ranges taken workers turned =
    filter_agree (has_no_worker workers) (λ n. not (is_taken taken n))
    (λ n. ap not (is_some-lookup (nat_eq n) workers ∙ ap (list_any (nat_eq n)) (ap keys_of turned ∙ keys_turned taken))) (numbers_of ranges)

-- the numbers from `place` to below `end` that have no worker
abbrev pub adds : List (ℕ × ℕ) → ℕ → ℕ → List ℕ
adds workers place end = filter (has_no_worker workers) (range_with_len place (end - place))

adds_next : (workers : List (ℕ × ℕ)) (place end : ℕ) → place < end
    → adds workers place end ≡ cond (has_no_worker workers place) (place ∷ adds workers (place + 1) end) (adds workers (place + 1) end)
adds_next workers place end low =
    let more : end - place ≡ suc (end - (place + 1)) = omega arith in
    ap (λ (k : ℕ). filter (has_no_worker workers) (range_with_len place k)) more

pub adds_yes : (workers : List (ℕ × ℕ)) (missing : List ℕ) (place end : ℕ) → place < end → is_some (lookup (nat_eq place) workers) ≡ false
    → (missing ++ place ∷ []) ++ adds workers (place + 1) end ≡ missing ++ adds workers place end
adds_yes workers missing place end low none =
    append_assoc missing (place ∷ []) (adds workers (place + 1) end)
    ∙ ap (λ (xs : List ℕ). missing ++ xs) (sym (adds_next workers place end low
    ∙ ap (λ (b : Bool). cond (not b) (place ∷ adds workers (place + 1) end) (adds workers (place + 1) end)) none))

pub adds_no : (workers : List (ℕ × ℕ)) (place end : ℕ) → place < end → is_some (lookup (nat_eq place) workers) ≡ true
    → adds workers (place + 1) end ≡ adds workers place end
adds_no workers place end low some =
    sym (adds_next workers place end low
    ∙ ap (λ (b : Bool). cond (not b) (place ∷ adds workers (place + 1) end) (adds workers (place + 1) end)) some)

-- ---- how large missing numbers are

below_range : (bound a k : ℕ) → a + k ≤ bound → All (λ n. n < bound) (range_with_len a k)
below_range bound a zero le = All-nil (λ n. n < bound)
below_range bound a (suc k) le = All-cons (λ n. n < bound) a (range_with_len (a + 1) k) (omega arith) (below_range bound (a + 1) k (omega arith))

below_numbers : (bound : ℕ) (ranges : List Range) → AreBelow bound ranges → All (λ n. n < bound) (numbers_of ranges)
below_numbers bound [] below = All-nil (λ n. n < bound)
below_numbers bound (r ∷ more) below =
    All-append (λ n. n < bound) (numbers_of_range r) (numbers_of more)
    (below_range bound r.first r.count (All-head (λ (s : Range). end_of s ≤ bound) r more below))
    (below_numbers bound more (All-tail (λ (s : Range). end_of s ≤ bound) r more below))

pub missing_below : (bound : ℕ) (ranges : List Range) (taken : List (ℕ × ℕ)) → AreBelow bound ranges → All (λ n. n < bound) (missing_of ranges taken)
missing_below bound ranges taken below =
    All-filter (λ n. not (is_taken taken n)) (λ n. n < bound) (numbers_of ranges) (below_numbers bound ranges below)
