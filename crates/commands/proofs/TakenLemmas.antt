-- What the book takes: the first eligible offer of each number.
use Rattle.std.proofs.Common.{◌≡◌, ◌∙◌, ◌||◌, ◌≤◌, ◌⊎◌, ℕ, Bool, true, false, cond, not, nat_eq, List, [], ◌∷◌, Option, None, Some}
use Rattle.std.proofs.Common.{ap, sym, subst, refl, inl, inr, arith, filter, map, count_by, ⊎_elim}
use Rattle.std.specs.List.{find, list_any}
use Rattle.std.proofs.lemmas.Bool.{cases_Bool, eqb-true}
use Rattle.haul_core.specs.declared.book.arrival.Arrival.{Arrival}
use Rattle.haul_core.specs.Subsequences.{IsSubsequence}
use Rattle.haul_core.specs.Books.{Terms, eligible, entry, first_of_each, has_number, taken_of}
use Rattle.haul_core.specs.Keeping.{numbers_in}
use Rattle.haul_core.specs.Missing.{is_taken}
use Rattle.haul_core.specs.Reports.{Reported}
use Rattle.haul_core.proofs.BookLemmas.{find_first}
use Rattle.haul_core.proofs.MissingLemmas.{count_no, count_yes}

module _ {X : Type 0} where
  one_more : (b : Bool) (x : X) (part xs : List X) → IsSubsequence part xs → IsSubsequence part (cond b (x ∷ xs) xs)
  one_more true x part xs s = inl s
  one_more false x part xs s = s

  both_more : (b : Bool) (x : X) (part xs : List X) → IsSubsequence part xs → IsSubsequence (cond b (x ∷ part) part) (cond b (x ∷ xs) xs)
  both_more true x part xs s = inr (part, refl, s)
  both_more false x part xs s = s

  kept : (b : Bool) (x : X) (part xs : List X) → IsSubsequence part xs → IsSubsequence (cond b (x ∷ part) part) (x ∷ xs)
  kept true x part xs s = inr (part, refl, s)
  kept false x part xs s = inl s

  pub part_filter : (p : X → Bool) (xs : List X) → IsSubsequence (filter p xs) xs
  part_filter p [] = refl
  part_filter p (x ∷ xs) = kept (p x) x (filter p xs) xs (part_filter p xs)

  pub part_trans : (a b c : List X) → IsSubsequence a b → IsSubsequence b c → IsSubsequence a c
  part_trans a b [] s t = subst (λ (l : List X). IsSubsequence a l) t s
  part_trans a b (x ∷ c) s t =
      ⊎_elim (λ (h : IsSubsequence b c). inl (part_trans a b c s h))
      (λ (h : (remainder : List X) × (b ≡ x ∷ remainder) × IsSubsequence remainder c).
      ⊎_elim (λ (k : IsSubsequence a h.0). inl (part_trans a h.0 c k h.2))
      (λ (k : (remainder : List X) × (a ≡ x ∷ remainder) × IsSubsequence remainder h.0). inr (k.0, k.1, part_trans k.0 h.0 c k.2 h.2))
      (subst (λ (l : List X). IsSubsequence a l) h.1 s)) t

  pub filter_part : (p : X → Bool) (a b : List X) → IsSubsequence a b → IsSubsequence (filter p a) (filter p b)
  filter_part p a [] s = ap (filter p) s
  filter_part p a (x ∷ b) s =
      ⊎_elim (λ (h : IsSubsequence a b). one_more (p x) x (filter p a) (filter p b) (filter_part p a b h))
      (λ (h : (remainder : List X) × (a ≡ x ∷ remainder) × IsSubsequence remainder b).
      subst (λ (l : List X). IsSubsequence (filter p l) (cond (p x) (x ∷ filter p b) (filter p b))) (sym h.1)
      (both_more (p x) x (filter p h.0) (filter p b) (filter_part p h.0 b h.2))) s

pub map_part : {X Y : Type 0} (f : X → Y) (a b : List X) → IsSubsequence a b → IsSubsequence (map f a) (map f b)
map_part f a [] s = ap (map f) s
map_part {X = X} f a (x ∷ b) s =
    ⊎_elim (λ (h : IsSubsequence a b). inl (map_part f a b h))
    (λ (h : (remainder : List X) × (a ≡ x ∷ remainder) × IsSubsequence remainder b). inr (map f h.0, ap (map f) h.1, map_part f h.0 b h.2)) s

-- ---- the first report on each number

pub first_part : (rs : List Reported) → IsSubsequence (first_of_each rs) rs
first_part [] = refl
first_part (r ∷ rs) =
    let remainder : List Reported = filter (λ s. not (has_number r.number s)) (first_of_each rs) in
    inr (remainder, refl, part_trans remainder (first_of_each rs) rs (part_filter (λ s. not (has_number r.number s)) (first_of_each rs)) (first_part rs))

-- ---- no number is taken twice

abbrev pub numbers : List Reported → List ℕ
numbers rs = map (λ (r : Reported). r.number) rs

pub count_part : (n : ℕ) (a b : List ℕ) → IsSubsequence a b → count_by (nat_eq n) a ≤ count_by (nat_eq n) b
count_part n a [] s = subst (λ (l : List ℕ). count_by (nat_eq n) l ≤ count_by (nat_eq n) []) (sym s) (omega arith)
count_part n a (x ∷ b) s = go (λ l h. count_part n l b h) (cases_Bool (nat_eq n x))
  where
    go : ((l : List ℕ) → IsSubsequence l b → count_by (nat_eq n) l ≤ count_by (nat_eq n) b) → (nat_eq n x ≡ true) ⊎ (nat_eq n x ≡ false) → count_by (nat_eq n) a ≤ count_by (nat_eq n) (x ∷ b)
    go fewer (inl same) =
        ⊎_elim (λ (h : IsSubsequence a b). omega (arith, count_yes (nat_eq n) x b same, fewer a h))
        (λ (h : (remainder : List ℕ) × (a ≡ x ∷ remainder) × IsSubsequence remainder b).
        omega (arith, ap (count_by (nat_eq n)) h.1, count_yes (nat_eq n) x b same, count_yes (nat_eq n) x h.0 same, fewer h.0 h.2)) s
    go fewer (inr apart) =
        ⊎_elim (λ (h : IsSubsequence a b). omega (arith, count_no (nat_eq n) x b apart, fewer a h))
        (λ (h : (remainder : List ℕ) × (a ≡ x ∷ remainder) × IsSubsequence remainder b).
        omega (arith, ap (count_by (nat_eq n)) h.1, count_no (nat_eq n) x b apart, count_no (nat_eq n) x h.0 apart, fewer h.0 h.2)) s

abbrev pub others : ℕ → List Reported → List Reported
others m rs = filter (λ s. not (has_number m s)) rs

none_left : (n : ℕ) (rs : List Reported) → count_by (nat_eq n) (numbers (others n rs)) ≡ 0
none_left n [] = refl
none_left n (r ∷ rs) = go (cases_Bool (nat_eq n r.number)) (none_left n rs)
  where
    go : (nat_eq n r.number ≡ true) ⊎ (nat_eq n r.number ≡ false) → count_by (nat_eq n) (numbers (others n rs)) ≡ 0
        → count_by (nat_eq n) (numbers (cond (not (has_number n r)) (r ∷ others n rs) (others n rs))) ≡ 0
    go (inl same) remainder = ap (λ (b : Bool). count_by (nat_eq n) (numbers (cond (not b) (r ∷ others n rs) (others n rs)))) same ∙ remainder
    go (inr apart) remainder =
        ap (λ (b : Bool). count_by (nat_eq n) (numbers (cond (not b) (r ∷ others n rs) (others n rs)))) apart
        ∙ count_no (nat_eq n) r.number (numbers (others n rs)) apart ∙ remainder

zero_le_one : 0 ≤ 1
zero_le_one = omega arith

pub once : (n : ℕ) (rs : List Reported) → count_by (nat_eq n) (numbers (first_of_each rs)) ≤ 1
once n [] = zero_le_one
once n (r ∷ rs) = go (cases_Bool (nat_eq n r.number)) (once n rs)
  where
    left : List Reported
    left = others r.number (first_of_each rs)

    go : (nat_eq n r.number ≡ true) ⊎ (nat_eq n r.number ≡ false) → count_by (nat_eq n) (numbers (first_of_each rs)) ≤ 1
        → count_by (nat_eq n) (r.number ∷ numbers left) ≤ 1
    go (inl same) remainder =
        let none : count_by (nat_eq n) (numbers left) ≡ 0 =
        ap (λ (m : ℕ). count_by (nat_eq n) (numbers (others m (first_of_each rs)))) (sym (eqb-true n r.number same)) ∙ none_left n (first_of_each rs) in
        omega (arith, none, count_yes (nat_eq n) r.number (numbers left) same)
    go (inr apart) remainder =
        omega (
          arith,
          remainder,
          count_no (nat_eq n) r.number (numbers left) apart,
          count_part n (numbers left) (numbers (first_of_each rs)) (map_part (λ (s : Reported). s.number) left (first_of_each rs)
              (part_filter (λ s. not (has_number r.number s)) (first_of_each rs))),
        )

pub numbers_entries : (rs : List Reported) → numbers_in (map entry rs) ≡ numbers rs
numbers_entries [] = refl
numbers_entries (r ∷ rs) = ap (λ (ns : List ℕ). r.number ∷ ns) (numbers_entries rs)

-- each number is taken at most once
pub taken_once : (terms : Terms) (arrivals : List Arrival) (n : ℕ) → count_by (nat_eq n) (numbers_in (taken_of terms arrivals)) ≤ 1
taken_once terms arrivals n =
    subst (λ (ns : List ℕ). count_by (nat_eq n) ns ≤ 1) (sym (numbers_entries (first_of_each (eligible terms arrivals))))
    (once n (eligible terms arrivals))

-- ---- what is taken

abbrev is_found : {X : Type 0} → Option X → Bool
is_found None = false
is_found (Some x) = true

found_any : (n : ℕ) (rs : List Reported) → is_found (find (has_number n) rs) ≡ list_any (has_number n) rs
found_any n [] = refl
found_any n (r ∷ rs) = go (has_number n r) (found_any n rs)
  where
    go : (b : Bool) → is_found (find (has_number n) rs) ≡ list_any (has_number n) rs
        → is_found (cond b (Some r) (find (has_number n) rs)) ≡ (b || list_any (has_number n) rs)
    go true h = refl
    go false h = h

entries_any : (n : ℕ) (rs : List Reported) → list_any (nat_eq n) (numbers_in (map entry rs)) ≡ list_any (has_number n) rs
entries_any n [] = refl
entries_any n (r ∷ rs) = ap (λ (b : Bool). has_number n r || b) (entries_any n rs)

-- a number is taken if and only if some eligible offer has it
pub taken_if_eligible : (terms : Terms) (arrivals : List Arrival) (n : ℕ)
    → is_taken (taken_of terms arrivals) n ≡ list_any (has_number n) (eligible terms arrivals)
taken_if_eligible terms arrivals n =
    entries_any n (first_of_each (eligible terms arrivals)) ∙ sym (found_any n (first_of_each (eligible terms arrivals)))
    ∙ ap (λ (o : Option Reported). is_found o) (find_first n (eligible terms arrivals)) ∙ found_any n (eligible terms arrivals)
