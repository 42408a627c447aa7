-- The counts of objects add up to the number of clusters. The proof is by induction: the first code and its count are
-- removed from the list of objects, and each occurrence of this code is removed from the list of the clusters' codes.
use Rattle.std.proofs.Common.{◌≡◌, ◌∙◌, ap, sym, refl, ℕ, ◌+◌, Bool, true, false, not, cond, List, [], ◌∷◌, count_by, length, sum, Some, unwrap_or, arith}
use Rattle.std.specs.Cmp.{tied_itself}
use Rattle.std.specs.Cmp.Lexicographic.{nat_list_cmp_total, slice_cmp}
use Rattle.std.specs.List.{filter}
use Rattle.std.specs.List.Sorted.{IsStrictlySortedBy}
use Rattle.std.specs.Map.{keys_of, lookup, values_of}
use Rattle.std.specs.Ordering.{is_eq, nat_cmp}
use Rattle.std.specs.declared.cmp.Ordering.{Ordering}
use Rattle.std.specs.declared.cmp.Ordering.TheVariants.{Less, Equal, Greater}
use Rattle.std.proofs.lemmas.List.Filters.{length-filter_both, sum_by-filter_both}
use Rattle.std.proofs.lemmas.List.Sums.{length-filter, sum_by-cons}
use Rattle.std.proofs.lemmas.Slice.Zip.{AllZip-long}
use Rattle.laws.specs.Findings.{CountsAddUp}
use Rattle.survey_core.specs.shapes.Objects.{count_of, is_code}
use Rattle.survey_core.proofs.lemmas.DeterminedLemmas.{code_cmp, count-before, count-head, in_order-head, in_order-tail}
use Rattle.survey_core.proofs.lemmas.shapes.ObjectLemmas.{same_code}

abbrev others : List ℕ → List (List ℕ) → List (List ℕ)
others k codes = filter (λ c. not (is_code k c)) codes

one_more : (p : List ℕ → Bool) (c : List ℕ) (cs : List (List ℕ)) → count_by p (c ∷ cs) ≡ cond (p c) 1 0 + count_by p cs
one_more p c cs = sum_by-cons (λ x. cond (p x) 1 0) c cs

is_itself : (code : List ℕ) → is_code code code ≡ true
is_itself code = ap is_eq (tied_itself nat_list_cmp_total code)

-- a list in which no code occurs is empty
no_codes : (codes : List (List ℕ)) → ((code : List ℕ) → 0 ≡ count_by (is_code code) codes) → length codes ≡ 0
no_codes [] none = refl
no_codes (x ∷ xs) none =
    let one : count_by (is_code x) (x ∷ xs) ≡ 1 + count_by (is_code x) xs =
    one_more (is_code x) x xs ∙ ap (λ (b : Bool). cond b 1 0 + count_by (is_code x) xs) (is_itself x) in
    let zero : 0 ≡ count_by (is_code x) (x ∷ xs) = none x in
    absurd (omega (arith, one, zero))

-- `k` isn't among the codes that differ from `k`
none_left : (k : List ℕ) (codes : List (List ℕ)) → count_by (is_code k) (others k codes) ≡ 0
none_left k [] = refl
none_left k (c ∷ cs) = go (is_code k c) refl (none_left k cs)
  where
    go : (b : Bool) → is_code k c ≡ b → count_by (is_code k) (others k cs) ≡ 0 → count_by (is_code k) (others k (c ∷ cs)) ≡ 0
    go true e remainder = ap (λ (b : Bool). count_by (is_code k) (cond (not b) (c ∷ others k cs) (others k cs))) e ∙ remainder
    go false e remainder =
        let kept : count_by (is_code k) (others k (c ∷ cs)) ≡ count_by (is_code k) (c ∷ others k cs) =
        ap (λ (b : Bool). count_by (is_code k) (cond (not b) (c ∷ others k cs) (others k cs))) e in
        let one : count_by (is_code k) (c ∷ others k cs) ≡ 0 + count_by (is_code k) (others k cs) =
        one_more (is_code k) c (others k cs) ∙ ap (λ (b : Bool). cond b 1 0 + count_by (is_code k) (others k cs)) e in
        omega (arith, kept, one, remainder)

-- a code that differs from `k` isn't among the codes that equal `k`
none_counted : (code k : List ℕ) → is_code code k ≡ false → (codes : List (List ℕ)) → count_by (is_code code) (filter (is_code k) codes) ≡ 0
none_counted code k other [] = refl
none_counted code k other (c ∷ cs) = go (code_cmp k c) refl (none_counted code k other cs)
  where
    dropped : is_code k c ≡ false → count_by (is_code code) (filter (is_code k) cs) ≡ 0
        → count_by (is_code code) (filter (is_code k) (c ∷ cs)) ≡ 0
    dropped e remainder = ap (λ (b : Bool). count_by (is_code code) (cond b (c ∷ filter (is_code k) cs) (filter (is_code k) cs))) e ∙ remainder

    go : (r : Ordering) → code_cmp k c ≡ r → count_by (is_code code) (filter (is_code k) cs) ≡ 0
        → count_by (is_code code) (filter (is_code k) (c ∷ cs)) ≡ 0
    go Equal e remainder =
        let miss : is_code code c ≡ false = ap (is_code code) (sym (same_code k c e)) ∙ other in
        let kept : count_by (is_code code) (filter (is_code k) (c ∷ cs)) ≡ count_by (is_code code) (c ∷ filter (is_code k) cs) =
        ap (λ (b : Bool). count_by (is_code code) (cond b (c ∷ filter (is_code k) cs) (filter (is_code k) cs))) (ap is_eq e) in
        let one : count_by (is_code code) (c ∷ filter (is_code k) cs) ≡ 0 + count_by (is_code code) (filter (is_code k) cs) =
        one_more (is_code code) c (filter (is_code k) cs) ∙ ap (λ (b : Bool). cond b 1 0 + count_by (is_code code) (filter (is_code k) cs)) miss in
        omega (arith, kept, one, remainder)
    go Less e remainder = dropped (ap is_eq e) remainder
    go Greater e remainder = dropped (ap is_eq e) remainder

-- a code that differs from `k` occurs as often among the codes other than `k` as among all
same_count : (code k : List ℕ) (codes : List (List ℕ)) → is_code code k ≡ false
    → count_by (is_code code) (others k codes) ≡ count_by (is_code code) codes
same_count code k codes other =
    let both : count_by (is_code code) (filter (is_code k) codes) + count_by (is_code code) (others k codes) ≡ count_by (is_code code) codes =
    sum_by-filter_both (is_code k) (λ c. not (is_code k c)) (λ c. refl) (λ c. cond (is_code code c) 1 0) codes in
    let none : count_by (is_code code) (filter (is_code k) codes) ≡ 0 = none_counted code k other codes in
    omega (arith, both, none)

counts_add : (objects : List (List ℕ × ℕ)) (codes : List (List ℕ)) → IsStrictlySortedBy (slice_cmp nat_cmp) (keys_of objects)
    → ((code : List ℕ) → count_of objects code ≡ count_by (is_code code) codes) → sum (values_of objects) ≡ length codes
counts_add [] codes order same = sym (no_codes codes same)
counts_add (x ∷ xs) codes order same =
    let parts : length (filter (is_code x.0) codes) + length (others x.0 codes) ≡ length codes =
    length-filter_both (is_code x.0) (λ c. not (is_code x.0 c)) (λ c. refl) codes in
    let here : length (filter (is_code x.0) codes) ≡ count_by (is_code x.0) codes = length-filter (is_code x.0) codes in
    let first : x.1 ≡ count_by (is_code x.0) codes = sym (count-head x xs) ∙ same x.0 in
    let remainder : sum (values_of xs) ≡ length (others x.0 codes) =
    counts_add xs (others x.0 codes) (in_order-tail x xs order) (λ code. tails code (code_cmp code x.0) refl) in
    let all : sum (values_of (x ∷ xs)) ≡ x.1 + sum (values_of xs) = sum_by-cons (λ n. n) x.1 (values_of xs) in
    omega (arith, parts, here, first, remainder, all)
  where
    past : (code : List ℕ) → is_code code x.0 ≡ false → count_of xs code ≡ count_by (is_code code) (others x.0 codes)
    past code other =
        sym (ap (λ (b : Bool). unwrap_or (cond b (Some x.1) (lookup (is_code code) xs)) 0) other) ∙ same code ∙ sym (same_count code x.0 codes other)

    tails : (code : List ℕ) (r : Ordering) → code_cmp code x.0 ≡ r → count_of xs code ≡ count_by (is_code code) (others x.0 codes)
    tails code Equal e =
        let here : code ≡ x.0 = same_code code x.0 e in
        ap (count_of xs) here ∙ count-before x.0 xs (in_order-head x xs order) ∙ sym (none_left x.0 codes)
        ∙ ap (λ (c : List ℕ). count_by (is_code c) (others x.0 codes)) (sym here)
    tails code Less e = past code (ap is_eq e)
    tails code Greater e = past code (ap is_eq e)

pub counts_add_up : CountsAddUp
counts_add_up rule limit clusters objects of =
    counts_add objects of.codes of.lawful.in_order of.counts ∙ AllZip-long _ clusters of.codes of.named
