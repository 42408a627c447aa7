-- Two sets in normal form, with or without a number in common.
use Rattle.std.proofs.Common.{◌≡◌, ◌∙◌, ◌+◌, ◌<◌, ◌≤◌, ◌||◌, ◌++◌, ℕ, zero, suc, Bool, true, false, List, [], ◌∷◌, ap, sym, refl}
use Rattle.std.proofs.Common.{arith, count_by, length, take, get_or, rules, zero-add}
use Rattle.std.specs.List.{list_any}
use Rattle.std.proofs.lemmas.Bool.{false≢true}
use Rattle.std.proofs.lemmas.List.{take_more}
use Rattle.std.proofs.lemmas.List.Folds.{list_any-append}
use Rattle.ranges.specs.declared.range.Range.{Range}
use Rattle.ranges.specs.RangeSteps.{shares}
use Rattle.ranges.specs.Ranges.{AreNormal, Overlap, ShareNumber, end_of, is_in, is_in_range}
use Rattle.ranges.proofs.NormalLemmas.{after}
use Rattle.ranges.proofs.RangeLemmas.{count_hit, count_miss, end_of_in, met, unmet}

-- `count_by` counts the ranges that have n: the count is 0 if `is_in` is false for n, and `is_in` is true for n if the
-- count is at least 1
count_out : (n : ℕ) (rs : List Range) → is_in rs n ≡ false → count_by (is_in_range n) rs ≡ 0
count_out n [] h = refl
count_out n (r ∷ rs) h =
    let here : is_in_range n r ≡ false = search (rules) in
    let remainder : is_in rs n ≡ false = search (rules) in
    count_miss (is_in_range n) r rs here ∙ count_out n rs remainder

in_counted : (n : ℕ) (rs : List Range) → 1 ≤ count_by (is_in_range n) rs → is_in rs n ≡ true
in_counted n rs h = go (is_in rs n) refl
  where
    go : (b : Bool) → is_in rs n ≡ b → is_in rs n ≡ true
    go true e = e
    go false e = let c = count_out n rs e in absurd (omega arith)

-- if ranges are in normal form, a number is in at most one of them
count_normal : (n : ℕ) (rs : List Range) → AreNormal rs → count_by (is_in_range n) rs ≤ 1
count_normal n [] h = omega arith
count_normal n (r ∷ rs) h = go (is_in_range n r) refl (count_normal n rs h.2)
  where
    go : (b : Bool) → is_in_range n r ≡ b → count_by (is_in_range n) rs ≤ 1 → count_by (is_in_range n) (r ∷ rs) ≤ 1
    go false e remainder = let c = count_miss (is_in_range n) r rs e in omega arith
    go true e remainder = out (is_in rs n) refl
      where
        out : (b : Bool) → is_in rs n ≡ b → count_by (is_in_range n) (r ∷ rs) ≤ 1
        out false f = let c = count_hit (is_in_range n) r rs e in let d = count_out n rs f in omega arith
        out true f = let a = after (end_of r) n rs h.2 h.1 f in let l = end_of_in n r e in absurd (omega arith)

count-append : (n : ℕ) (a b : List Range) → count_by (is_in_range n) (a ++ b) ≡ count_by (is_in_range n) a + count_by (is_in_range n) b
count-append n [] b = sym (zero-add (count_by (is_in_range n) b))
count-append n (r ∷ a) b = go (is_in_range n r) refl (count-append n a b)
  where
    go : (t : Bool) → is_in_range n r ≡ t → count_by (is_in_range n) (a ++ b) ≡ count_by (is_in_range n) a + count_by (is_in_range n) b
        → count_by (is_in_range n) ((r ∷ a) ++ b) ≡ count_by (is_in_range n) (r ∷ a) + count_by (is_in_range n) b
    go true e remainder = let c = count_hit (is_in_range n) r (a ++ b) e in let d = count_hit (is_in_range n) r a e in omega arith
    go false e remainder = let c = count_miss (is_in_range n) r (a ++ b) e in let d = count_miss (is_in_range n) r a e in omega arith

-- if two sets in normal form share no number, the ranges of both sets together don't overlap
pub apart_sets : (a b : List Range) → AreNormal a → AreNormal b → ¬ ShareNumber a b → ¬ Overlap (a ++ b)
apart_sets a b h k apart o =
    let n = o.0 in
    let sum = count-append n a b in
    let first = count_normal n a h in
    let second = count_normal n b k in
    let two : 2 ≤ count_by (is_in_range n) (a ++ b) = o.1 in
    apart (record { number = n; first = in_counted n a (omega arith); second = in_counted n b (omega arith) })

-- if range i of b passes the test `shares` with one of the ranges of a, the two sets share a number
pub shared_by : (r : Range) (a b : List Range) (i : ℕ) → i < length b → list_any (shares (get_or b i r)) a ≡ true → ShareNumber a b
shared_by r a b i low h =
    let m = met (get_or b i r) a h in
    record { number = m.0; first = in_counted m.0 a m.2; second = in_at m.0 b i low m.1 }
  where
    in_at : (n : ℕ) (b : List Range) (i : ℕ) → i < length b → is_in_range n (get_or b i r) ≡ true → is_in b n ≡ true
    in_at n [] i low h = absurd (omega arith)
    in_at n (s ∷ b) zero low h = search (rules)
    in_at n (s ∷ b) (suc i) low h = let remainder = in_at n b i (omega arith) h in search (rules)

counted_in : (n : ℕ) (rs : List Range) → is_in rs n ≡ true → 1 ≤ count_by (is_in_range n) rs
counted_in n [] h = absurd (false≢true h)
counted_in n (r ∷ rs) h = go (is_in_range n r) refl (counted_in n rs)
  where
    go : (b : Bool) → is_in_range n r ≡ b → (is_in rs n ≡ true → 1 ≤ count_by (is_in_range n) rs) → 1 ≤ count_by (is_in_range n) (r ∷ rs)
    go true e remainder = let c = count_hit (is_in_range n) r rs e in omega arith
    go false e remainder =
        let c = count_miss (is_in_range n) r rs e in
        let there : is_in rs n ≡ true = search (rules) in
        let more = remainder there in
        omega arith

-- if the first i ranges of b share no number with a, and range i of b shares none, the first i + 1 ranges share none
pub apart_more : (d : Range) (a b : List Range) (i : ℕ) → i < length b → ¬ ShareNumber a (take i b) → list_any (shares (get_or b i d)) a ≡ false
    → ¬ ShareNumber a (take (i + 1) b)
apart_more d a b i low apart none s = go (is_in_range s.number (get_or b i d)) refl
  where
    cut : is_in (take (i + 1) b) s.number ≡ (is_in (take i b) s.number || (is_in_range s.number (get_or b i d) || false))
    cut = ap (λ (rs : List Range). is_in rs s.number) (take_more b i d low)
        ∙ list_any-append (is_in_range s.number) (take i b) (get_or b i d ∷ [])

    go : (t : Bool) → is_in_range s.number (get_or b i d) ≡ t → ⊥
    go true e =
        let c = unmet s.number (get_or b i d) a none e in
        let one = counted_in s.number a s.first in
        absurd (omega arith)
    go false e =
        let before : is_in (take i b) s.number ≡ true = (let x = sym cut ∙ s.second in search (rules)) in
        apart (record { number = s.number; first = s.first; second = before })
