-- A set of numbers has only one normal form as a list of ranges.
use Rattle.std.proofs.Common.{◌≡◌, ◌∙◌, ◌<◌, ◌≤◌, ◌⊎◌, inl, inr, ℕ, Bool, true, false, List, [], ◌∷◌, ap, sym, refl, subst, arith}
use Rattle.std.proofs.lemmas.Bool.{cases_lt}
use Rattle.ranges.specs.declared.range.Range.{Range}
use Rattle.ranges.specs.Ranges.{AreNormal, BeginAfter, OneNormalForm, end_of, is_in, is_in_range}
use Rattle.ranges.proofs.RangeLemmas.{end_of_in, first_of_in, in_range}

-- if ranges in normal form begin after a place, all their numbers come after it
pub after : (place n : ℕ) (rs : List Range) → AreNormal rs → BeginAfter place rs → is_in rs n ≡ true → place < n
after place n [] h k is = absurd (cc)
after place n (r ∷ rs) h k is = go (is_in_range n r) refl (after (end_of r) n rs h.2 h.1)
  where
    go : (b : Bool) → is_in_range n r ≡ b → (is_in rs n ≡ true → end_of r < n) → place < n
    go true e more = let f = first_of_in n r e in omega arith
    go false e more =
        let remainder : is_in rs n ≡ true = (let i = is in cc) in
        let m = more remainder in
        omega arith

-- ranges in normal form have no number before the first number of the first range
from_first : (n : ℕ) (r : Range) (rs : List Range) → AreNormal (r ∷ rs) → is_in (r ∷ rs) n ≡ true → r.first ≤ n
from_first n r rs h is = go (is_in_range n r) refl
  where
    go : (b : Bool) → is_in_range n r ≡ b → r.first ≤ n
    go true e = first_of_in n r e
    go false e =
        let remainder : is_in rs n ≡ true = (let i = is in cc) in
        let m = after (end_of r) n rs h.2 h.1 remainder in
        omega arith

first_in : (r : Range) (rs : List Range) → AreNormal (r ∷ rs) → is_in (r ∷ rs) r.first ≡ true
first_in r rs h = let i = in_range r.first r (omega arith) (let s = h.0 in omega arith) in cc

-- ranges in normal form don't have the number just after the first range
end_out : (r : Range) (rs : List Range) → AreNormal (r ∷ rs) → is_in (r ∷ rs) (end_of r) ≡ false
end_out r rs h = go (is_in (r ∷ rs) (end_of r)) refl
  where
    go : (b : Bool) → is_in (r ∷ rs) (end_of r) ≡ b → is_in (r ∷ rs) (end_of r) ≡ false
    go false e = e
    go true e = inner (is_in_range (end_of r) r) refl
      where
        inner : (b : Bool) → is_in_range (end_of r) r ≡ b → is_in (r ∷ rs) (end_of r) ≡ false
        inner true f = let l = end_of_in (end_of r) r f in absurd (omega arith)
        inner false f =
            let remainder : is_in rs (end_of r) ≡ true = (let i = e in cc) in
            let m = after (end_of r) (end_of r) rs h.2 h.1 remainder in
            absurd (omega arith)

-- if r and s are the first ranges of two normal forms of equal sets, and begin at the same number, s ends no later
-- than r
no_sooner : (r s : Range) (rs ss : List Range) → AreNormal (r ∷ rs) → AreNormal (s ∷ ss) → r.first ≡ s.first
    → ((n : ℕ) → is_in (r ∷ rs) n ≡ is_in (s ∷ ss) n) → end_of s ≤ end_of r
no_sooner r s rs ss h k e same = go (cases_lt (end_of r) (end_of s))
  where
    go : (end_of r < end_of s) ⊎ (end_of s ≤ end_of r) → end_of s ≤ end_of r
    go (inr at) = at
    go (inl less) =
        let inside : is_in_range (end_of r) s ≡ true = in_range (end_of r) s (omega arith) less in
        let there : is_in (s ∷ ss) (end_of r) ≡ true = cc in
        let out = end_out r rs h in
        let both = same (end_of r) in
        absurd (cc)

-- if two lists in normal form begin with the same range and agree on whether they have n, their other ranges agree on
-- this, too
same_remainder : (r : Range) (rs ss : List Range) (n : ℕ) → AreNormal (r ∷ rs) → AreNormal (r ∷ ss) → is_in (r ∷ rs) n ≡ is_in (r ∷ ss) n → is_in rs n ≡ is_in ss n
same_remainder r rs ss n h k same = go (is_in rs n) (is_in ss n) (is_in_range n r) refl refl refl
  where
    go : (a b c : Bool) → is_in rs n ≡ a → is_in ss n ≡ b → is_in_range n r ≡ c → is_in rs n ≡ is_in ss n
    go true true c p q f = p ∙ sym q
    go false false c p q f = p ∙ sym q
    go true false false p q f = absurd (cc)
    go false true false p q f = absurd (cc)
    go true false true p q f = let m = after (end_of r) n rs h.2 h.1 p in let l = end_of_in n r f in absurd (omega arith)
    go false true true p q f = let m = after (end_of r) n ss k.2 k.1 q in let l = end_of_in n r f in absurd (omega arith)

same_all : (r s : Range) (rs ss : List Range) → r ≡ s → AreNormal (r ∷ rs) → AreNormal (s ∷ ss) → ((n : ℕ) → is_in (r ∷ rs) n ≡ is_in (s ∷ ss) n)
    → (AreNormal rs → AreNormal ss → ((n : ℕ) → is_in rs n ≡ is_in ss n) → rs ≡ ss) → r ∷ rs ≡ s ∷ ss
same_all r s rs ss one h k same more =
    let k' : AreNormal (r ∷ ss) = subst (λ (t : Range). AreNormal (t ∷ ss)) (sym one) k in
    let e : rs ≡ ss = more h.2 k.2 (λ n. same_remainder r rs ss n h k' (same n ∙ ap (λ (t : Range). is_in (t ∷ ss) n) (sym one))) in
    λ i. one i ∷ e i

pub normal_forms : OneNormalForm
normal_forms [] [] h k same = refl
normal_forms [] (s ∷ ss) h k same = let i = first_in s ss k in let e = same s.first in absurd (cc)
normal_forms (r ∷ rs) [] h k same = let i = first_in r rs h in let e = same r.first in absurd (cc)
normal_forms (r ∷ rs) (s ∷ ss) h k same =
    let low : r.first ≤ s.first = from_first s.first r rs h (same s.first ∙ first_in s ss k) in
    let high : s.first ≤ r.first = from_first r.first s ss k (sym (same r.first) ∙ first_in r rs h) in
    let first : r.first ≡ s.first = omega arith in
    let over = no_sooner r s rs ss h k first same in
    let under = no_sooner s r ss rs k h (sym first) (λ n. sym (same n)) in
    let count : r.count ≡ s.count = omega arith in
    let one : r ≡ s = (λ i. record { first = first i; count = count i }) in
    same_all r s rs ss one h k same (λ p q e. normal_forms rs ss p q e)
