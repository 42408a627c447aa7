-- A line that isn't a report line has its first fault at only one place.
use Rattle.std.proofs.Common.{◌≡◌, ◌∙◌, ◌++◌, ◌⊎◌, ◌∷◌, ℕ, List, [], append_assoc, ap, inl, inr, length, refl, subst, sym}
use Rattle.haul_core.specs.Claims.{BeginClaim, IsBadField, IsFirstFaultOf, LacksField, followed}
use Rattle.haul_core.specs.FieldSteps.{Lacks}
use Rattle.haul_core.proofs.SpaceLemmas.{AreSpaceless, Stops, begin_spaceless, cut_ends, fields_begin, followed-cons, line_of-lined, stops_after}

begin_prefix : (before : List (List ℕ)) (field : List ℕ) (more : List (List ℕ)) → BeginClaim (before ++ field ∷ more) → BeginClaim (before ++ field ∷ [])
begin_prefix before field more b = record {
  claim = b.claim;
  lawful = b.lawful;
  more = more ++ b.more;
  spelled = b.spelled ∙ append_assoc before (field ∷ more) b.more ∙ sym (append_assoc before (field ∷ []) (more ++ b.more));
}

-- `other` begins with the fields `before` and then `field`
abbrev Goes : List (List ℕ) → List ℕ → List (List ℕ) → Type 0
Goes before field other = (more : List (List ℕ)) × (other ≡ before ++ field ∷ more)

-- if a line begins with the fields `a` and then `f`, and also with the fields `b` and then `g`, then `a` equals `b`, or
-- `b` begins with `a` and then `f`, or `a` begins with `b` and then `g`
compare : (a b : List (List ℕ)) (f g r s : List ℕ) → AreSpaceless a → AreSpaceless b → Lacks 32 f → Lacks 32 g → Stops 32 r → Stops 32 s
    → followed a ++ (f ++ r) ≡ followed b ++ (g ++ s) → (a ≡ b) ⊎ (Goes a f b ⊎ Goes b g a)
compare [] [] f g r s h k p q u v e = inl refl
compare [] (y ∷ b) f g r s h k p q u v e =
    let c = cut_ends 32 f y r (32 ∷ (followed b ++ (g ++ s))) p k.0 u refl (e ∙ followed-cons y b (g ++ s)) in
    inr (inl (b, λ i. sym c.0 i ∷ b))
compare (x ∷ a) [] f g r s h k p q u v e =
    let c = cut_ends 32 g x s (32 ∷ (followed a ++ (f ++ r))) q h.0 v refl (sym e ∙ followed-cons x a (f ++ r)) in
    inr (inr (a, λ i. sym c.0 i ∷ a))
compare (x ∷ a) (y ∷ b) f g r s h k p q u v e =
    let c = cut_ends 32 x y (32 ∷ (followed a ++ (f ++ r))) (32 ∷ (followed b ++ (g ++ s))) h.0 k.0 refl refl
    (sym (followed-cons x a (f ++ r)) ∙ e ∙ followed-cons y b (g ++ s)) in
    let t : followed a ++ (f ++ r) ≡ followed b ++ (g ++ s) = (let w = c.1 in cc) in
    go c.0 (compare a b f g r s h.1 k.1 p q u v t)
  where
    go : x ≡ y → (a ≡ b) ⊎ (Goes a f b ⊎ Goes b g a) → (x ∷ a ≡ y ∷ b) ⊎ (Goes (x ∷ a) f (y ∷ b) ⊎ Goes (y ∷ b) g (x ∷ a))
    go e (inl same) = inl (λ i. e i ∷ same i)
    go e (inr (inl m)) = inr (inl (m.0, λ i. sym e i ∷ m.1 i))
    go e (inr (inr m)) = inr (inr (m.0, λ i. e i ∷ m.1 i))

two_bad : (line : List ℕ) (p q : ℕ) → IsBadField line p → IsBadField line q → p ≡ q
two_bad line p q a b = go (compare a.before b.before a.field b.field a.remainder b.remainder (begin_spaceless a.before a.begins) (begin_spaceless b.before b.begins)
    a.whole.0 b.whole.0 (stops_after a.remainder a.whole.1) (stops_after b.remainder b.whole.1) (sym a.spelled ∙ b.spelled))
  where
    go : (a.before ≡ b.before) ⊎ (Goes a.before a.field b.before ⊎ Goes b.before b.field a.before) → p ≡ q
    go (inl same) = a.is ∙ ap (λ (fields : List (List ℕ)). length (followed fields)) same ∙ sym b.is
    go (inr (inl m)) = absurd (a.there (begin_prefix a.before a.field m.0 (subst BeginClaim m.1 b.begins)))
    go (inr (inr m)) = absurd (b.there (begin_prefix b.before b.field m.0 (subst BeginClaim m.1 a.begins)))

bad_or_short : (line : List ℕ) (p q : ℕ) → IsBadField line p → LacksField line q → ⊥
bad_or_short line p q a b =
    let m = fields_begin a.before b.first b.more a.field a.remainder (begin_spaceless (b.first ∷ b.more) b.begins) (begin_spaceless a.before a.begins) a.whole.0
    (stops_after a.remainder a.whole.1) (sym (line_of-lined b.first b.more) ∙ sym b.spelled ∙ a.spelled) in
    a.there (begin_prefix a.before a.field m.0 (subst BeginClaim m.1 b.begins))

pub one_place : (line : List ℕ) (p q : ℕ) → IsFirstFaultOf line p → IsFirstFaultOf line q → p ≡ q
one_place line p q (inl a) (inl b) = two_bad line p q a b
one_place line p q (inl a) (inr b) = absurd (bad_or_short line p q a b)
one_place line p q (inr a) (inl b) = absurd (bad_or_short line q p b a)
one_place line p q (inr a) (inr b) = a.is ∙ sym b.is
