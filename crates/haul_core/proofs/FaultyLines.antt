-- The first fault of a line that isn't the line of a claim: a field that no claim has there, or a missing field.
use Rattle.std.proofs.Common.{◌≡◌, ◌≢◌, ◌∙◌, ◌+◌, ◌-◌, ◌<◌, ◌≤◌, ◌++◌, ◌==◌, ◌⊎◌, ◌∷◌, ℕ, List, Option, [], Some, None, ap, sym, refl, length, arith, append-nil}
use Rattle.std.proofs.Common.{append_assoc, codes, drop, flat_map, get_or, inl, inr, length-append, subst, take, true, false, Bool}
use Rattle.std.proofs.lemmas.List.{length-take-le, take-append-drop}
use Rattle.std.proofs.lemmas.Bool.{eqb-true, or_from}
use Rattle.std.proofs.Math.ListN.{get_or-append}
use Rattle.std.proofs.Math.Seq.{get_or-append_seam}
use Rattle.haul_core.specs.ClaimSteps.{FollowsFields, HasFilled, HasHead, IsLineOf, claimed, head_of}
use Rattle.haul_core.specs.Claims.{BeginClaim, IsFirstFaultOf, fields_of, followed}
use Rattle.haul_core.specs.FieldSteps.{Cuts, Lacks}
use Rattle.haul_core.specs.HaulTexts.{line_of, spaced}
use Rattle.ranges.specs.RangeListSteps.{has_byte}
use Rattle.haul_core.specs.ReportLines.{found_fields, head_fields}
use Rattle.haul_core.specs.LawfulClaims.{Claimed, IsClaim, SaidOfSoup}
use Rattle.haul_core.specs.declared.report.claim.read_start.LineStart.{LineStart}
use Rattle.haul_core.proofs.SpaceLemmas.{claim_line-lined, fields_lack, begin_spaceless, followed-cons, line_of-lined, one_cut}

-- ---- one more field

spaced_last : (before : List (List ℕ)) (field : List ℕ) → 32 ∷ (followed before ++ field) ≡ flat_map spaced (before ++ field ∷ [])
spaced_last [] field = ap (λ (t : List ℕ). 32 ∷ t) (sym (append-nil field))
spaced_last (b ∷ before) field =
    ap (λ (t : List ℕ). 32 ∷ t) (followed-cons b before field) ∙ ap (λ (t : List ℕ). 32 ∷ (b ++ t)) (spaced_last before field)

lined_last : (before : List (List ℕ)) (field : List ℕ) → IsLineOf (before ++ field ∷ []) (followed before ++ field)
unfolding line_of
lined_last [] field = sym (append-nil field)
lined_last (b ∷ before) field = followed-cons b before field ∙ ap (λ (t : List ℕ). b ++ t) (spaced_last before field)

followed_last : (before : List (List ℕ)) (field remainder : List ℕ) → followed before ++ (field ++ 32 ∷ remainder) ≡ followed (before ++ field ∷ []) ++ remainder
followed_last [] field remainder = sym (followed-cons field [] remainder)
followed_last (b ∷ before) field remainder =
    followed-cons b before (field ++ 32 ∷ remainder) ∙ ap (λ (t : List ℕ). b ++ 32 ∷ t) (followed_last before field remainder)
    ∙ sym (followed-cons b (before ++ field ∷ []) remainder)

-- if a line has the fields `before` and then `here`, and `here` is cut at its first space into `field` and `more`, the
-- line has the fields `before` and `field` and then `more`
pub follows_more : (line : List ℕ) (before : List (List ℕ)) (here field : List ℕ) (more : Option (List ℕ)) → FollowsFields line before (Some here)
    → Cuts 32 here field more
    → FollowsFields line (before ++ field ∷ []) more
follows_more line before here field None f c =
    subst (IsLineOf (before ++ field ∷ [])) (sym (f ∙ ap (λ (t : List ℕ). followed before ++ t) c.0)) (lined_last before field)
follows_more line before here field (Some remainder) f c =
    f ∙ ap (λ (t : List ℕ). followed before ++ t) c.0 ∙ followed_last before field remainder

-- ---- faults

abbrev pub remainder_of : Option (List ℕ) → List ℕ
remainder_of None = []
remainder_of (Some more) = 32 ∷ more

whole_cut : (here field : List ℕ) (more : Option (List ℕ)) → Cuts 32 here field more → (here ≡ field ++ remainder_of more) × Lacks 32 field
whole_cut here field None c = (c.0 ∙ sym (append-nil field), c.1)
whole_cut here field (Some more) c = c

ends : (more : Option (List ℕ)) → (remainder_of more ≡ []) ⊎ has_byte 32 (remainder_of more)
ends None = inl refl
ends (Some more) = inr refl

-- if some lawful claim begins with the fields `before`, but none begins with `before` and then `field`, the line's
-- first fault is at `field`
pub bad_at : (line : List ℕ) (before : List (List ℕ)) (here field : List ℕ) (more : Option (List ℕ)) → FollowsFields line before (Some here) → Cuts 32 here field more
    → BeginClaim before → ((claim : Claimed) → IsClaim claim → (remainder : List (List ℕ)) → fields_of claim ≡ before ++ field ∷ remainder → ⊥)
    → IsFirstFaultOf line (length line - length here)
bad_at line before here field more f c b none =
    let w = whole_cut here field more c in
    inl (record {
      before = before;
      field = field;
      remainder = remainder_of more;
      spelled = f ∙ ap (λ (t : List ℕ). followed before ++ t) w.0;
      whole = (w.1, ends more);
      begins = b;
      there = λ own. none own.claim own.lawful own.more (own.spelled ∙ append_assoc before (field ∷ []) own.more);
      is = omega (arith, ap length f, length-append (followed before) here);
    })

-- if some lawful claim begins with the fields `before`, but none has only these, and the line ends after them, the
-- line's first fault is the missing next field
pub lacks_at : (line : List ℕ) (before : List (List ℕ)) (there : List ℕ) → FollowsFields line before None → there ≡ [] → BeginClaim before
    → ((claim : Claimed) → IsClaim claim → fields_of claim ≢ before) → IsFirstFaultOf line (length line - length there)
lacks_at line [] there f e b none = absurd f
lacks_at line (first ∷ more) there f e b none = inr (record {
  first = first;
  more = more;
  spelled = f;
  begins = b;
  short = λ own.
      let same = one_cut (codes "report") first (head_fields own.claim ++ found_fields own.claim.found) more (fields_lack own.claim own.lawful)
      (begin_spaceless (first ∷ more) b) (sym (claim_line-lined own.claim) ∙ own.spelled ∙ f ∙ line_of-lined first more) in
      none own.claim own.lawful same;
  is = omega (arith, ap length e);
})

-- a text, cut at its first space (32), if it has one
record IsCut (text : List ℕ) : Type 0 where
  prefix : List ℕ
  remainder : Option (List ℕ)
  cut : Cuts 32 text prefix remainder

cut_anywhere : (text : List ℕ) → IsCut text
cut_anywhere [] = record { prefix = []; remainder = None; cut = (refl, refl) }
cut_anywhere (b ∷ text) = go (b == 32) refl (cut_anywhere text)
  where
    go : (t : Bool) → (b == 32) ≡ t → IsCut text → IsCut (b ∷ text)
    go true e c = record { prefix = []; remainder = Some text; cut = (ap (λ (x : ℕ). x ∷ text) (eqb-true b 32 e), refl) }
    go false e c = more c.prefix c.remainder c.cut
      where
        more : (prefix : List ℕ) (remainder : Option (List ℕ)) → Cuts 32 text prefix remainder → IsCut (b ∷ text)
        more prefix None k = record { prefix = b ∷ prefix; remainder = None; cut = (ap (λ (t : List ℕ). b ∷ t) k.0, or_from _ _ e k.1) }
        more prefix (Some remainder) k = record { prefix = b ∷ prefix; remainder = Some remainder; cut = (ap (λ (t : List ℕ). b ∷ t) k.0, or_from _ _ e k.1) }

-- if lawful claims begin with the fields `before`, but none has a field after them, and the line has one, this field is
-- the first fault
pub over_at : (line : List ℕ) (before : List (List ℕ)) (here : List ℕ) → FollowsFields line before (Some here) → BeginClaim before
    → ((claim : Claimed) → IsClaim claim → (field : List ℕ) (remainder : List (List ℕ)) → fields_of claim ≡ before ++ field ∷ remainder → ⊥)
    → IsFirstFaultOf line (length line - length here)
over_at line before here f b none =
    let c = cut_anywhere here in
    bad_at line before here c.prefix c.remainder f c.cut b (λ claim lawful remainder. none claim lawful c.prefix remainder)

-- ---- the head

-- the first `place` fields of a lawful claim's head begin a claim
pub begin_head : (place : ℕ) (claim : Claimed) → IsClaim claim → BeginClaim (take place (head_of claim))
begin_head place claim lawful = record {
  claim = claim;
  lawful = lawful;
  more = drop place (head_of claim) ++ found_fields claim.found;
  spelled = ap (λ (t : List (List ℕ)). t ++ found_fields claim.found) (sym (take-append-drop place (head_of claim)))
      ∙ append_assoc (take place (head_of claim)) (drop place (head_of claim)) (found_fields claim.found);
}

head_length : (claim : Claimed) → length (head_of claim) ≡ 7
unfolding head_fields
head_length claim = refl

-- a field of the head that no lawful claim has at this place is the first fault
pub head_bad : (line : List ℕ) (place : ℕ) (head : LineStart) (here field : List ℕ) (more : Option (List ℕ)) → place < 7 → HasHead line place head (Some here)
    → Cuts 32 here field more → ((claim : Claimed) → IsClaim claim → get_or (head_of claim) place [] ≢ field) → IsFirstFaultOf line (length line - length here)
head_bad line place head here field more within h c none =
    let own = claimed head [] in
    let prefix = take place (head_of own) in
    let count : length prefix ≡ place = omega (arith, length-take-le place (head_of own) (omega (arith, head_length own))) in
    bad_at line prefix here field more h.follows c (begin_head place own h.head.lawful) (λ claim lawful remainder e.
    none claim lawful (sym (get_or-append (head_of claim) (found_fields claim.found) [] place (omega (arith, head_length claim)))
    ∙ ap (λ (t : List (List ℕ)). get_or t place []) e
    ∙ ap (λ (k : ℕ). get_or (prefix ++ field ∷ remainder) k []) (sym count) ∙ get_or-append_seam prefix field remainder []))

pub some_found : (found : Option SaidOfSoup) → length (found_fields found) ≤ 0 → ⊥
unfolding found_fields
some_found None h = absurd (omega arith)
some_found (Some told) h = absurd (omega arith)

-- if the line ends within the head or directly after it, the missing next field is the first fault
pub head_lacks : (line : List ℕ) (place : ℕ) (head : LineStart) (there : List ℕ) → place ≤ 7 → HasHead line place head None → there ≡ []
    → IsFirstFaultOf line (length line - length there)
head_lacks line place head there within h e =
    let own = claimed head [] in
    lacks_at line (take place (head_of own)) there h.follows e (begin_head place own h.head.lawful) (λ claim lawful f.
    let n = ap length f in
    some_found claim.found (omega (
      arith,
      head_length claim,
      head_length own,
      length-append (head_of claim) (found_fields claim.found),
      length-take-le place (head_of own) (omega (arith, head_length own)),
    )))

-- if the next field of a line is filled into the head, one more field of the head has been read
pub head_more : (line : List ℕ) (place : ℕ) (head next : LineStart) (here field : List ℕ) (more : Option (List ℕ)) → HasHead line place head (Some here)
    → Cuts 32 here field more → HasFilled place head next field → HasHead line (place + 1) next more
head_more line place head next here field more h c f = record {
  head = record { lawful = f.lawful; none = f.none };
  follows = subst (λ (fields : List (List ℕ)). FollowsFields line fields more) (sym f.spelled)
      (follows_more line (take place (head_of (claimed head []))) here field more h.follows c);
}
