-- What a line says about the soup: that it didn't settle, or when it did, and in version 2 whether its objects stay for
-- good (the mark).
use Rattle.std.proofs.Common.{◌≡◌, ◌≢◌, ◌∙◌, ◌==◌, ◌-◌, ◌≤◌, ◌++◌, ◌⊎◌, ◌∷◌, ℕ, Bool, List, Option, [], Some, None, ap, sym, refl, length, arith, append-nil}
use Rattle.std.proofs.Common.{append_assoc, codes, decimal, get_or, inl, inr, map, subst, take, true, false}
use Rattle.std.proofs.lemmas.Fmt.{decimal_injective}
use Rattle.std.proofs.lemmas.List.Elements.{All-nil}
use Rattle.std.specs.List.Sorted.{IsStrictlySortedBy}
use Rattle.haul_core.specs.ClaimSteps.{FollowsFields, HasReadStart, HasHead, IsHead, claimed, head_of, said_with}
use Rattle.haul_core.specs.Claims.{BeginClaim, IsFirstFaultOf, fields_of}
use Rattle.haul_core.specs.FieldSteps.{Cuts, IsAnyMark, IsState, state_field}
use Rattle.haul_core.specs.ReportLines.{count_field, found_fields, head_fields, mark_field, mark_fields}
use Rattle.haul_core.specs.LawfulClaims.{Claimed, IsClaim, IsCount, IsFound, IsMark, SaidOfSoup}
use Rattle.haul_core.specs.declared.report.claim.read_start.LineStart.{LineStart}
use Rattle.haul_core.specs.declared.report.claim.read_start.WhenSettled.{WhenSettled}
use Rattle.haul_core.proofs.FaultyLines.{bad_at, begin_head, follows_more, lacks_at, over_at}
use Rattle.haul_core.proofs.SpaceLemmas.{version_small}

whole_head : (claim : Claimed) → take 7 (head_of claim) ≡ head_of claim
unfolding head_fields
whole_head claim = refl

-- if the fields of claim `c` are the head of claim `d` and then `ys`, both claims have the same version, and `ys` are
-- the fields about `c`'s soup
pub cut_head : (c d : Claimed) (ys : List (List ℕ)) → fields_of c ≡ head_of d ++ ys → (decimal c.version ≡ decimal d.version) × (found_fields c.found ≡ ys)
unfolding head_fields
cut_head c d ys e = (cc, cc)

pub same_version : (c d : Claimed) → IsClaim c → IsClaim d → decimal c.version ≡ decimal d.version → c.version ≡ d.version
same_version c d h k e = decimal_injective c.version d.version (version_small c h) (version_small d k) e

-- ---- the state

follows_head : (line : List ℕ) (head : LineStart) (remainder : Option (List ℕ)) → HasHead line 7 head remainder → FollowsFields line (head_of (claimed head [])) remainder
follows_head line head remainder h = subst (λ (fields : List (List ℕ)). FollowsFields line fields remainder) (whole_head (claimed head [])) h.follows

begin_state : (head : LineStart) → IsHead head → BeginClaim (head_of (claimed head []))
begin_state head h = subst BeginClaim (whole_head (claimed head [])) (begin_head 7 (claimed head []) h.lawful)

pub state_more : (line : List ℕ) (head : LineStart) (here field text : List ℕ) (more : Option (List ℕ)) → HasHead line 7 head (Some here) → Cuts 32 here field more
    → field ≡ text → FollowsFields line (head_of (claimed head []) ++ text ∷ []) more
state_more line head here field text more h c e =
    subst (λ (t : List ℕ). FollowsFields line (head_of (claimed head []) ++ t ∷ []) more) e
    (follows_more line (head_of (claimed head [])) here field more (follows_head line head (Some here) h) c)

state_of : (version : ℕ) (found : Option SaidOfSoup) (field : List ℕ) (remainder : List (List ℕ)) → IsFound version found → found_fields found ≡ field ∷ remainder
    → (state : Option ℕ) × (IsState state × (field ≡ state_field state))
unfolding found_fields
state_of version None field remainder h e = (None, (tt, cc))
state_of version (Some told) field remainder h e = (Some told.checkpoint, (h.checkpoint, cc))

pub state_bad : (line : List ℕ) (head : LineStart) (here field : List ℕ) (more : Option (List ℕ)) → HasHead line 7 head (Some here) → Cuts 32 here field more
    → ((state : Option ℕ) → IsState state → field ≢ state_field state) → IsFirstFaultOf line (length line - length here)
state_bad line head here field more h c none =
    bad_at line (head_of (claimed head [])) here field more (follows_head line head (Some here) h) c (begin_state head h.head) (λ claim lawful remainder e.
    let s = state_of claim.version claim.found field remainder lawful.found (cut_head claim (claimed head []) (field ∷ remainder) e).1 in
    none s.0 s.1.0 s.1.1)

-- ---- a soup that didn't settle

found_none : (settled : Option WhenSettled) → settled ≡ None → found_fields (said_with settled []) ≡ codes "unsettled" ∷ []
unfolding found_fields
found_none None e = refl
found_none (Some settled_start) e = absurd (cc)

unsettled_fields : (head : LineStart) → IsHead head → fields_of (claimed head []) ≡ head_of (claimed head []) ++ codes "unsettled" ∷ []
unsettled_fields head h = ap (λ (t : List (List ℕ)). head_of (claimed head []) ++ t) (found_none head.settled h.none)

pub unsettled_start : (line : List ℕ) (head : LineStart) → IsHead head → FollowsFields line (head_of (claimed head []) ++ codes "unsettled" ∷ []) None
    → HasReadStart line head None
unsettled_start line head h f = record {
  lawful = h.lawful;
  follows = subst (λ (fields : List (List ℕ)). FollowsFields line fields None) (sym (unsettled_fields head h)) f;
  settled = λ here e. absurd (cc);
}

pub at_other : (checkpoint : ℕ) → codes "at=" ++ decimal checkpoint ≢ codes "unsettled"
at_other checkpoint e = let h : (97 == 117) ≡ true = ap (λ (t : List ℕ). get_or t 0 0 == 117) e in absurd (cc)

nothing_after : (found : Option SaidOfSoup) (field : List ℕ) (remainder : List (List ℕ)) → found_fields found ≡ codes "unsettled" ∷ field ∷ remainder → ⊥
unfolding found_fields
nothing_after None field remainder e = absurd (cc)
nothing_after (Some told) field remainder e = at_other told.checkpoint (let h : codes "at=" ++ decimal told.checkpoint ≡ codes "unsettled" = cc in h)

pub unsettled_over : (line : List ℕ) (head : LineStart) (there : List ℕ) → IsHead head
    → FollowsFields line (head_of (claimed head []) ++ codes "unsettled" ∷ []) (Some there)
    → IsFirstFaultOf line (length line - length there)
unsettled_over line head there h f =
    let own = claimed head [] in
    let begin : BeginClaim (head_of own ++ codes "unsettled" ∷ []) = record {
      claim = own;
      lawful = h.lawful;
      more = [];
      spelled = unsettled_fields head h ∙ sym (append-nil (head_of own ++ codes "unsettled" ∷ []));
    } in
    over_at line (head_of own ++ codes "unsettled" ∷ []) there f begin (λ claim lawful field remainder e.
    nothing_after claim.found field remainder
    (cut_head claim own (codes "unsettled" ∷ field ∷ remainder) (e ∙ append_assoc (head_of own) (codes "unsettled" ∷ []) (field ∷ remainder))).1)

-- ---- a soup that settled

abbrev pub at_field : ℕ → List ℕ
at_field checkpoint = codes "at=" ++ decimal checkpoint

-- the start of a line, with this checkpoint and mark
abbrev pub settled_start : LineStart → ℕ → Option Bool → LineStart
settled_start head checkpoint for_good = record head { settled = Some (record { checkpoint = checkpoint; for_good = for_good }) }

settled_start_lawful : (head : LineStart) (checkpoint : ℕ) (for_good : Option Bool) → IsHead head → checkpoint ≤ 100000 → IsMark head.version for_good
    → IsClaim (claimed (settled_start head checkpoint for_good) [])
unfolding IsStrictlySortedBy
settled_start_lawful head checkpoint for_good h most mark = record {
  version = h.lawful.version;
  rule = h.lawful.rule;
  profile = h.lawful.profile;
  seed = h.lawful.seed;
  worker = h.lawful.worker;
  number = h.lawful.number;
  found = record { checkpoint = most; mark = mark; counts = All-nil IsCount; in_order = tt };
}

settled_start_fields : (head : LineStart) (checkpoint : ℕ) (for_good : Option Bool)
    → fields_of (claimed (settled_start head checkpoint for_good) []) ≡ head_of (claimed head []) ++ at_field checkpoint ∷ mark_fields for_good
unfolding head_fields found_fields
settled_start_fields head checkpoint for_good =
    ap (λ (t : List (List ℕ)). head_of (claimed head []) ++ at_field checkpoint ∷ t) (append-nil (mark_fields for_good))

is_settled : (line : List ℕ) (head : LineStart) (checkpoint : ℕ) (for_good : Option Bool) (remainder : Option (List ℕ)) → IsHead head → checkpoint ≤ 100000
    → IsMark head.version for_good → FollowsFields line (head_of (claimed head []) ++ at_field checkpoint ∷ mark_fields for_good) remainder
    → HasReadStart line (settled_start head checkpoint for_good) remainder
is_settled line head checkpoint for_good remainder h most mark f = record {
  lawful = settled_start_lawful head checkpoint for_good h most mark;
  follows = subst (λ (fields : List (List ℕ)). FollowsFields line fields remainder) (sym (settled_start_fields head checkpoint for_good)) f;
  settled = λ here e g. absurd (cc);
}

-- in version 1, the start ends with the checkpoint
pub settled_first : (line : List ℕ) (head start : LineStart) (checkpoint : ℕ) (remainder : Option (List ℕ)) → IsHead head → checkpoint ≤ 100000 → head.version ≡ 1
    → FollowsFields line (head_of (claimed head []) ++ at_field checkpoint ∷ []) remainder → start ≡ settled_start head checkpoint None → HasReadStart line start remainder
unfolding mark_fields
settled_first line head start checkpoint remainder h most one f e =
    subst (λ (r : LineStart). HasReadStart line r remainder) (sym e) (is_settled line head checkpoint None remainder h most one f)

pub is_second : (head : LineStart) → IsHead head → head.version ≢ 1 → head.version ≡ 2
is_second head h n = go h.lawful.version
  where
    go : (head.version ≡ 1) ⊎ (head.version ≡ 2) → head.version ≡ 2
    go (inl e) = absurd (n e)
    go (inr e) = e

-- in version 2, the start ends with the mark
pub settled_second : (line : List ℕ) (head start : LineStart) (checkpoint : ℕ) (here field : List ℕ) (for_good : Bool) (more : Option (List ℕ)) → IsHead head
    → checkpoint ≤ 100000 → head.version ≢ 1 → FollowsFields line (head_of (claimed head []) ++ at_field checkpoint ∷ []) (Some here) → Cuts 32 here field more
    → field ≡ mark_field for_good → start ≡ settled_start head checkpoint (Some for_good) → HasReadStart line start more
unfolding mark_fields
settled_second line head start checkpoint here field for_good more h most n f c e g =
    let own = claimed head [] in
    let k : FollowsFields line ((head_of own ++ at_field checkpoint ∷ []) ++ mark_field for_good ∷ []) more =
    subst (λ (t : List ℕ). FollowsFields line ((head_of own ++ at_field checkpoint ∷ []) ++ t ∷ []) more) e
    (follows_more line (head_of own ++ at_field checkpoint ∷ []) here field more f c) in
    subst (λ (r : LineStart). HasReadStart line r more) (sym g) (is_settled line head checkpoint (Some for_good) more h most (is_second head h n)
    (subst (λ (fields : List (List ℕ)). FollowsFields line fields more) (append_assoc (head_of own) (at_field checkpoint ∷ []) (mark_field for_good ∷ [])) k))

begin_mark : (head : LineStart) (checkpoint : ℕ) → IsHead head → checkpoint ≤ 100000 → head.version ≡ 2
    → BeginClaim (head_of (claimed head []) ++ at_field checkpoint ∷ [])
unfolding mark_fields
begin_mark head checkpoint h most two = record {
  claim = claimed (settled_start head checkpoint (Some false)) [];
  lawful = settled_start_lawful head checkpoint (Some false) h most two;
  more = mark_field false ∷ [];
  spelled = settled_start_fields head checkpoint (Some false)
      ∙ sym (append_assoc (head_of (claimed head [])) (at_field checkpoint ∷ []) (mark_field false ∷ []));
}

-- in version 2, a mark follows the checkpoint
marked : (version : ℕ) (found : Option SaidOfSoup) (checkpoint : ℕ) (remainder : List (List ℕ)) → version ≡ 2 → IsFound version found
    → found_fields found ≡ at_field checkpoint ∷ remainder → (for_good : Bool) × ((more : List (List ℕ)) × (remainder ≡ mark_field for_good ∷ more))
unfolding found_fields mark_fields
marked version None checkpoint remainder two h e = absurd (at_other checkpoint (let h : codes "at=" ++ decimal checkpoint ≡ codes "unsettled" = cc in h))
marked version (Some told) checkpoint remainder two h e = go told.for_good h.mark (let t : mark_fields told.for_good ++ map count_field told.counts ≡ remainder = cc in t)
  where
    go : (for_good : Option Bool) → IsMark version for_good → mark_fields for_good ++ map count_field told.counts ≡ remainder
        → (for_good : Bool) × ((more : List (List ℕ)) × (remainder ≡ mark_field for_good ∷ more))
    go None one t = absurd (omega arith)
    go (Some for_good) two t = (for_good, (map count_field told.counts, sym t))

pub mark_lacks : (line : List ℕ) (head : LineStart) (checkpoint : ℕ) (there : List ℕ) → IsHead head → checkpoint ≤ 100000 → head.version ≢ 1
    → FollowsFields line (head_of (claimed head []) ++ at_field checkpoint ∷ []) None → there ≡ [] → IsFirstFaultOf line (length line - length there)
mark_lacks line head checkpoint there h most n f e =
    let own = claimed head [] in
    let two = is_second head h n in
    lacks_at line (head_of own ++ at_field checkpoint ∷ []) there f e (begin_mark head checkpoint h most two) (λ claim lawful g.
    let c = cut_head claim own (at_field checkpoint ∷ []) g in
    let m = marked claim.version claim.found checkpoint [] (same_version claim own lawful h.lawful c.0 ∙ two) lawful.found c.1 in
    absurd (let t = m.1.1 in cc))

pub mark_bad : (line : List ℕ) (head : LineStart) (checkpoint : ℕ) (here field : List ℕ) (more : Option (List ℕ)) → IsHead head → checkpoint ≤ 100000
    → head.version ≢ 1
    → FollowsFields line (head_of (claimed head []) ++ at_field checkpoint ∷ []) (Some here) → Cuts 32 here field more
    → ((for_good : Bool) → IsAnyMark for_good → field ≢ mark_field for_good) → IsFirstFaultOf line (length line - length here)
mark_bad line head checkpoint here field more h most n f c none =
    let own = claimed head [] in
    let two = is_second head h n in
    bad_at line (head_of own ++ at_field checkpoint ∷ []) here field more f c (begin_mark head checkpoint h most two) (λ claim lawful remainder g.
    let k = cut_head claim own (at_field checkpoint ∷ field ∷ remainder) (g ∙ append_assoc (head_of own) (at_field checkpoint ∷ []) (field ∷ remainder)) in
    let m = marked claim.version claim.found checkpoint (field ∷ remainder) (same_version claim own lawful h.lawful k.0 ∙ two) lawful.found k.1 in
    none m.0 tt (let t = m.1.1 in cc))
