-- The counts of a line, one at a time, and the fault at a field that isn't the field of a count that may follow.
use Rattle.std.proofs.Common.{◌≡◌, ◌≢◌, ◌∙◌, ◌-◌, ◌++◌, ◌∷◌, ℕ, Bool, List, Option, [], Some, None, ap, sym, refl, length, arith, append-nil}
use Rattle.std.proofs.Common.{append_assoc, codes, decimal, map, subst}
use Rattle.std.proofs.lemmas.Fmt.{decimal_injective}
use Rattle.std.proofs.lemmas.List.{map-append}
use Rattle.std.proofs.lemmas.List.Elements.{All-push, recursion_from_All}
use Rattle.std.specs.List.{AllByRecursion}
use Rattle.haul_core.specs.ClaimSteps.{FollowsFields, HasCounts, HasReadStart, MayFollow, claimed, head_of, last_code, said_with}
use Rattle.haul_core.specs.Claims.{BeginClaim, IsClaimLine, IsFirstFaultOf, fields_of}
use Rattle.haul_core.specs.FieldSteps.{Cuts}
use Rattle.haul_core.specs.ReportLines.{claim_line, count_field, found_fields, head_fields, mark_fields}
use Rattle.haul_core.specs.LawfulClaims.{IsCount, IsFound, IsMark, SaidOfSoup}
use Rattle.haul_core.specs.declared.report.claim.read_start.LineStart.{LineStart}
use Rattle.haul_core.specs.declared.report.claim.read_start.WhenSettled.{WhenSettled}
use Rattle.haul_core.proofs.FaultyLines.{bad_at, follows_more}
use Rattle.haul_core.proofs.OrderLemmas.{AreOrdered, last_code-push, ordered-push, seam}
use Rattle.haul_core.proofs.SpaceLemmas.{code_lacks_star, cut_once}
use Rattle.haul_core.proofs.StateLemmas.{at_other, cut_head, same_version}

abbrev Counts : Type 0
Counts = List (List ℕ × ℕ)

pub counted_first : (line : List ℕ) (start : LineStart) (remainder : Option (List ℕ)) → HasReadStart line start remainder → HasCounts line start [] None remainder
counted_first line start remainder h = record { lawful = h.lawful; follows = h.follows; settled = h.settled; latest = refl }

-- ---- one more count

found_more : (version : ℕ) (settled : Option WhenSettled) (counts : Counts) (object : List ℕ × ℕ) → settled ≢ None → IsFound version (said_with settled counts)
    → MayFollow (last_code counts) object → IsFound version (said_with settled (counts ++ object ∷ []))
found_more version None counts object n h k = absurd (n refl)
found_more version (Some at_rest) counts object n h k =
    record {
      checkpoint = h.checkpoint;
      mark = h.mark;
      counts = All-push IsCount counts object h.counts k.0;
      in_order = ordered-push counts object h.in_order k.1;
    }

fields_more : (settled : Option WhenSettled) (counts : Counts) (object : List ℕ × ℕ) → settled ≢ None
    → found_fields (said_with settled (counts ++ object ∷ [])) ≡ found_fields (said_with settled counts) ++ count_field object ∷ []
unfolding found_fields
fields_more None counts object n = absurd (n refl)
fields_more (Some at_rest) counts object n =
    ap (λ (t : List (List ℕ)). (codes "at=" ++ decimal at_rest.checkpoint) ∷ (mark_fields at_rest.for_good ++ t)) (map-append count_field counts (object ∷ []))
    ∙ ap (λ (t : List (List ℕ)). (codes "at=" ++ decimal at_rest.checkpoint) ∷ t)
    (sym (append_assoc (mark_fields at_rest.for_good) (map count_field counts) (count_field object ∷ [])))

all_fields_more : (start : LineStart) (counts : Counts) (object : List ℕ × ℕ) → start.settled ≢ None
    → fields_of (claimed start (counts ++ object ∷ [])) ≡ fields_of (claimed start counts) ++ count_field object ∷ []
unfolding head_fields
all_fields_more start counts object n =
    ap (λ (t : List (List ℕ)). head_of (claimed start counts) ++ t) (fields_more start.settled counts object n)

pub counted_more : (line : List ℕ) (start : LineStart) (counts : Counts) (last : Option (List ℕ)) (here field : List ℕ) (more : Option (List ℕ))
    → (object : List ℕ × ℕ) → HasCounts line start counts last (Some here) → Cuts 32 here field more → MayFollow last object → field ≡ count_field object
    → HasCounts line start (counts ++ object ∷ []) (Some object.0) more
counted_more line start counts last here field more object h c k e =
    let n = h.settled here refl in
    let after : MayFollow (last_code counts) object = subst (λ (l : Option (List ℕ)). MayFollow l object) h.latest k in
    let own = h.lawful in
    record {
      lawful = record {
        version = own.version;
        rule = own.rule;
        profile = own.profile;
        seed = own.seed;
        worker = own.worker;
        number = own.number;
        found = found_more start.version start.settled counts object n own.found after;
      };
      follows = subst (λ (fields : List (List ℕ)). FollowsFields line fields more) (sym (all_fields_more start counts object n))
          (subst (λ (t : List ℕ). FollowsFields line (fields_of (claimed start counts) ++ t ∷ []) more) e
          (follows_more line (fields_of (claimed start counts)) here field more h.follows c));
      settled = λ there f. n;
      latest = sym (last_code-push counts object);
    }

-- ---- a field that isn't the field of a count that may follow

pub one_count : (a b : List ℕ × ℕ) → IsCount a → IsCount b → count_field a ≡ count_field b → a ≡ b
one_count a b h k e =
    let c = cut_once 42 a.0 b.0 (decimal a.1) (decimal b.1) (code_lacks_star a.0 h.code.bytes) (code_lacks_star b.0 k.code.bytes) e in
    let n = decimal_injective a.1 b.1 h.fits k.fits c.1 in
    λ i. (c.0 i, n i)

-- `all` begins with `counts` and one more count, whose field is `field`
record IsNext (counts all : Counts) (field : List ℕ) : Type 0 where
  object : List ℕ × ℕ
  more : Counts
  whole : all ≡ counts ++ object ∷ more
  spelled : field ≡ count_field object

next_count : (counts all : Counts) (field : List ℕ) (remainder : List (List ℕ)) → AllByRecursion IsCount counts → AllByRecursion IsCount all
    → map count_field all ≡ map count_field counts ++ field ∷ remainder → IsNext counts all field
next_count [] [] field remainder h k e = absurd (cc)
next_count [] (o ∷ all) field remainder h k e = record { object = o; more = all; whole = refl; spelled = sym (let f : count_field o ≡ field = cc in f) }
next_count (a ∷ counts) [] field remainder h k e = absurd (cc)
next_count (a ∷ counts) (o ∷ all) field remainder h k e =
    let same = one_count o a k.0 h.0 (let f : count_field o ≡ count_field a = cc in f) in
    let n = next_count counts all field remainder h.1 k.1 (let f : map count_field all ≡ map count_field counts ++ field ∷ remainder = cc in f) in
    record { object = n.object; more = n.more; whole = λ i. same i ∷ n.whole i; spelled = n.spelled }

pub same_marks : (version : ℕ) (a b : Option Bool) (x y z : List (List ℕ)) → IsMark version a → IsMark version b
    → mark_fields a ++ x ≡ (mark_fields b ++ y) ++ z → x ≡ y ++ z
unfolding mark_fields
same_marks version None None x y z h k e = e
same_marks version None (Some b) x y z h k e = absurd (omega arith)
same_marks version (Some a) None x y z h k e = absurd (omega arith)
same_marks version (Some a) (Some b) x y z h k e = cc

abbrev said_when : WhenSettled → Counts → SaidOfSoup
said_when at_rest counts = record { checkpoint = at_rest.checkpoint; for_good = at_rest.for_good; counts = counts }

each_count : (counts : Counts) (object : List ℕ × ℕ) (more : Counts) → AllByRecursion IsCount (counts ++ object ∷ more) → IsCount object
each_count [] object more h = h.0
each_count (a ∷ counts) object more h = each_count counts object more h.1

may_follow : (version : ℕ) (found : Option SaidOfSoup) (at_rest : WhenSettled) (counts : Counts) (field : List ℕ) (remainder : List (List ℕ)) → IsFound version found
    → IsFound version (Some (said_when at_rest counts)) → found_fields found ≡ found_fields (Some (said_when at_rest counts)) ++ field ∷ remainder
    → (object : List ℕ × ℕ) × (MayFollow (last_code counts) object × (field ≡ count_field object))
unfolding found_fields
may_follow version None at_rest counts field remainder h k e =
    absurd (at_other at_rest.checkpoint (sym (let f : codes "unsettled" ≡ codes "at=" ++ decimal at_rest.checkpoint = cc in f)))
may_follow version (Some told) at_rest counts field remainder h k e =
    let f : mark_fields told.for_good ++ map count_field told.counts ≡ (mark_fields at_rest.for_good ++ map count_field counts) ++ field ∷ remainder = cc in
    let g = same_marks version told.for_good at_rest.for_good (map count_field told.counts) (map count_field counts) (field ∷ remainder) h.mark k.mark f in
    let all = recursion_from_All IsCount told.counts h.counts in
    let n = next_count counts told.counts field remainder (recursion_from_All IsCount counts k.counts) all g in
    let lawful = each_count counts n.object n.more (subst (AllByRecursion IsCount) n.whole all) in
    (n.object, ((lawful, seam counts n.object n.more (subst AreOrdered n.whole h.in_order)), n.spelled))

state_follows : (version : ℕ) (found : Option SaidOfSoup) (settled : Option WhenSettled) (counts : Counts) (field : List ℕ) (remainder : List (List ℕ)) → settled ≢ None
    → IsFound version found → IsFound version (said_with settled counts) → found_fields found ≡ found_fields (said_with settled counts) ++ field ∷ remainder
    → (object : List ℕ × ℕ) × (MayFollow (last_code counts) object × (field ≡ count_field object))
state_follows version found None counts field remainder n h k e = absurd (n refl)
state_follows version found (Some at_rest) counts field remainder n h k e = may_follow version found at_rest counts field remainder h k e

pub counted_bad : (line : List ℕ) (start : LineStart) (counts : Counts) (last : Option (List ℕ)) (here field : List ℕ) (more : Option (List ℕ))
    → HasCounts line start counts last (Some here) → Cuts 32 here field more
    → ((object : List ℕ × ℕ) → MayFollow last object → field ≢ count_field object) → IsFirstFaultOf line (length line - length here)
counted_bad line start counts last here field more h c none =
    let own = claimed start counts in
    let begin : BeginClaim (fields_of own) = record { claim = own; lawful = h.lawful; more = []; spelled = sym (append-nil (fields_of own)) } in
    bad_at line (fields_of own) here field more h.follows c begin (λ claim lawful remainder e.
    let k = cut_head claim own (found_fields own.found ++ field ∷ remainder) (e ∙ append_assoc (head_of own) (found_fields own.found) (field ∷ remainder)) in
    let v = same_version claim own lawful h.lawful k.0 in
    let s = state_follows start.version claim.found start.settled counts field remainder (h.settled here refl)
    (subst (λ (n : ℕ). IsFound n claim.found) v lawful.found) h.lawful.found k.1 in
    none s.0 (subst (λ (l : Option (List ℕ)). MayFollow l s.0) (sym h.latest) s.1.0) s.1.1)

-- ---- the end of the line

pub counted_end : (line : List ℕ) (start : LineStart) (counts : Counts) (last : Option (List ℕ)) → HasCounts line start counts last None
    → claim_line (claimed start counts) ≡ line
unfolding claim_line
counted_end line start counts last h = sym h.follows

pub counted_claim : (line : List ℕ) (start : LineStart) (counts : Counts) (last : Option (List ℕ)) → HasCounts line start counts last None → IsClaimLine line
counted_claim line start counts last h = record { claim = claimed start counts; lawful = h.lawful; spelled = counted_end line start counts last h }
