-- A line is the line of at most one claim.
use Rattle.std.proofs.Common.{◌≡◌, ◌∙◌, ◌++◌, ◌∷◌, ℕ, Bool, List, Option, [], Some, None, Ok, ap, sym, refl, arith, codes, decimal, get_or, map, subst, true, false, ◌==◌}
use Rattle.std.proofs.lemmas.Fmt.{decimal_injective}
use Rattle.std.proofs.lemmas.List.{append_cancel_left}
use Rattle.std.proofs.lemmas.List.Elements.{recursion_from_All}
use Rattle.std.specs.List.{AllByRecursion}
use Rattle.plane_core.proofs.lemmas.plane.RuleReading.{rule_read-rule_text}
use Rattle.plane_core.specs.plane.Rules.{IsRule, Numbers, rule_read, rule_text}
use Rattle.survey_core.specs.Profiles.{IsProfile, Settling}
use Rattle.haul_core.specs.Claims.{fields_of}
use Rattle.haul_core.specs.FieldSteps.{numbers_text}
use Rattle.haul_core.specs.ReportLines.{claim_line, count_field, found_fields, head_fields, mark_field, mark_fields, profile_field}
use Rattle.haul_core.specs.LawfulClaims.{Claimed, IsClaim, IsCount, IsFound, IsMark, SaidOfSoup}
use Rattle.haul_core.proofs.CountLemmas.{are_small, same_first}
use Rattle.haul_core.proofs.CountedLemmas.{one_count}
use Rattle.haul_core.proofs.SpaceLemmas.{claim_line-lined, fields_lack, one_cut}
use Rattle.haul_core.proofs.StateLemmas.{at_other, same_version}

pub one_rule : (r s : Numbers) → IsRule r → IsRule s → rule_text r ≡ rule_text s → r ≡ s
one_rule r s h k e = let told : Ok r ≡ Ok s = sym (rule_read-rule_text r h) ∙ ap rule_read e ∙ rule_read-rule_text s k in cc

one_profile : (p q : Settling) → IsProfile p → IsProfile q → profile_field p ≡ profile_field q → p ≡ q
unfolding profile_field
one_profile p q h k e =
    let a = are_small p h in
    let b = are_small q k in
    let t : numbers_text p ≡ numbers_text q = append_cancel_left (codes "profile=") (numbers_text p) (numbers_text q) e in
    let first = same_first (numbers_text p) (decimal p.horizon ++ 44 ∷ (decimal p.stride ++ 44 ∷ decimal p.limit))
    (decimal q.horizon ++ 44 ∷ (decimal q.stride ++ 44 ∷ decimal q.limit)) p.period q.period a.period b.period refl t in
    let second = same_first (decimal p.horizon ++ 44 ∷ (decimal p.stride ++ 44 ∷ decimal p.limit)) (decimal p.stride ++ 44 ∷ decimal p.limit)
    (decimal q.stride ++ 44 ∷ decimal q.limit) p.horizon q.horizon a.horizon b.horizon refl first.1 in
    let third = same_first (decimal p.stride ++ 44 ∷ decimal p.limit) (decimal p.limit) (decimal q.limit) p.stride q.stride a.stride b.stride refl second.1 in
    let last = decimal_injective p.limit q.limit (let m = a.limit in omega arith) (let m = b.limit in omega arith) third.1 in
    λ i. record { period = first.0 i; horizon = second.0 i; stride = third.0 i; limit = last i }

one_list : (xs ys : List (List ℕ × ℕ)) → AllByRecursion IsCount xs → AllByRecursion IsCount ys → map count_field xs ≡ map count_field ys → xs ≡ ys
one_list [] [] h k e = refl
one_list [] (y ∷ ys) h k e = absurd (cc)
one_list (x ∷ xs) [] h k e = absurd (cc)
one_list (x ∷ xs) (y ∷ ys) h k e =
    let same = one_count x y h.0 k.0 (let f : count_field x ≡ count_field y = cc in f) in
    let more = one_list xs ys h.1 k.1 (let f : map count_field xs ≡ map count_field ys = cc in f) in
    λ i. same i ∷ more i

one_mark : (a b : Bool) → mark_field a ≡ mark_field b → a ≡ b
unfolding mark_field
one_mark true true e = refl
one_mark false false e = refl
one_mark true false e = let h : false ≡ true = ap (λ (t : List ℕ). get_or t 5 0 == 110) e in absurd (cc)
one_mark false true e = let h : true ≡ false = ap (λ (t : List ℕ). get_or t 5 0 == 110) e in absurd (cc)

one_marks : (version : ℕ) (a b : Option Bool) (x y : List (List ℕ)) → IsMark version a → IsMark version b → mark_fields a ++ x ≡ mark_fields b ++ y
    → (a ≡ b) × (x ≡ y)
unfolding mark_fields
one_marks version None None x y h k e = (refl, e)
one_marks version None (Some b) x y h k e = absurd (omega arith)
one_marks version (Some a) None x y h k e = absurd (omega arith)
one_marks version (Some a) (Some b) x y h k e =
    let same = one_mark a b (let f : mark_field a ≡ mark_field b = cc in f) in
    (ap (λ (m : Bool). Some m) same, cc)

one_found : (version : ℕ) (a b : Option SaidOfSoup) → IsFound version a → IsFound version b → found_fields a ≡ found_fields b → a ≡ b
unfolding found_fields
one_found version None None h k e = refl
one_found version None (Some t) h k e = absurd (at_other t.checkpoint (sym (let f : codes "unsettled" ≡ codes "at=" ++ decimal t.checkpoint = cc in f)))
one_found version (Some s) None h k e = absurd (at_other s.checkpoint (let f : codes "at=" ++ decimal s.checkpoint ≡ codes "unsettled" = cc in f))
one_found version (Some s) (Some t) h k e =
    let at : codes "at=" ++ decimal s.checkpoint ≡ codes "at=" ++ decimal t.checkpoint = cc in
    let checkpoint = decimal_injective s.checkpoint t.checkpoint (let m = h.checkpoint in omega arith) (let m = k.checkpoint in omega arith)
    (append_cancel_left (codes "at=") (decimal s.checkpoint) (decimal t.checkpoint) at) in
    let remainder : mark_fields s.for_good ++ map count_field s.counts ≡ mark_fields t.for_good ++ map count_field t.counts = cc in
    let marks = one_marks version s.for_good t.for_good (map count_field s.counts) (map count_field t.counts) h.mark k.mark remainder in
    let counts = one_list s.counts t.counts (recursion_from_All IsCount s.counts h.counts) (recursion_from_All IsCount t.counts k.counts) marks.1 in
    λ i. Some (record { checkpoint = checkpoint i; for_good = marks.0 i; counts = counts i })

-- two claims with the same fields are equal
one_of_fields : (c d : Claimed) → IsClaim c → IsClaim d → fields_of c ≡ fields_of d → c ≡ d
unfolding head_fields
one_of_fields c d h k e =
    let version = same_version c d h k (let f : decimal c.version ≡ decimal d.version = cc in f) in
    let rule = one_rule c.job.rule d.job.rule h.rule k.rule (append_cancel_left (codes "rule=") (rule_text c.job.rule) (rule_text d.job.rule)
    (let f : codes "rule=" ++ rule_text c.job.rule ≡ codes "rule=" ++ rule_text d.job.rule = cc in f)) in
    let profile = one_profile c.job.profile d.job.profile h.profile k.profile (let f : profile_field c.job.profile ≡ profile_field d.job.profile = cc in f) in
    let seed : c.job.seed ≡ d.job.seed = append_cancel_left (codes "seed=") c.job.seed d.job.seed
    (let f : codes "seed=" ++ c.job.seed ≡ codes "seed=" ++ d.job.seed = cc in f) in
    let worker = decimal_injective c.worker d.worker (let m = h.worker.most in omega arith) (let m = k.worker.most in omega arith)
    (append_cancel_left (codes "worker=") (decimal c.worker) (decimal d.worker)
    (let f : codes "worker=" ++ decimal c.worker ≡ codes "worker=" ++ decimal d.worker = cc in f)) in
    let number = decimal_injective c.number d.number (let m = h.number in omega arith) (let m = k.number in omega arith)
    (append_cancel_left (codes "soup=") (decimal c.number) (decimal d.number)
    (let f : codes "soup=" ++ decimal c.number ≡ codes "soup=" ++ decimal d.number = cc in f)) in
    let found = one_found d.version c.found d.found (subst (λ (n : ℕ). IsFound n c.found) version h.found) k.found
    (let f : found_fields c.found ≡ found_fields d.found = cc in f) in
    λ i. record {
      version = version i;
      job = record { seed = seed i; profile = profile i; rule = rule i };
      worker = worker i;
      number = number i;
      found = found i;
    }

pub one_claim : (c d : Claimed) → IsClaim c → IsClaim d → claim_line c ≡ claim_line d → c ≡ d
one_claim c d h k e =
    one_of_fields c d h k (one_cut (codes "report") (codes "report") (head_fields c ++ found_fields c.found) (head_fields d ++ found_fields d.found)
    (fields_lack c h) (fields_lack d k) (sym (claim_line-lined c) ∙ e ∙ claim_line-lined d))
