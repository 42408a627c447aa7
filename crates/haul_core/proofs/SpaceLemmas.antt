-- There is only one way to cut a text at the first occurrence of a byte, and no field of a lawful claim has a space.
use Rattle.std.proofs.Common.{◌≡◌, ◌≢◌, ◌∙◌, ◌+◌, ◌<◌, ◌≤◌, ◌^◌, ◌++◌, ◌==◌, ◌&&◌, ◌⊎◌, ◌∷◌, ℕ, Bool, true, false, List, [], ap, sym, refl, decimal, length, arith}
use Rattle.std.proofs.Common.{codes, inl, inr, Option, nat_le, None, Some, append_assoc, map, flat_map, rules, subst}
use Rattle.std.proofs.lemmas.Bool.{eqb-false, leb-true, ne_eqb, or_from, or_parts}
use Rattle.std.proofs.lemmas.List.Elements.{recursion_from_All}
use Rattle.std.proofs.lemmas.List.Folds.{list_any-append}
use Rattle.std.specs.Char.{is_ascii_digit}
use Rattle.std.specs.List.{AllByRecursion, list_all}
use Rattle.std.specs.Str.{all_ascii_digits}
use Rattle.code_core.specs.Apgcodes.{is_code_byte}
use Rattle.code_core.specs.Tokens.{is_character}
use Rattle.plane_core.specs.plane.Rules.{Numbers, digits, rule_text}
use Rattle.survey_core.specs.Profiles.{IsProfile, Settling}
use Rattle.survey_core.specs.Seeds.{is_visible}
use Rattle.haul_core.specs.Claims.{BeginClaim, IsBadField, IsClaimLine, IsFirstFaultOf, fields_of, followed}
use Rattle.haul_core.specs.FieldSteps.{Lacks, numbers_text}
use Rattle.haul_core.specs.HaulTexts.{line_of, spaced}
use Rattle.ranges.specs.RangeListSteps.{has_byte}
use Rattle.haul_core.specs.ReportLines.{claim_line, count_field, found_fields, head_fields, mark_field, mark_fields, profile_field}
use Rattle.haul_core.specs.LawfulClaims.{Claimed, IsClaim, IsCount, IsFound, SaidOfSoup}
use Rattle.ranges.proofs.DecimalLemmas.{IsDecimal-decimal}

-- ---- texts without a byte

lacks-append : (byte : ℕ) (x y : List ℕ) → Lacks byte x → Lacks byte y → Lacks byte (x ++ y)
lacks-append byte x y p q = list_any-append (λ b. b == byte) x y ∙ or_from _ _ p q

lacks-cons : (byte b : ℕ) (x : List ℕ) → b ≢ byte → Lacks byte x → Lacks byte (b ∷ x)
lacks-cons byte b x n p = or_from _ _ (ne_eqb b byte n) p

-- the text is empty or begins with the byte
abbrev pub Stops : ℕ → List ℕ → Type 0
Stops byte [] = Unit {0}
Stops byte (c ∷ remainder) = byte ≡ c

-- there is only one way to cut a text into a prefix without the byte and a remainder that is empty or begins with it
pub cut_ends : (byte : ℕ) (x y r s : List ℕ) → Lacks byte x → Lacks byte y → Stops byte r → Stops byte s → x ++ r ≡ y ++ s → (x ≡ y) × (r ≡ s)
cut_ends byte [] [] r s p q h k e = (refl, e)
cut_ends byte [] (b ∷ y) [] s p q h k e = absurd (cc)
cut_ends byte [] (b ∷ y) (c ∷ r) s p q h k e =
    let other = eqb-false b byte (or_parts _ _ q).0 in
    absurd (other (cc))
cut_ends byte (a ∷ x) [] r [] p q h k e = absurd (cc)
cut_ends byte (a ∷ x) [] r (c ∷ s) p q h k e =
    let other = eqb-false a byte (or_parts _ _ p).0 in
    absurd (other (cc))
cut_ends byte (a ∷ x) (b ∷ y) r s p q h k e =
    let same : a ≡ b = cc in
    let remainder : x ++ r ≡ y ++ s = cc in
    let more = cut_ends byte x y r s (or_parts _ _ p).1 (or_parts _ _ q).1 h k remainder in
    (λ i. same i ∷ more.0 i, more.1)

-- there is only one way to cut a text into a prefix without the byte, the byte, and a remainder
pub cut_once : (byte : ℕ) (x y r s : List ℕ) → Lacks byte x → Lacks byte y → x ++ byte ∷ r ≡ y ++ byte ∷ s → (x ≡ y) × (r ≡ s)
cut_once byte x y r s p q e =
    let c = cut_ends byte x y (byte ∷ r) (byte ∷ s) p q refl refl e in
    let remainder : r ≡ s = (let t = c.1 in cc) in
    (c.0, remainder)

digits_lack : (byte : ℕ) (ds : List ℕ) → is_ascii_digit byte ≡ false → all_ascii_digits ds ≡ true → Lacks byte ds
digits_lack byte [] other h = refl
digits_lack byte (d ∷ ds) other h =
    let digit : is_ascii_digit d ≡ true = search (rules) in
    lacks-cons byte d ds (λ e. let same = ap is_ascii_digit e in absurd (cc)) (digits_lack byte ds other (search (rules)))

-- a decimal has only digits
pub decimal_lacks : (byte n : ℕ) → is_ascii_digit byte ≡ false → n < 2 ^ 64 → Lacks byte (decimal n)
decimal_lacks byte n other fits = digits_lack byte (decimal n) other (IsDecimal-decimal n fits).digits

answers_lack : (byte n : ℕ) (answers : List Bool) → 48 + n + length answers ≤ byte → Lacks byte (digits n answers)
unfolding digits
answers_lack byte n [] h = refl
answers_lack byte n (true ∷ more) h =
    lacks-cons byte (48 + n) (digits (n + 1) more) (λ e. absurd (omega arith)) (answers_lack byte (n + 1) more (omega arith))
answers_lack byte n (false ∷ more) h = answers_lack byte (n + 1) more (omega arith)

answers_lack_space : (n : ℕ) (answers : List Bool) → Lacks 32 (digits n answers)
unfolding digits
answers_lack_space n [] = refl
answers_lack_space n (true ∷ more) = lacks-cons 32 (48 + n) (digits (n + 1) more) (λ e. absurd (omega arith)) (answers_lack_space (n + 1) more)
answers_lack_space n (false ∷ more) = answers_lack_space (n + 1) more

rule_lacks : (rule : Numbers) → Lacks 32 (rule_text rule)
unfolding rule_text
rule_lacks rule =
    lacks-cons 32 98 (digits 1 rule.births ++ 115 ∷ digits 0 rule.survivals) (λ e. absurd (omega arith))
    (lacks-append 32 (digits 1 rule.births) (115 ∷ digits 0 rule.survivals) (answers_lack_space 1 rule.births)
    (lacks-cons 32 115 (digits 0 rule.survivals) (λ e. absurd (omega arith)) (answers_lack_space 0 rule.survivals)))

and_both : (a b : Bool) → (a && b) ≡ true → (a ≡ true) × (b ≡ true)
and_both true b h = (refl, h)
and_both false b h = absurd (cc)

seed_lacks : (bytes : List ℕ) → list_all is_visible bytes ≡ true → Lacks 32 bytes
seed_lacks [] h = refl
seed_lacks (b ∷ bytes) h =
    let both = and_both (is_visible b) (list_all is_visible bytes) h in
    let least : 33 ≤ b = leb-true _ _ (and_both (nat_le 33 b) (nat_le b 126) both.0).0 in
    lacks-cons 32 b bytes (λ e. absurd (omega arith)) (seed_lacks bytes both.1)

code_lacks_byte : (byte : ℕ) (bytes : List ℕ) → is_code_byte byte ≡ false → list_all is_code_byte bytes ≡ true → Lacks byte bytes
code_lacks_byte byte [] other h = refl
code_lacks_byte byte (b ∷ bytes) other h =
    let both = and_both (is_code_byte b) (list_all is_code_byte bytes) h in
    lacks-cons byte b bytes (λ e. let same = ap is_code_byte e in let t = both.0 in absurd (cc)) (code_lacks_byte byte bytes other both.1)

pub code_lacks_star : (bytes : List ℕ) → list_all is_code_byte bytes ≡ true → Lacks 42 bytes
unfolding is_character
code_lacks_star bytes h = code_lacks_byte 42 bytes refl h

code_lacks_space : (bytes : List ℕ) → list_all is_code_byte bytes ≡ true → Lacks 32 bytes
unfolding is_character
code_lacks_space bytes h = code_lacks_byte 32 bytes refl h

-- ---- fields

then_number : (n : ℕ) (remainder : List ℕ) → n < 2 ^ 64 → Lacks 32 remainder → Lacks 32 (decimal n ++ 44 ∷ remainder)
then_number n remainder fits h =
    lacks-append 32 (decimal n) (44 ∷ remainder) (decimal_lacks 32 n refl fits) (lacks-cons 32 44 remainder (λ e. absurd (omega arith)) h)

profile_lacks : (p : Settling) → IsProfile p → Lacks 32 (profile_field p)
unfolding profile_field
profile_lacks p h =
    let a = h.period in
    let b = h.horizon in
    let c = h.stride in
    let d = h.limit in
    lacks-append 32 (codes "profile=") (numbers_text p) refl
    (then_number p.period (decimal p.horizon ++ 44 ∷ (decimal p.stride ++ 44 ∷ decimal p.limit)) (omega arith)
    (then_number p.horizon (decimal p.stride ++ 44 ∷ decimal p.limit) (omega arith)
    (then_number p.stride (decimal p.limit) (omega arith) (decimal_lacks 32 p.limit refl (omega arith)))))

abbrev pub AreSpaceless : List (List ℕ) → Type 0
AreSpaceless fields = AllByRecursion (Lacks 32) fields

spaceless-append : (fs gs : List (List ℕ)) → AreSpaceless fs → AreSpaceless gs → AreSpaceless (fs ++ gs)
spaceless-append [] gs h k = k
spaceless-append (f ∷ fs) gs h k = (h.0, spaceless-append fs gs h.1 k)

spaceless-prefix : (fs gs : List (List ℕ)) → AreSpaceless (fs ++ gs) → AreSpaceless fs
spaceless-prefix [] gs h = tt
spaceless-prefix (f ∷ fs) gs h = (h.0, spaceless-prefix fs gs h.1)

counts_lack : (counts : List (List ℕ × ℕ)) → AllByRecursion IsCount counts → AreSpaceless (map count_field counts)
counts_lack [] h = tt
counts_lack (o ∷ counts) h =
    let fits = h.0.fits in (
      lacks-append 32 o.0 (42 ∷ decimal o.1) (code_lacks_space o.0 h.0.code.bytes)
          (lacks-cons 32 42 (decimal o.1) (λ e. absurd (omega arith)) (decimal_lacks 32 o.1 refl (omega arith))),
      counts_lack counts h.1,
    )

mark_lacks : (for_good : Bool) → Lacks 32 (mark_field for_good)
unfolding mark_field
mark_lacks true = refl
mark_lacks false = refl

marks_lack : (for_good : Option Bool) → AreSpaceless (mark_fields for_good)
unfolding mark_fields
marks_lack None = tt
marks_lack (Some for_good) = (mark_lacks for_good, tt)

found_lack : (version : ℕ) (found : Option SaidOfSoup) → IsFound version found → AreSpaceless (found_fields found)
unfolding found_fields
found_lack version None h = (refl, tt)
found_lack version (Some told) h =
    let most = h.checkpoint in (
      lacks-append 32 (codes "at=") (decimal told.checkpoint) refl (decimal_lacks 32 told.checkpoint refl (omega arith)),
      spaceless-append (mark_fields told.for_good) (map count_field told.counts) (marks_lack told.for_good)
          (counts_lack told.counts (recursion_from_All IsCount told.counts h.counts)),
    )

-- the version of a claim is below 2^64
pub version_small : (claim : Claimed) → IsClaim claim → claim.version < 2 ^ 64
version_small claim h = go h.version
  where
    go : ((claim.version ≡ 1) ⊎ (claim.version ≡ 2)) → claim.version < 2 ^ 64
    go (inl e) = omega arith
    go (inr e) = omega arith

pub fields_lack : (claim : Claimed) → IsClaim claim → AreSpaceless (fields_of claim)
unfolding head_fields
fields_lack claim h =
    let worker = h.worker.most in
    let number = h.number in (
      refl,
      (
        decimal_lacks 32 claim.version refl (version_small claim h),
        (
          lacks-append 32 (codes "rule=") (rule_text claim.job.rule) refl (rule_lacks claim.job.rule),
          (
            profile_lacks claim.job.profile h.profile,
            (
              lacks-append 32 (codes "seed=") claim.job.seed refl (seed_lacks claim.job.seed h.seed.visible),
              (
                lacks-append 32 (codes "worker=") (decimal claim.worker) refl (decimal_lacks 32 claim.worker refl (omega arith)),
                (
                  lacks-append 32 (codes "soup=") (decimal claim.number) refl (decimal_lacks 32 claim.number refl (omega arith)),
                  found_lack claim.version claim.found h.found,
                ),
              ),
            ),
          ),
        ),
      ),
    )

-- ---- lines

-- fields with a space between each two
abbrev pub lined : List (List ℕ) → List ℕ
lined [] = []
lined (f ∷ fs) = f ++ flat_map spaced fs

spaced-stops : (fs : List (List ℕ)) → Stops 32 (flat_map spaced fs)
spaced-stops [] = tt
spaced-stops (f ∷ fs) = refl

tails : (fs gs : List (List ℕ)) → AreSpaceless fs → AreSpaceless gs → flat_map spaced fs ≡ flat_map spaced gs → fs ≡ gs
tails [] [] h k e = refl
tails [] (g ∷ gs) h k e = absurd (cc)
tails (f ∷ fs) [] h k e = absurd (cc)
tails (f ∷ fs) (g ∷ gs) h k e =
    let t : f ++ flat_map spaced fs ≡ g ++ flat_map spaced gs = cc in
    let c = cut_ends 32 f g (flat_map spaced fs) (flat_map spaced gs) h.0 k.0 (spaced-stops fs) (spaced-stops gs) t in
    let more = tails fs gs h.1 k.1 c.1 in
    λ i. c.0 i ∷ more i

-- a line has only one list of fields without spaces
pub one_cut : (f g : List ℕ) (fs gs : List (List ℕ)) → AreSpaceless (f ∷ fs) → AreSpaceless (g ∷ gs) → lined (f ∷ fs) ≡ lined (g ∷ gs) → f ∷ fs ≡ g ∷ gs
one_cut f g fs gs h k e =
    let c = cut_ends 32 f g (flat_map spaced fs) (flat_map spaced gs) h.0 k.0 (spaced-stops fs) (spaced-stops gs) e in
    let more = tails fs gs h.1 k.1 c.1 in
    λ i. c.0 i ∷ more i

pub followed-cons : (b : List ℕ) (before : List (List ℕ)) (x : List ℕ) → followed (b ∷ before) ++ x ≡ b ++ 32 ∷ (followed before ++ x)
followed-cons b before x =
    append_assoc (b ++ 32 ∷ []) (followed before) x ∙ append_assoc b (32 ∷ []) (followed before ++ x)

-- if a line begins with the fields `before` and then `field`, its list of fields does too
pub fields_begin : (before : List (List ℕ)) (g : List ℕ) (gs : List (List ℕ)) (field remainder : List ℕ) → AreSpaceless (g ∷ gs) → AreSpaceless before
    → Lacks 32 field
    → Stops 32 remainder → lined (g ∷ gs) ≡ followed before ++ (field ++ remainder) → (more : List (List ℕ)) × (g ∷ gs ≡ before ++ field ∷ more)
fields_begin [] g gs field remainder h k p q e =
    let c = cut_ends 32 g field (flat_map spaced gs) remainder h.0 p (spaced-stops gs) q e in
    (gs, λ i. c.0 i ∷ gs)
fields_begin (b ∷ before) g [] field remainder h k p q e =
    let c = cut_ends 32 g b [] (32 ∷ (followed before ++ (field ++ remainder))) h.0 k.0 tt refl
    (e ∙ followed-cons b before (field ++ remainder)) in
    absurd (let t = c.1 in cc)
fields_begin (b ∷ before) g (g' ∷ gs) field remainder h k p q e =
    let c = cut_ends 32 g b (flat_map spaced (g' ∷ gs)) (32 ∷ (followed before ++ (field ++ remainder))) h.0 k.0 refl refl
    (e ∙ followed-cons b before (field ++ remainder)) in
    let u : lined (g' ∷ gs) ≡ followed before ++ (field ++ remainder) = (let t = c.1 in cc) in
    let m = fields_begin before g' gs field remainder h.1 k.1 p q u in
    (m.0, λ i. c.0 i ∷ m.1 i)

pub claim_line-lined : (claim : Claimed) → claim_line claim ≡ lined (fields_of claim)
unfolding claim_line line_of
claim_line-lined claim = refl

pub line_of-lined : (f : List ℕ) (fs : List (List ℕ)) → line_of f fs ≡ lined (f ∷ fs)
unfolding line_of
line_of-lined f fs = refl

pub stops_after : (remainder : List ℕ) → (remainder ≡ []) ⊎ has_byte 32 remainder → Stops 32 remainder
stops_after [] h = tt
stops_after (b ∷ remainder) (inl e) = absurd (cc)
stops_after (b ∷ remainder) (inr e) = e

pub begin_spaceless : (before : List (List ℕ)) → BeginClaim before → AreSpaceless before
begin_spaceless before b = spaceless-prefix before b.more (subst AreSpaceless b.spelled (fields_lack b.claim b.lawful))

no_bad_field : (line : List ℕ) (place : ℕ) → IsBadField line place → ¬ IsClaimLine line
no_bad_field line place bad own =
    let f = fields_begin bad.before (codes "report") (head_fields own.claim ++ found_fields own.claim.found) bad.field bad.remainder
    (fields_lack own.claim own.lawful)
    (begin_spaceless bad.before bad.begins) bad.whole.0 (stops_after bad.remainder bad.whole.1) (sym (claim_line-lined own.claim) ∙ own.spelled ∙ bad.spelled) in
    bad.there (record {
      claim = own.claim;
      lawful = own.lawful;
      more = f.0;
      spelled = f.1 ∙ sym (append_assoc bad.before (bad.field ∷ []) f.0);
    })

-- a line with a fault is the line of no claim
pub no_claim : (line : List ℕ) (place : ℕ) → IsFirstFaultOf line place → ¬ IsClaimLine line
no_claim line place (inl bad) = no_bad_field line place bad
no_claim line place (inr short) = short.short
