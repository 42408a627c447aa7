-- Why a field spells the value that is read from it, and no other.
use Rattle.std.proofs.Common.{◌≡◌, ◌≢◌, ◌∙◌, ◌+◌, ◌<◌, ◌≤◌, ◌^◌, ◌++◌, ◌==◌, ◌-◌, ◌||◌, ◌&&◌, ◌∷◌, ℕ, zero, suc, Bool, true, false, not, List, [], ap, sym, refl, decimal, length, arith, append-nil}
use Rattle.std.proofs.Common.{IsTrue, codes, inl, inr, Option, Ok, Err, if◌then◌else◌, nat_le, cond, drop, take, nat_lt, position, None, Some}
use Rattle.std.proofs.lemmas.Bool.{eqb-true, leb-true, ltb-false, ltb-true}
use Rattle.std.proofs.lemmas.Fmt.{decimal_injective}
use Rattle.std.proofs.lemmas.List.{append_cancel_left, take_rest}
use Rattle.std.proofs.lemmas.Str.{IsAscii-append, IsUtf8-from_ascii}
use Rattle.std.proofs.lemmas.Str.Ascii.{IsAscii-cons, IsAscii-nil}
use Rattle.std.specs.List.{list_all, list_any, prefix_len}
use Rattle.std.specs.Str.{IsAscii, IsUtf8}
use Rattle.plane_core.specs.plane.Rules.{IsRule, Numbers, digits, rule_text}
use Rattle.survey_core.specs.Seeds.{IsSeed, is_invisible, is_visible, seed_read, seed_with_fault}
use Rattle.survey_core.specs.declared.seed.SeedFault.TheVariants.{TooLong}
use Rattle.haul_core.specs.FieldSteps.{IsSmall, IsState, IsVersion, Lacks, SpellsField, state_field}
use Rattle.haul_core.specs.ReportLines.{mark_field}
use Rattle.ranges.specs.RangeListSteps.{BeginsDecimal, BeginsNoDecimal, has_digit}
use Rattle.ranges.proofs.CutLemmas.{cut}
use Rattle.ranges.proofs.DecimalLemmas.{IsDecimal-decimal}
use Rattle.ranges.proofs.FaultLemmas.{first_digit, small_decimal, zero_first}

-- a text that ends after its first decimal is that decimal
pub whole_decimal : (text : List ℕ) (n : ℕ) (remainder : List ℕ) → BeginsDecimal text n remainder → (length remainder == 0) ≡ true → text ≡ decimal n
whole_decimal text n [] b h = b.spelled ∙ append-nil (decimal n)
whole_decimal text n (a ∷ remainder) b h = let e : length (a ∷ remainder) ≡ 0 = eqb-true _ _ h in absurd (omega arith)

-- a text that doesn't begin with a decimal below 2^64 isn't such a decimal
pub no_decimal : (text : List ℕ) (m : ℕ) → BeginsNoDecimal text → m < 2 ^ 64 → text ≢ decimal m
no_decimal text m none fits e =
    let some : has_digit text ≡ true =
    ap has_digit (e ∙ sym (append-nil (decimal m))) ∙ first_digit (decimal m) [] (IsDecimal-decimal m fits) in
    small_decimal m [] text fits refl (none some) (append-nil (decimal m) ∙ sym e)

-- a text that goes on after its first decimal isn't a decimal below 2^64
pub longer_decimal : (text : List ℕ) (n m : ℕ) (remainder : List ℕ) → BeginsDecimal text n remainder → (length remainder == 0) ≡ false → m < 2 ^ 64 → text ≢ decimal m
longer_decimal text n m remainder b h fits e =
    let c = cut (decimal n) (decimal m) remainder [] (IsDecimal-decimal n b.fits) (IsDecimal-decimal m fits) (λ d. zero_first n (b.ends d)) (λ d. absurd (cc))
    (sym b.spelled ∙ e ∙ sym (append-nil (decimal m))) in
    let none : (length remainder == 0) ≡ true = ap (λ (r : List ℕ). length r == 0) c.1 in
    absurd (cc)

-- two fields differ if they have the same name but different texts after the name
pub after_name : (field name remainder more : List ℕ) → field ≡ name ++ remainder → remainder ≢ more → field ≢ name ++ more
after_name field name remainder more e other f = other (append_cancel_left name remainder more (sym e ∙ f))

-- if the text after a name spells a value, the field spells the name and the value
pub tells_after : {A : Type 0} (MayBe : A → Type 0) (text : A → List ℕ) (name field remainder : List ℕ) (found : Option A) → field ≡ name ++ remainder
    → SpellsField MayBe text remainder found → SpellsField MayBe (λ a. name ++ text a) field found
tells_after MayBe text name field remainder None e none = λ a lawful. after_name field name remainder (text a) e (none a lawful)
tells_after MayBe text name field remainder (Some a) e told = (told.0, e ∙ ap (λ (t : List ℕ). name ++ t) told.1)

-- the number after a name is unique
pub one_number : (name field : List ℕ) (n m : ℕ) → n < 2 ^ 64 → m < 2 ^ 64 → field ≡ name ++ decimal n → field ≡ name ++ decimal m → n ≡ m
one_number name field n m a b e f = decimal_injective n m a b (append_cancel_left name (decimal n) (decimal m) (sym e ∙ f))

-- the length of a text's longest prefix without the byte
abbrev prefix_of : ℕ → List ℕ → ℕ
prefix_of byte text = prefix_len (λ b. not (b == byte)) text

abbrev IsCut : ℕ → List ℕ → ℕ → Type 0
IsCut byte text n = (text ≡ take n text ++ byte ∷ drop (suc n) text) × Lacks byte (take n text)

cut_first : (byte : ℕ) (text : List ℕ) (n : ℕ) → prefix_of byte text ≡ n → n < length text → IsCut byte text n
cut_first byte [] n e h = absurd (omega arith)
cut_first byte (x ∷ xs) n e h = go (x == byte) refl n e h (cut_first byte xs)
  where
    go : (t : Bool) → (x == byte) ≡ t → (n : ℕ) → cond (not t) (1 + prefix_of byte xs) 0 ≡ n → n < length (x ∷ xs)
        → ((m : ℕ) → prefix_of byte xs ≡ m → m < length xs → IsCut byte xs m) → IsCut byte (x ∷ xs) n
    go true e zero f h more = (ap (λ (b : ℕ). b ∷ xs) (eqb-true x byte e), refl)
    go true e (suc n) f h more = absurd (omega arith)
    go false e zero f h more = absurd (omega arith)
    go false e (suc n) f h more =
        let m = more n (omega arith) (omega arith) in
        (ap (λ (ys : List ℕ). x ∷ ys) m.0, ap (λ (t : Bool). t || list_any (λ b. b == byte) (take n xs)) e ∙ m.1)

cut_none : (byte : ℕ) (text : List ℕ) → length text ≤ prefix_of byte text → Lacks byte text
cut_none byte [] h = refl
cut_none byte (x ∷ xs) h = go (x == byte) refl h (cut_none byte xs)
  where
    go : (t : Bool) → (x == byte) ≡ t → length (x ∷ xs) ≤ cond (not t) (1 + prefix_of byte xs) 0
        → (length xs ≤ prefix_of byte xs → Lacks byte xs) → Lacks byte (x ∷ xs)
    go true e h more = absurd (omega arith)
    go false e h more = ap (λ (t : Bool). t || list_any (λ b. b == byte) xs) e ∙ more (omega arith)

-- if `position` finds the byte at `place`, the text consists of a prefix without the byte, the byte, and the rest
pub cut_found : (byte : ℕ) (text : List ℕ) (place : ℕ) → Some place ≡ position (λ b. b == byte) text
    → (text ≡ take place text ++ byte ∷ take (length text - (place + 1)) (drop (place + 1) text)) × Lacks byte (take place text)
cut_found byte text place e = go (nat_lt (prefix_of byte text) (length text)) refl e
  where
    go : (t : Bool) → nat_lt (prefix_of byte text) (length text) ≡ t → Some place ≡ cond t (Some (prefix_of byte text)) None
        → (text ≡ take place text ++ byte ∷ take (length text - (place + 1)) (drop (place + 1) text)) × Lacks byte (take place text)
    go false f e = absurd (cc)
    go true f e =
        let same : prefix_of byte text ≡ place = cc in
        let less : prefix_of byte text < length text = ltb-true _ _ f in
        let c = cut_first byte text place same (omega arith) in
        let next : suc place ≡ place + 1 = omega arith in
        let remainder : drop (suc place) text ≡ take (length text - (place + 1)) (drop (place + 1) text) =
        ap (λ (k : ℕ). drop k text) next ∙ sym (take_rest text (place + 1)) in
        (c.0 ∙ ap (λ (t : List ℕ). take place text ++ byte ∷ t) remainder, c.1)

-- if `position` doesn't find the byte, the text lacks it
pub cut_nowhere : (byte : ℕ) (text : List ℕ) → None ≡ position (λ b. b == byte) text → Lacks byte text
cut_nowhere byte text e = go (nat_lt (prefix_of byte text) (length text)) refl e
  where
    go : (t : Bool) → nat_lt (prefix_of byte text) (length text) ≡ t → None ≡ cond t (Some (prefix_of byte text)) None → Lacks byte text
    go true f e = absurd (cc)
    go false f e = cut_none byte text (ltb-false _ _ f)

-- ---- rules and seeds are ASCII

digits-ascii : (n : ℕ) (answers : List Bool) → n + length answers ≤ 10 → IsAscii (digits n answers)
unfolding digits
digits-ascii n [] h = IsAscii-nil
digits-ascii n (true ∷ more) h = IsAscii-cons (48 + n) (digits (n + 1) more) (omega arith) (digits-ascii (n + 1) more (omega arith))
digits-ascii n (false ∷ more) h = digits-ascii (n + 1) more (omega arith)

pub rule_is_text : (rule : Numbers) → IsRule rule → IsUtf8 (rule_text rule)
unfolding rule_text
rule_is_text rule h =
    let births = h.births in
    let survivals = h.survivals in
    IsUtf8-from_ascii (98 ∷ (digits 1 rule.births ++ 115 ∷ digits 0 rule.survivals))
    (IsAscii-cons 98 (digits 1 rule.births ++ 115 ∷ digits 0 rule.survivals) (omega arith)
    (IsAscii-append (digits 1 rule.births) (115 ∷ digits 0 rule.survivals) (digits-ascii 1 rule.births (omega arith))
    (IsAscii-cons 115 (digits 0 rule.survivals) (omega arith) (digits-ascii 0 rule.survivals (omega arith)))))

and_both : (a b : Bool) → (a && b) ≡ true → (a ≡ true) × (b ≡ true)
and_both true b h = (refl, h)
and_both false b h = absurd (cc)

visible-ascii : (bytes : List ℕ) → list_all is_visible bytes ≡ true → IsAscii bytes
visible-ascii [] h = IsAscii-nil
visible-ascii (b ∷ bytes) h =
    let both = and_both (is_visible b) (list_all is_visible bytes) h in
    let ends = and_both (nat_le 33 b) (nat_le b 126) both.0 in
    let most : b ≤ 126 = leb-true _ _ ends.1 in
    IsAscii-cons b bytes (omega arith) (visible-ascii bytes both.1)

pub seed_is_text : (bytes : List ℕ) → IsSeed bytes → IsUtf8 bytes
seed_is_text bytes h = IsUtf8-from_ascii bytes (visible-ascii bytes h.visible)

all_passed : (bytes : List ℕ) → list_all is_visible bytes ≡ true → length bytes ≤ prefix_len (λ b. not (is_invisible b)) bytes
all_passed [] h = omega arith
all_passed (b ∷ bytes) h =
    let both = and_both (is_visible b) (list_all is_visible bytes) h in
    go (is_visible b) both.0 (all_passed bytes both.1)
  where
    go : (t : Bool) → t ≡ true → length bytes ≤ prefix_len (λ b. not (is_invisible b)) bytes
        → length (b ∷ bytes) ≤ cond (not (not t)) (1 + prefix_len (λ b. not (is_invisible b)) bytes) 0
    go true e h = omega arith
    go false e h = absurd (cc)

-- a valid seed is read unchanged
pub seed_accepted : (bytes : List ℕ) → IsSeed bytes → seed_read bytes ≡ Ok bytes
seed_accepted bytes h = long (nat_lt 64 (length bytes)) refl (found (nat_lt (prefix_len (λ b. not (is_invisible b)) bytes) (length bytes)) refl)
  where
    long : (t : Bool) → nat_lt 64 (length bytes) ≡ t → seed_with_fault bytes (position is_invisible bytes) ≡ Ok bytes
        → (if t then Err TooLong else seed_with_fault bytes (position is_invisible bytes)) ≡ Ok bytes
    long true e more = let short = h.short in let over = ltb-true _ _ e in absurd (omega arith)
    long false e more = more

    found : (t : Bool) → nat_lt (prefix_len (λ b. not (is_invisible b)) bytes) (length bytes) ≡ t
        → seed_with_fault bytes (cond t (Some (prefix_len (λ b. not (is_invisible b)) bytes)) None) ≡ Ok bytes
    found true e = let whole = all_passed bytes h.visible in let less = ltb-true _ _ e in absurd (omega arith)
    found false e = refl

pub not_from_to : {least most n : ℕ} (known : Bool) → known ≡ false → (least ≤ n × n ≤ most → IsTrue known) → least ≤ n → n ≤ most → ⊥
not_from_to true e h l m = absurd (cc)
not_from_to false e h l m = let found : false ≡ true = h (l, m) in absurd (cc)

pub version_bounds : (v : ℕ) → IsVersion v → 1 ≤ v × v ≤ 2
version_bounds v (inl e) = (omega arith, omega arith)
version_bounds v (inr e) = (omega arith, omega arith)

-- a field that is neither `good=yes` nor `good=no` is the field of no mark
pub two_marks : (field : List ℕ) (for_good : Bool) → field ≢ codes "good=yes" → field ≢ codes "good=no" → field ≢ mark_field for_good
unfolding mark_field
two_marks field true y n e = y e
two_marks field false y n e = n e

-- a field that is neither `unsettled` nor `at=` with a checkpoint is the field of no state
pub no_state : (field : List ℕ) (state : Option ℕ) → field ≢ codes "unsettled" → ((n : ℕ) → IsSmall n → field ≢ codes "at=" ++ decimal n) → IsState state
    → field ≢ state_field state
no_state field None u n h e = u e
no_state field (Some checkpoint) u n h e = n checkpoint h e
