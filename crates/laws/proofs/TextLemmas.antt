-- Which texts have only visible bytes. Also, a line of numbers determines its numbers, and a text its lines.
use Rattle.std.proofs.Common.{◌≡◌, ◌∙◌, ap, sym, refl, ℕ, zero, suc, ◌+◌, ◌/◌, ◌%◌, ◌<◌, ◌≤◌, ◌==◌, Bool, true, false, cond, List, [], ◌∷◌, ◌++◌}
use Rattle.std.proofs.Common.{append_assoc, arith, decimal, length, map, nat_le}
use Rattle.std.specs.Fmt.{digit_glyph, digits as decimal_digits, digits_onto}
use Rattle.std.specs.List.{AllByRecursion, list_all}
use Rattle.std.specs.Str.Parse.{digits_value}
use Rattle.std.proofs.lemmas.Bool.{and_from, and_parts, false≢true, le-leb, leb-true, lt-ltb, ne_eqb, or_from}
use Rattle.std.proofs.lemmas.Bool.Decides.{nat_tests}
use Rattle.std.proofs.lemmas.Fmt.{decimal_is_IsNumeral_wide}
use Rattle.std.proofs.lemmas.List.Folds.{list_all-append}
use Rattle.plane_core.specs.plane.Rules.{IsRule, Numbers, digits, rule_text}
use Rattle.code_core.specs.Apgcodes.{is_code_byte, is_digit}
use Rattle.code_core.specs.Tokens.{is_character}
use Rattle.survey_core.specs.Seeds.{is_visible}
use Rattle.haul_core.specs.FieldSteps.{Lacks}
use Rattle.haul_core.specs.HaulTexts.{line_of_numbers, text_of}
use Rattle.haul_core.proofs.SpaceLemmas.{AreSpaceless, cut_once, line_of-lined, one_cut}
use Rattle.laws.specs.HaulTexts.{IsWrittenWhole}

-- ---- a test of all bytes

pub all-append : (p : ℕ → Bool) (xs ys : List ℕ) → list_all p xs ≡ true → list_all p ys ≡ true → list_all p (xs ++ ys) ≡ true
all-append p xs ys h k = list_all-append p xs ys ∙ and_from (list_all p xs) (list_all p ys) h k

pub all-weaker : (p q : ℕ → Bool) → ((b : ℕ) → p b ≡ true → q b ≡ true) → (xs : List ℕ) → list_all p xs ≡ true → list_all q xs ≡ true
all-weaker p q weaker [] h = refl
all-weaker p q weaker (x ∷ xs) h =
    let parts = and_parts (p x) (list_all p xs) h in
    and_from (q x) (list_all q xs) (weaker x parts.0) (all-weaker p q weaker xs parts.1)

-- a text whose bytes all pass a test lacks each byte that fails the test
pub all_lack : (p : ℕ → Bool) (byte : ℕ) → p byte ≡ false → (text : List ℕ) → list_all p text ≡ true → Lacks byte text
all_lack p byte other [] h = refl
all_lack p byte other (b ∷ bs) h =
    let parts = and_parts (p b) (list_all p bs) h in
    or_from _ _ (ne_eqb b byte (λ e. false≢true (sym other ∙ ap p (sym e) ∙ parts.0))) (all_lack p byte other bs parts.1)

-- ---- decimals

digit_is : (d : ℕ) → d < 10 → digit_glyph false d ≡ 48 + d
digit_is d low = ap (λ (b : Bool). cond b (48 + d) (87 + d)) (lt-ltb d 10 low)

module _ (p : ℕ → Bool) (each : (d : ℕ) → d < 10 → p (48 + d) ≡ true) where
  digits_all : (k n : ℕ) (others : List ℕ) → list_all p others ≡ true → list_all p (digits_onto k 10 false n others) ≡ true
  digits_all zero n others all = all
  digits_all (suc k) n others all =
      let low : n % 10 < 10 = omega arith in
      let more = and_from (p (digit_glyph false (n % 10))) (list_all p others) (ap p (digit_is (n % 10) low) ∙ each (n % 10) low) all in
      go (n / 10 == 0) more (digits_all k (n / 10) (digit_glyph false (n % 10) ∷ others) more)
    where
      go : (last : Bool) → list_all p (digit_glyph false (n % 10) ∷ others) ≡ true
          → list_all p (digits_onto k 10 false (n / 10) (digit_glyph false (n % 10) ∷ others)) ≡ true
          → list_all p (cond last (digit_glyph false (n % 10) ∷ others) (digits_onto k 10 false (n / 10) (digit_glyph false (n % 10) ∷ others))) ≡ true
      go true one more = one
      go false one more = more

  -- if each digit passes the test, each byte of a decimal does
  pub decimal_all : (n : ℕ) → list_all p (decimal n) ≡ true
  unfolding decimal_digits
  decimal_all n = digits_all 64 n [] refl

digit_digit : (d : ℕ) → d < 10 → is_digit (48 + d) ≡ true
digit_digit d low = and_from (nat_le 48 (48 + d)) (nat_le (48 + d) 57) (le-leb _ _ (omega arith)) (le-leb _ _ (omega arith))

pub decimal_lack : (byte n : ℕ) → is_digit byte ≡ false → Lacks byte (decimal n)
decimal_lack byte n other = all_lack is_digit byte other (decimal n) (decimal_all is_digit digit_digit n)

-- two numbers with at most 64 digits are equal if their decimals are equal
pub decimal_once : (m n : ℕ) → IsWrittenWhole m → IsWrittenWhole n → decimal m ≡ decimal n → m ≡ n
decimal_once m n low less same =
    sym (decimal_is_IsNumeral_wide m low).1 ∙ ap (digits_value 10) same ∙ (decimal_is_IsNumeral_wide n less).1

-- ---- visible bytes

abbrev pub AllVisible : List ℕ → Type 0
AllVisible text = list_all is_visible text ≡ true

visible : (b : ℕ) → 33 ≤ b → b ≤ 126 → is_visible b ≡ true
visible b low high = and_from (nat_le 33 b) (nat_le b 126) (le-leb 33 b low) (le-leb b 126 high)

pub decimal_visible : (n : ℕ) → AllVisible (decimal n)
decimal_visible n = decimal_all is_visible (λ d low. visible (48 + d) (omega arith) (omega arith)) n

answers_visible : (n : ℕ) (answers : List Bool) → n + length answers ≤ 10 → AllVisible (digits n answers)
unfolding digits
answers_visible n [] h = refl
answers_visible n (true ∷ more) h =
    and_from (is_visible (48 + n)) (list_all is_visible (digits (n + 1) more)) (visible (48 + n) (omega arith) (omega arith))
    (answers_visible (n + 1) more (omega arith))
answers_visible n (false ∷ more) h = answers_visible (n + 1) more (omega arith)

pub rule_visible : (rule : Numbers) → IsRule rule → AllVisible (rule_text rule)
unfolding rule_text
rule_visible rule h =
    let births = h.births in
    let survivals = h.survivals in
    all-append is_visible (digits 1 rule.births) (115 ∷ digits 0 rule.survivals) (answers_visible 1 rule.births (omega arith))
    (answers_visible 0 rule.survivals (omega arith))

code_byte : (b : ℕ) → is_code_byte b ≡ true → is_visible b ≡ true
unfolding is_character
code_byte b h = grind (arith, nat_tests)

pub code_visible : (code : List ℕ) → list_all is_code_byte code ≡ true → AllVisible code
code_visible code h = all-weaker is_code_byte is_visible code_byte code h

-- ---- printed lines, which may have spaces

abbrev pub is_printed : ℕ → Bool
is_printed b = nat_le 32 b

pub visible_printed : (text : List ℕ) → AllVisible text → list_all is_printed text ≡ true
visible_printed text h = all-weaker is_visible is_printed
    (λ b v. let low : 33 ≤ b = leb-true 33 b (and_parts (nat_le 33 b) (nat_le b 126) v).0 in le-leb 32 b (omega arith)) text h

pub printed_lack : (text : List ℕ) → list_all is_printed text ≡ true → Lacks 10 text
printed_lack text h = all_lack is_printed 10 refl text h

-- ---- lines of numbers

spaceless_numbers : (ns : List ℕ) → AreSpaceless (map decimal ns)
spaceless_numbers [] = tt
spaceless_numbers (n ∷ ns) = (decimal_lack 32 n refl, spaceless_numbers ns)

numbers_once : (ns ms : List ℕ) → AllByRecursion IsWrittenWhole ns → AllByRecursion IsWrittenWhole ms → map decimal ns ≡ map decimal ms → ns ≡ ms
numbers_once [] [] h k e = refl
numbers_once [] (m ∷ ms) h k e = absurd (cc)
numbers_once (n ∷ ns) [] h k e = absurd (cc)
numbers_once (n ∷ ns) (m ∷ ms) h k e =
    let first : n ≡ m = decimal_once n m h.0 k.0 (cc) in
    let more : ns ≡ ms = numbers_once ns ms h.1 k.1 (cc) in
    λ i. first i ∷ more i

-- a line of a name and numbers determines both
pub line_once : (name other : List ℕ) (ns ms : List ℕ) → Lacks 32 name → Lacks 32 other → AllByRecursion IsWrittenWhole ns → AllByRecursion IsWrittenWhole ms
    → line_of_numbers name ns ≡ line_of_numbers other ms → (name ≡ other) × (ns ≡ ms)
line_once name other ns ms one two h k e =
    let fields : name ∷ map decimal ns ≡ other ∷ map decimal ms =
    one_cut name other (map decimal ns) (map decimal ms) (one, spaceless_numbers ns) (two, spaceless_numbers ms)
    (sym (line_of-lined name (map decimal ns)) ∙ e ∙ line_of-lined other (map decimal ms)) in
    let first : name ≡ other = cc in
    (first, numbers_once ns ms h k (cc))

-- ---- lines of a text

-- a text determines its lines
pub text_once : (ls ms : List (List ℕ)) → AllByRecursion (Lacks 10) ls → AllByRecursion (Lacks 10) ms → text_of ls ≡ text_of ms → ls ≡ ms
unfolding text_of
text_once [] [] h k e = refl
text_once [] ([] ∷ ms) h k e = absurd (cc)
text_once [] ((b ∷ m) ∷ ms) h k e = absurd (cc)
text_once ([] ∷ ls) [] h k e = absurd (cc)
text_once ((b ∷ l) ∷ ls) [] h k e = absurd (cc)
text_once (l ∷ ls) (m ∷ ms) h k e =
    let cut = cut_once 10 l m (text_of ls) (text_of ms) h.0 k.0
    (sym (append_assoc l (10 ∷ []) (text_of ls)) ∙ e ∙ append_assoc m (10 ∷ []) (text_of ms)) in
    let more : ls ≡ ms = text_once ls ms h.1 k.1 cut.1 in
    λ i. cut.0 i ∷ more i

-- the first line, if there is one, fails the test
abbrev pub Ends : (List ℕ → Bool) → List (List ℕ) → Type 0
Ends test [] = Unit {0}
Ends test (l ∷ ls) = test l ≡ false

-- there is only one way to cut a list of lines before its first line that fails a test
pub lines_once : (test : List ℕ → Bool) (xs ys rs ss : List (List ℕ)) → list_all test xs ≡ true → list_all test ys ≡ true → Ends test rs → Ends test ss
    → xs ++ rs ≡ ys ++ ss → (xs ≡ ys) × (rs ≡ ss)
lines_once test [] [] rs ss p q h k e = (refl, e)
lines_once test [] (y ∷ ys) [] ss p q h k e = absurd (cc)
lines_once test [] (y ∷ ys) (r ∷ rs) ss p q h k e =
    let same : r ≡ y = cc in
    absurd (false≢true (sym h ∙ ap test same ∙ (and_parts (test y) (list_all test ys) q).0))
lines_once test (x ∷ xs) [] rs [] p q h k e = absurd (cc)
lines_once test (x ∷ xs) [] rs (s ∷ ss) p q h k e =
    let same : s ≡ x = cc in
    absurd (false≢true (sym k ∙ ap test same ∙ (and_parts (test x) (list_all test xs) p).0))
lines_once test (x ∷ xs) (y ∷ ys) rs ss p q h k e =
    let first : x ≡ y = cc in
    let remainder : xs ++ rs ≡ ys ++ ss = cc in
    let more = lines_once test xs ys rs ss (and_parts (test x) (list_all test xs) p).1 (and_parts (test y) (list_all test ys) q).1 h k remainder in
    (λ i. first i ∷ more.0 i, more.1)
