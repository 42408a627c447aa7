-- Proves which kind and number are read from an apgcode, and that an apgcode has the shape `HasCodeShape`.
use Rattle.std.proofs.Common.{◌≡◌, ◌∙◌, ap, refl, ℕ, ◌+◌, ◌<◌, ◌≤◌, ◌^◌, Bool, true, List, [], ◌∷◌, ◌++◌, length, Option, None, Some, take_while}
use Rattle.std.proofs.Common.{decimal, arith}
use Rattle.std.specs.Prelude.{IfSome}
use Rattle.std.specs.List.{list_all}
use Rattle.std.proofs.lemmas.Fmt.{decimal_is_IsNumeral, length-decimal-le}
use Rattle.std.proofs.lemmas.List.{length-append}
use Rattle.std.proofs.lemmas.List.Folds.{list_all-append}
use Rattle.std.proofs.lemmas.List.Sums.{take_while-cons}
use Rattle.std.proofs.lemmas.Bool.{and_from, and_parts, le-leb}
use Rattle.std.specs.Str.Parse.{AllDigits, digits_value}
use Rattle.std.proofs.lemmas.Str.Parse.{digit_from_value}
use Rattle.code_core.specs.declared.apgcode.Kind.{Kind}
use Rattle.code_core.specs.declared.apgcode.Kind.TheVariants.{Still, Oscillator, Ship}
use Rattle.code_core.specs.Apgcodes.{HasCodeShape, code_text, ending, is_code_byte, is_digit, kind_in, letter, number_in, opening}
use Rattle.code_core.specs.Texts.{HasTextShape}
use Rattle.code_core.specs.Tokens.{is_character}

-- the kind that is read from an apgcode is the kind that it was made with
pub kind_of_name : (kind : Kind) (number : ℕ) (text : Option (List ℕ)) → kind_in (code_text kind number text) ≡ kind
unfolding kind_in code_text
kind_of_name Still number None = refl
kind_of_name Still number (Some t) = refl
kind_of_name Oscillator number None = refl
kind_of_name Oscillator number (Some t) = refl
kind_of_name Ship number None = refl
kind_of_name Ship number (Some t) = refl

-- if digits are followed by a remainder that doesn't begin with a digit, exactly these digits are read
digits_in_prefix : (ds remainder : List ℕ) → AllDigits 10 ds → take_while is_digit remainder ≡ [] → take_while is_digit (ds ++ remainder) ≡ ds
digits_in_prefix [] remainder all end = end
digits_in_prefix (d ∷ ds) remainder all end =
    let range = digit_from_value d all.0 in
    let is : is_digit d ≡ true = and_from _ _ (le-leb _ _ range.0) (le-leb _ _ range.1) in
    take_while-cons is_digit d (ds ++ remainder) ∙ rw is (ap (λ (more : List ℕ). d ∷ more) (digits_in_prefix ds remainder all.1 end))

-- so if a text begins with the decimal of a number below 2^64, and no digit follows, that number is read from it
number_in_prefix : (n : ℕ) (remainder : List ℕ) → n < 2 ^ 64 → take_while is_digit remainder ≡ [] → digits_value 10 (take_while is_digit (decimal n ++ remainder)) ≡ n
number_in_prefix n remainder low end =
    let numeral = decimal_is_IsNumeral n low in
    ap (digits_value 10) (digits_in_prefix (decimal n) remainder numeral.0.1 end) ∙ numeral.1

no_digits : (text : Option (List ℕ)) → take_while is_digit (ending text) ≡ []
no_digits None = refl
no_digits (Some t) = refl

after_letter : (kind : Kind) (number : ℕ) (text : Option (List ℕ))
    → number_in (code_text kind number text) ≡ digits_value 10 (take_while is_digit (decimal number ++ ending text))
unfolding number_in code_text
after_letter Still number None = refl
after_letter Still number (Some t) = refl
after_letter Oscillator number None = refl
after_letter Oscillator number (Some t) = refl
after_letter Ship number None = refl
after_letter Ship number (Some t) = refl

-- the number that is read from an apgcode is the number that it was made with, if this number is below 2^64
pub number_of_name : (kind : Kind) (number : ℕ) (text : Option (List ℕ)) → number < 2 ^ 64 → number_in (code_text kind number text) ≡ number
number_of_name kind number text low = after_letter kind number text ∙ number_in_prefix number (ending text) low (no_digits text)

-- ---- the shape of an apgcode

-- if all bytes of two texts pass a test, all bytes of the joined text pass the test
all_on : (p : ℕ → Bool) (xs ys : List ℕ) → list_all p xs ≡ true → list_all p ys ≡ true → list_all p (xs ++ ys) ≡ true
all_on p xs ys h k = list_all-append p xs ys ∙ and_from _ _ h k

-- digits and the characters of a text are bytes that an apgcode may have
digit_byte : (b : ℕ) → 48 ≤ b → b ≤ 57 → is_code_byte b ≡ true
unfolding is_character
digit_byte b low high = rw (le-leb 48 b low, le-leb b 57 high) refl

digit_bytes : (ds : List ℕ) → AllDigits 10 ds → list_all is_code_byte ds ≡ true
digit_bytes [] all = refl
digit_bytes (d ∷ ds) all = let range = digit_from_value d all.0 in and_from _ _ (digit_byte d range.0 range.1) (digit_bytes ds all.1)

character_bytes : (t : List ℕ) → list_all is_character t ≡ true → list_all is_code_byte t ≡ true
character_bytes [] all = refl
character_bytes (b ∷ bs) all =
    let parts = and_parts (is_character b) (list_all is_character bs) all in
    and_from _ _ (rw parts.0 refl) (character_bytes bs parts.1)

-- the ending (`_` and the text) has at most 328 bytes, the opening 1 to 3, and the letter 1; each of these bytes may
-- be in an apgcode
ending_bytes : (text : Option (List ℕ)) → IfSome text HasTextShape → list_all is_code_byte (ending text) ≡ true
unfolding is_character
ending_bytes None shape = refl
ending_bytes (Some t) shape = character_bytes t shape.characters

ending_length : (text : Option (List ℕ)) → IfSome text HasTextShape → length (ending text) ≤ 328
ending_length None shape = omega arith
ending_length (Some t) shape = omega (arith, shape.short)

opening_bytes : (text : Option (List ℕ)) → list_all is_code_byte (opening text) ≡ true
unfolding is_character
opening_bytes None = refl
opening_bytes (Some t) = refl

opening_length : (text : Option (List ℕ)) → (1 ≤ length (opening text)) × (length (opening text) ≤ 3)
opening_length None = (omega arith, omega arith)
opening_length (Some t) = (omega arith, omega arith)

letter_bytes : (kind : Kind) → list_all is_code_byte (letter kind) ≡ true
unfolding is_character
letter_bytes Still = refl
letter_bytes Oscillator = refl
letter_bytes Ship = refl

letter_length : (kind : Kind) → length (letter kind) ≡ 1
letter_length Still = refl
letter_length Oscillator = refl
letter_length Ship = refl

-- if the number is below 2^64, and the text has the shape `HasTextShape`, the apgcode has the shape `HasCodeShape`
pub shape_of_name : (kind : Kind) (number : ℕ) (text : Option (List ℕ)) → number < 2 ^ 64 → IfSome text HasTextShape → HasCodeShape (code_text kind number text)
unfolding code_text
shape_of_name kind number text low shape =
    let digits = decimal number in
    let few : length digits ≤ 20 = length-decimal-le 20 number (omega arith) (omega arith) low in
    let whole : length (opening text ++ (letter kind ++ (digits ++ ending text))) ≡ length (opening text) +
    (length (letter kind) + (length digits + length (ending text))) =
    simp length-append in
    let first = opening_length text in
    record {
      some = omega (arith, whole, first.0);
      short = omega (arith, whole, few, first.1, letter_length kind, ending_length text shape);
      bytes = all_on is_code_byte (opening text) (letter kind ++ (digits ++ ending text)) (opening_bytes text)
          (all_on is_code_byte (letter kind) (digits ++ ending text) (letter_bytes kind)
          (all_on is_code_byte digits (ending text) (digit_bytes digits (decimal_is_IsNumeral number low).0.1) (ending_bytes text shape)));
    }

-- the kind and the number of an apgcode can be read from it, and it has the shape `HasCodeShape`
pub says_name : (kind : Kind) (number : ℕ) (text : Option (List ℕ)) (code : List ℕ) → number < 2 ^ 64 → IfSome text HasTextShape
    → code ≡ code_text kind number text → (kind_in code ≡ kind) × (number_in code ≡ number) × HasCodeShape code
says_name kind number text code low shape is =
    rw is (kind_of_name kind number text, number_of_name kind number text low, shape_of_name kind number text low shape)
