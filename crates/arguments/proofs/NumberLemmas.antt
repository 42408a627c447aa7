-- Numbers in arguments: what `clap` accepts as a number, and what is read from it.
use Rattle.std.proofs.Common.{◌≡◌, ◌<◌, ◌==◌, ◌^◌, ◌&&◌, ℕ, Bool, true, false, cond, Option, None, Some, Result, Ok, Err, List, [], ◌∷◌, Decides, length}
use Rattle.std.proofs.Common.{nat_le, nat_lt, option_and_then, refl, ap, arith, drop, le-leb, leb-true, ltb-true, ne_eqb}
use Rattle.std.proofs.lemmas.Bool.{and_parts, false_from_ne_true}
use Rattle.std.proofs.lemmas.Bool.Decides.{Decides-and, Decides-ltb}
use Rattle.std.proofs.lemmas.Str.Parse.{digit_from_value}
use Rattle.std.specs.List.{list_all}
use Rattle.std.specs.Char.{digit_value}
use Rattle.std.specs.Str.Parse.{AllDigits, IsNumeral, ParsesUnsigned, digits_value, starts_with_minus, without_leading_plus}
use Rattle.clap.specs.Words.{Accepts, ReadsOne, Text}
use Rattle.clap.specs.ValueTests.{is_numeral}
use Rattle.clap.specs.declared.builder.value_parser.ValueParser.{ValueParser}
use Rattle.clap.specs.declared.builder.value_parser.ValueParser.TheVariants as parser
use Rattle.arguments.specs.declared.options.ValueKind.{ValueKind}
use Rattle.arguments.specs.declared.options.ValueKind.TheVariants as kind
use Rattle.arguments.specs.LawfulUses.{IsNoNumber, IsNotOfKind, IsNumberFromTo, IsOfKind}
use Rattle.arguments.specs.Values.{at_least, number_named, within}

digits-Decides : (ds : List ℕ) → Decides (list_all (λ d. nat_lt (digit_value d) 10) ds) (AllDigits 10 ds)
digits-Decides [] = (λ _. tt, λ _. refl)
digits-Decides (d ∷ ds) = Decides-and _ _ (Decides-ltb (digit_value d) 10) (digits-Decides ds)

numeral-Decides : (ds : List ℕ) → Decides (is_numeral ds) (IsNumeral 10 ds)
numeral-Decides ds = Decides-and _ _ (Decides-ltb 0 (length ds)) (digits-Decides ds)

-- a numeral begins neither with a minus nor with a plus sign
pub no_sign : (n : Text) → IsNumeral 10 n → (starts_with_minus n ≡ false) × (without_leading_plus n ≡ n)
no_sign [] h = absurd (omega arith)
no_sign (d ∷ ds) h =
    let minus : (d == 45) ≡ false = ne_eqb _ _ (λ e. omega (arith, digit_from_value d h.1.0)) in
    let plus : (d == 43) ≡ false = ne_eqb _ _ (λ e. omega (arith, digit_from_value d h.1.0)) in
    (minus, ap (λ b. drop (cond {A = ℕ} b 1 0) (d ∷ ds)) plus)

-- ---- what `clap` accepts as a number

abbrev pub parser_for : ValueKind → ValueParser
parser_for kind.Text = parser.String
parser_for kind.Flag = parser.Bool
parser_for (kind.Number least most) = parser.Unsigned least most
parser_for (kind.OptionalNumber least most) = parser.Unsigned least most

-- a test: if values of this kind are numbers, the highest of them is below 2^64
abbrev pub is_small : ValueKind → Bool
is_small (kind.Number least most) = nat_lt most (2 ^ 64)
is_small (kind.OptionalNumber least most) = nat_lt most (2 ^ 64)
is_small _ = true

number_accepted : (least most : ℕ) (v : Text) → nat_lt most (2 ^ 64) ≡ true → IsNumberFromTo least most v
    → Accepts false (parser.Unsigned least most) v
number_accepted least most v small h =
    let fits = ltb-true most (2 ^ 64) small in
    rw (no_sign v h.numeral).1 (h.numeral, omega arith, h.low, h.high)

pub kind_accepted : (k : ValueKind) (v : Text) → is_small k ≡ true → IsOfKind k v → Accepts false (parser_for k) v
kind_accepted kind.Text v small h = tt
kind_accepted kind.Flag v small h = rw h refl
kind_accepted (kind.Number least most) v small h = number_accepted least most v small h
kind_accepted (kind.OptionalNumber least most) v small h = number_accepted least most v small h

number_refused : (least most : ℕ) (v : Text) → IsNoNumber least most v → Accepts false (parser.Unsigned least most) v → ⊥
number_refused least most v h a =
    let is = rw h.1 at a in h.2 (record { numeral = is.0; low = is.2; high = is.3 })

pub kind_refused : (k : ValueKind) (v : Text) → IsNotOfKind k v → Accepts false (parser_for k) v → ⊥
kind_refused (kind.Number least most) v h a = number_refused least most v h a
kind_refused (kind.OptionalNumber least most) v h a = number_refused least most v h a
kind_refused _ v h a = h

-- ---- which number is read from a text

-- a text that is a number in the range is read as this number
text_read : (least most : ℕ) (n : Text) → IsNumberFromTo least most n → number_named most n ≡ Some (digits_value 10 n)
text_read least most n h = rw ((no_sign n h.numeral).1, (numeral-Decides n).1 h.numeral, le-leb _ _ h.high) refl

pub number_read : (least most : ℕ) (n : Text) → IsNumberFromTo least most n
    → option_and_then (at_least least) (number_named most n) ≡ Some (digits_value 10 n)
number_read least most n h = rw (text_read least most n h, le-leb _ _ h.low) refl

-- a text that isn't a numeral below 2^64 isn't a numeral up to `most`, if `most` is below 2^64
none_within : (most : ℕ) (ds : Text) → most < 2 ^ 64 → (IsNumeral 10 ds × (digits_value 10 ds < 2 ^ 64) → ⊥)
    → (is_numeral ds && nat_le (digits_value 10 ds) most) ≡ false
none_within most ds fits never = false_from_ne_true _ (λ e.
    let parts = and_parts _ _ e in
    let small = leb-true _ _ parts.1 in
    never ((numeral-Decides ds).0 parts.0, omega arith))

-- for any `most` below 2^64: once numbers above `most` are left out, the number that is found for an argument is the
-- number that the argument's text spells
pub found_within : {E : Type 0} (most : ℕ) → most < 2 ^ 64 → (G : Text → Result ℕ E → Type 0)
    → ((t : Text) (r : Result ℕ E) → G t r → ParsesUnsigned 64 10 t r) → (o : Option Text) (found : Option ℕ) → (o ≡ None → found ≡ None)
    → ((t : Text) → o ≡ Some t → ReadsOne G t found) → option_and_then (within most) found ≡ option_and_then (number_named most) o
found_within most fits G only None found none some = ap (option_and_then (within most)) (none refl)
found_within most fits G only (Some t) (Some n) none some =
    let h = only t (Ok n) (some t refl) in
    rw (h.1, (numeral-Decides (without_leading_plus t)).1 h.0.0) refl
found_within most fits G only (Some t) None none some =
    let h = some t refl in
    rw (none_within most (without_leading_plus t) fits (only t (Err h.0) h.1)) refl
