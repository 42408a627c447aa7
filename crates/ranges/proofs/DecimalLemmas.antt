-- Decimals, one digit at a time, and where a decimal ends in a text.
use Rattle.std.proofs.Common.{◌≡◌, ◌<◌, ◌≤◌, ◌+◌, ◌*◌, ◌/◌, ◌%◌, ◌^◌, ◌++◌, ℕ, zero, suc, true, false, List, [], ◌∷◌, length, decimal, refl, sym, ◌∙◌, ap}
use Rattle.std.proofs.Common.{subst, arith, rules, append_assoc}
use Rattle.std.specs.Prelude.{slice_index}
use Rattle.std.specs.Str.{all_ascii_digits}
use Rattle.std.specs.Str.Parse.{digits_value}
use Rattle.std.proofs.lemmas.Fmt.{decimal_digit, decimal_is_IsNumeral_wide, decimal_nonempty, decimal_step_wide, digits_decimal, first_decimal}
use Rattle.std.proofs.lemmas.Str.Parse.{IsNumeralModel, numerals_by_value, tells_all_ascii_digits}
use Rattle.ranges.specs.RangeListFaults.{BeginsLargeDecimal, IsDecimal}
use Rattle.ranges.specs.RangeListSteps.{BeginsDecimal, has_digit}

pub ascii : IsNumeralModel (λ ds. all_ascii_digits ds ≡ true) (digits_value 10)
ascii = numerals_by_value _ tells_all_ascii_digits

-- if n is at least 1, the decimal of 10 * n + d is the decimal of n followed by the digit d
pub decimal-push : (n d : ℕ) → 1 ≤ n → n < 2 ^ 64 → d ≤ 9 → decimal (10 * n + d) ≡ decimal n ++ (48 + d) ∷ []
decimal-push n d some fits digit =
    let quotient : (10 * n + d) / 10 ≡ n = omega arith in
    let remainder : (10 * n + d) % 10 ≡ d = omega arith in
    decimal_step_wide (10 * n + d) (omega arith) (omega arith)
    ∙ ap (λ (q : ℕ). decimal q ++ (48 + (10 * n + d) % 10) ∷ []) quotient
    ∙ ap (λ (m : ℕ). decimal n ++ (48 + m) ∷ []) remainder

slice_index-prefix : (xs ys : List ℕ) → 1 ≤ length xs → slice_index (xs ++ ys) 0 ≡ slice_index xs 0
slice_index-prefix [] ys some = absurd (omega arith)
slice_index-prefix (x ∷ xs) ys some = refl

all_ascii_digits-append : (xs ys : List ℕ) → all_ascii_digits xs ≡ true → all_ascii_digits ys ≡ true → all_ascii_digits (xs ++ ys) ≡ true
all_ascii_digits-append [] ys h k = k
all_ascii_digits-append (x ∷ xs) ys h k = search (rules, all_ascii_digits-append xs ys)

pub IsDecimal-decimal : (n : ℕ) → n < 2 ^ 64 → IsDecimal (decimal n)
IsDecimal-decimal n fits = record {
  digits = digits_decimal ascii n fits;
  some = decimal_nonempty n fits;
  plain = λ zero_first. go n fits zero_first;
}
  where
    go : (n : ℕ) → n < 2 ^ 64 → slice_index (decimal n) 0 ≡ 48 → length (decimal n) ≡ 1
    go zero fits h = ap length (decimal_digit 0 (omega arith))
    go (suc n) fits h = let f = first_decimal (suc n) (omega arith) fits in absurd (omega arith)

-- if the next digit makes a number too large, the text begins with a decimal of 2^64 or more
pub large : (n d : ℕ) (text remainder : List ℕ) → 1 ≤ n → n < 2 ^ 64 → d ≤ 9 → 2 ^ 64 ≤ 10 * n + d → text ≡ decimal n ++ (48 + d) ∷ remainder → BeginsLargeDecimal text
large n d text remainder some fits digit big e =
    let m : ℕ = 10 * n + d in
    let prefix : IsDecimal (decimal n) = IsDecimal-decimal n fits in
    let pushed : decimal m ≡ decimal n ++ (48 + d) ∷ [] = decimal-push n d some fits digit in
    let numeral = decimal_is_IsNumeral_wide m (omega arith) in
    let nonzero : 48 < slice_index (decimal n) 0 = first_decimal n some fits in
    record {
      number = decimal m;
      remainder = remainder;
      is_decimal = record {
        digits = ap all_ascii_digits pushed ∙ all_ascii_digits-append (decimal n) ((48 + d) ∷ []) prefix.digits (search (rules, arith));
        some = numeral.0.0;
        plain = λ h. let first : slice_index (decimal m) 0 ≡ slice_index (decimal n) 0 =
            ap (λ (xs : List ℕ). slice_index xs 0) pushed ∙ slice_index-prefix (decimal n) ((48 + d) ∷ []) prefix.some in absurd (omega arith);
      };
      large = subst (λ (v : ℕ). 2 ^ 64 ≤ v) (sym numeral.1) big;
      spelled = e ∙ sym (ap (λ (xs : List ℕ). xs ++ remainder) pushed ∙ append_assoc (decimal n) ((48 + d) ∷ []) remainder);
    }

-- the digit `first`, followed by `text`, is the decimal of `number`, followed by the remainder; `number` is at least 1
-- and below 2^64
pub record Reading (first : ℕ) (text : List ℕ) (number : ℕ) (remainder : List ℕ) : Type 0 where
  pub some : 1 ≤ number
  pub fits : number < 2 ^ 64
  pub spelled : (48 + first) ∷ text ≡ decimal number ++ remainder

pub reading_first : (first : ℕ) (text : List ℕ) → 1 ≤ first → first ≤ 9 → Reading first text first text
reading_first first text least most = record {
  some = least;
  fits = omega arith;
  spelled = ap (λ (xs : List ℕ). xs ++ text) (sym (decimal_digit first (omega arith)));
}

pub reading_more : (first : ℕ) (text : List ℕ) (n : ℕ) (remainder : List ℕ) (d next : ℕ) (more : List ℕ) → Reading first text n remainder → remainder ≡ (48 + d) ∷ more → d ≤ 9
    → next ≡ 10 * n + d → next < 2 ^ 64 → Reading first text next more
reading_more first text n remainder d next more r cut digit is fits = record {
  some = let s = r.some in omega arith;
  fits = fits;
  spelled = r.spelled ∙ ap (λ (xs : List ℕ). decimal n ++ xs) cut ∙ sym (append_assoc (decimal n) ((48 + d) ∷ []) more)
      ∙ ap (λ (xs : List ℕ). xs ++ more) (sym (decimal-push n d r.some r.fits digit) ∙ ap decimal (sym is));
}

pub reading_large : (first : ℕ) (text : List ℕ) (n : ℕ) (remainder : List ℕ) (d : ℕ) (more : List ℕ) → Reading first text n remainder → remainder ≡ (48 + d) ∷ more → d ≤ 9
    → 2 ^ 64 ≤ 10 * n + d → BeginsLargeDecimal ((48 + first) ∷ text)
reading_large first text n remainder d more r cut digit big =
    large n d ((48 + first) ∷ text) more r.some r.fits digit big (r.spelled ∙ ap (λ (xs : List ℕ). decimal n ++ xs) cut)

pub reading_done : (first : ℕ) (text : List ℕ) (n : ℕ) (remainder : List ℕ) → Reading first text n remainder → has_digit remainder ≡ false
    → BeginsDecimal ((48 + first) ∷ text) n remainder
reading_done first text n remainder r none = record { fits = r.fits; spelled = r.spelled; ends = λ h. absurd (cc) }

-- a `0` is a decimal by itself
pub begins_zero : (text remainder : List ℕ) (d : ℕ) → text ≡ (48 + d) ∷ remainder → d ≡ 0 → BeginsDecimal text d remainder
begins_zero text remainder d e z = record {
  fits = omega arith;
  spelled = e ∙ ap (λ (xs : List ℕ). xs ++ remainder) (sym (decimal_digit d (omega arith)));
  ends = λ h. z;
}
