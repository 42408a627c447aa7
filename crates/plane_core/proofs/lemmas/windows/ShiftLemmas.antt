-- The bits of shifted words.
use Rattle.std.proofs.Common.{◌≡◌, ◌+◌, ◌-◌, ◌*◌, ◌/◌, ◌%◌, ◌^◌, ◌<◌, ◌≤◌, ℕ}
use Rattle.std.proofs.Common.{Fits, w64, arith, ap, ◌∙◌, sym, bit_or, inl, inr, ◌⊎◌}
use Rattle.std.specs.Int.{bit_at}
use Rattle.std.proofs.Math.Nat.{div-div-eq-div-mul}
use Rattle.std.proofs.lemmas.Bool.{cases_lt}
use Rattle.std.proofs.lemmas.Nat.{pow-add, pow_pos}
use Rattle.std.proofs.lemmas.Nat.Bits.{bit_at_or, bit_at-zero, bit_at_above, bit_at_cat_low, bit_at_cat_high}

-- ---- one word

bit_right : (w s i : ℕ) → bit_at (w / 2 ^ s) i ≡ bit_at w (i + s)
bit_right w s i =
    let turned : s + i ≡ i + s = omega arith in
    let sum : 2 ^ s * 2 ^ i ≡ 2 ^ (i + s) = sym (pow-add 2 s i) ∙ ap (λ (n : ℕ). 2 ^ n) turned in
    ap (λ (n : ℕ). n % 2) (div-div-eq-div-mul w (2 ^ s) (2 ^ i) ∙ ap (λ (n : ℕ). w / n) sum)

-- taking a number modulo 2 ^ 64 leaves its 64 low bits unchanged
bit_kept : (n i : ℕ) → i < 64 → bit_at (n % 2 ^ 64) i ≡ bit_at n i
bit_kept n i low =
    let whole : n / 2 ^ 64 * 2 ^ 64 + n % 2 ^ 64 ≡ n = omega arith in
    sym (bit_at_cat_low (n / 2 ^ 64) 64 (n % 2 ^ 64) i low) ∙ ap (λ (m : ℕ). bit_at m i) whole

pub bit_left_low : (w s i : ℕ) → i < s → i < 64 → bit_at (w * 2 ^ s % 2 ^ 64) i ≡ 0
bit_left_low w s i less low =
    let more : w * 2 ^ s ≡ w * 2 ^ s + 0 = omega arith in
    bit_kept (w * 2 ^ s) i low ∙ ap (λ (n : ℕ). bit_at n i) more ∙ bit_at_cat_low w s 0 i less ∙ bit_at-zero i

pub bit_left_high : (w s i : ℕ) → s ≤ i → i < 64 → bit_at (w * 2 ^ s % 2 ^ 64) i ≡ bit_at w (i - s)
bit_left_high w s i least low =
    let more : w * 2 ^ s ≡ w * 2 ^ s + 0 = omega arith in
    bit_kept (w * 2 ^ s) i low ∙ ap (λ (n : ℕ). bit_at n i) more ∙ bit_at_cat_high w s 0 i (pow_pos s) least

-- a right shift by 64 - s, in two steps since s can be 0, moves bit i + 64 - s to bit i
pub bit_second : (w s i : ℕ) → s < 64 → bit_at (w / 2 / 2 ^ (63 - s)) i ≡ bit_at w (i + 64 - s)
bit_second w s i low =
    let at : i + (63 - s) + 1 ≡ i + 64 - s = omega arith in
    bit_right (w / 2) (63 - s) i ∙ bit_right w 1 (i + (63 - s)) ∙ ap (bit_at w) at

-- a left shift by 64 - s, in two steps since s can be 0, makes the low 64 - s bits 0
bit_end_low : (w s i : ℕ) → s < 64 → i + s < 64 → bit_at (w * 2 % 2 ^ 64 * 2 ^ (63 - s) % 2 ^ 64) i ≡ 0
bit_end_low w s i small low = split (cases_lt i (63 - s))
  where
    split : (i < 63 - s) ⊎ (63 - s ≤ i) → bit_at (w * 2 % 2 ^ 64 * 2 ^ (63 - s) % 2 ^ 64) i ≡ 0
    split (inl less) = bit_left_low (w * 2 % 2 ^ 64) (63 - s) i less (omega arith)
    split (inr last) =
        let none : i - (63 - s) ≡ 0 = omega arith in
        bit_left_high (w * 2 % 2 ^ 64) (63 - s) i last (omega arith)
        ∙ ap (bit_at (w * 2 % 2 ^ 64)) none
        ∙ bit_left_low w 1 0 (omega arith) (omega arith)

bit_end_high : (w s i : ℕ) → s < 64 → i < 64 → 64 ≤ i + s → bit_at (w * 2 % 2 ^ 64 * 2 ^ (63 - s) % 2 ^ 64) i ≡ bit_at w (i + s - 64)
bit_end_high w s i small low high =
    let at : i - (63 - s) - 1 ≡ i + s - 64 = omega arith in
    bit_left_high (w * 2 % 2 ^ 64) (63 - s) i (omega arith) low
    ∙ bit_left_high w 1 (i - (63 - s)) (omega arith) (omega arith)
    ∙ ap (bit_at w) at

-- ---- joining two words

no_second : (a b i : ℕ) → bit_at b i ≡ 0 → bit_at (bit_or a b) i ≡ bit_at a i
no_second a b i none = omega (arith, bit_at_or a b i, none)

no_first : (a b i : ℕ) → bit_at a i ≡ 0 → bit_at (bit_or a b) i ≡ bit_at b i
no_first a b i none = omega (arith, bit_at_or a b i, none)

-- with two words side by side, the 64 bits that begin at column s are the bits of `first` from s on, then the low s
-- bits of `second`
pub joined_left : (first second s i : ℕ) → s < 64 → i + s < 64
    → bit_at (bit_or (first / 2 ^ s) (second * 2 % 2 ^ 64 * 2 ^ (63 - s) % 2 ^ 64)) i ≡ bit_at first (i + s)
joined_left first second s i small inside =
    no_second (first / 2 ^ s) (second * 2 % 2 ^ 64 * 2 ^ (63 - s) % 2 ^ 64) i (bit_end_low second s i small inside) ∙ bit_right first s i

pub joined_right : (first second s i : ℕ) → Fits w64 first → s < 64 → i < 64 → 64 ≤ i + s
    → bit_at (bit_or (first / 2 ^ s) (second * 2 % 2 ^ 64 * 2 ^ (63 - s) % 2 ^ 64)) i ≡ bit_at second (i + s - 64)
joined_right first second s i fit small inside past =
    let none : bit_at (first / 2 ^ s) i ≡ 0 = bit_right first s i ∙ bit_at_above first 64 (i + s) fit.fits past in
    no_first (first / 2 ^ s) (second * 2 % 2 ^ 64 * 2 ^ (63 - s) % 2 ^ 64) i none ∙ bit_end_high second s i small inside past
