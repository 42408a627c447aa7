-- Bits of words that were shifted by one place, and sums in binary digits.
use Rattle.std.proofs.Common.{◌≡◌, ◌==◌, ◌+◌, ◌-◌, ◌*◌, ◌/◌, ◌%◌, ◌^◌, ◌<◌, ◌≤◌, ℕ, zero, suc, Bool}
use Rattle.std.proofs.Common.{true, false, cond, arith, refl, ap, ◌∙◌, sym, add-one, bit_and, bit_or, bit_xor, min, max}
use Rattle.std.specs.Int.{bit_at}
use Rattle.std.proofs.lemmas.Bool.{eqb-true, eqb-false}
use Rattle.std.proofs.lemmas.Bool.Decides.{nat_tests}
use Rattle.std.proofs.lemmas.Nat.Bits.{bit_at_and, bit_at_or, bit_at_xor, bit_at-suc, bit_at_lowest}
use Rattle.std.proofs.lemmas.Nat.Bits.{bit_at-lt, bit_at_above, bit_at_cat_low, bit_at_cat_high, bit_at-zero}
use Rattle.plane_core.specs.plane.Generations.{lives_by}
use Rattle.plane_core.specs.windows.Words.{west_of, east_of, one_if, life}

-- ---- words moved by one place

-- in a word shifted up by one, with the last bit of the previous word put first, bit i is the cell west of cell i
pub bit_from_west : (before here i : ℕ) → before < 2 ^ 64 → here < 2 ^ 64 → i < 64
    → bit_at (bit_or (here * 2 % 2 ^ 64) (before / 2 ^ 63)) i ≡ west_of before here i
bit_from_west before here zero b h low =
    omega (arith, bit_at_or (here * 2 % 2 ^ 64) (before / 2 ^ 63) 0, bit_at_lowest (here * 2 % 2 ^ 64), bit_at_lowest (before / 2 ^ 63))
bit_from_west before here (suc i) b h low =
    let half : (here * 2 % 2 ^ 64) / 2 ≡ here % 2 ^ 63 = omega arith in
    let whole : here / 2 ^ 63 * 2 ^ 63 + here % 2 ^ 63 ≡ here = omega arith in
    let kept : bit_at here i ≡ bit_at (here % 2 ^ 63) i =
    ap (λ (n : ℕ). bit_at n i) (sym whole) ∙ bit_at_cat_low (here / 2 ^ 63) 63 (here % 2 ^ 63) i (omega arith) in
    let moved : bit_at (here * 2 % 2 ^ 64) (suc i) ≡ bit_at here i =
    bit_at-suc (here * 2 % 2 ^ 64) i ∙ ap (λ (n : ℕ). bit_at n i) half ∙ sym kept in
    omega (arith, bit_at_or (here * 2 % 2 ^ 64) (before / 2 ^ 63) (suc i), moved, bit_at_above (before / 2 ^ 63) 1 (suc i) (omega arith) (omega arith))

-- in a word shifted down by one, with the first bit of the next word put last, bit i is the cell east of cell i
pub bit_from_east : (here after i : ℕ) → here < 2 ^ 64 → i < 64 → bit_at (bit_or (here / 2) (after * 2 ^ 63 % 2 ^ 64)) i ≡ east_of here after i
bit_from_east here after i h low = split (i == 63) refl
  where
    high : after * 2 ^ 63 % 2 ^ 64 ≡ after % 2 * 2 ^ 63 + 0
    high = omega arith

    or : bit_at (bit_or (here / 2) (after * 2 ^ 63 % 2 ^ 64)) i ≡ max (bit_at (here / 2) i) (bit_at (after % 2 * 2 ^ 63 + 0) i)
    or = bit_at_or (here / 2) (after * 2 ^ 63 % 2 ^ 64) i ∙ ap (λ (n : ℕ). max (bit_at (here / 2) i) (bit_at n i)) high

    split : (b : Bool) → (i == 63) ≡ b → bit_at (bit_or (here / 2) (after * 2 ^ 63 % 2 ^ 64)) i ≡ cond b (bit_at after 0) (bit_at here (i + 1))
    split true e =
        let last : i ≡ 63 = eqb-true i 63 e in
        let none : bit_at (here / 2) i ≡ 0 = bit_at_above (here / 2) 63 i (omega arith) (omega arith) in
        let first : bit_at (after % 2 * 2 ^ 63 + 0) i ≡ bit_at (after % 2) (i - 63) = bit_at_cat_high (after % 2) 63 0 i (omega arith) (omega arith) in
        let at : i - 63 ≡ 0 = omega arith in
        let same : bit_at (after % 2) (i - 63) ≡ bit_at (after % 2) 0 = ap (λ (n : ℕ). bit_at (after % 2) n) at in
        omega (arith, or, none, first, same, bit_at_lowest (after % 2), bit_at_lowest after)
    split false e =
        let inner : i < 63 = let apart = eqb-false i 63 e in omega arith in
        let moved : bit_at here (i + 1) ≡ bit_at (here / 2) i = rw add-one (bit_at-suc here i) in
        let none : bit_at (after % 2 * 2 ^ 63 + 0) i ≡ bit_at 0 i = bit_at_cat_low (after % 2) 63 0 i inner in
        omega (arith, or, moved, none, bit_at-zero i)

-- ---- sums

pub half_adder : (a b i : ℕ) → bit_at (bit_xor a b) i + 2 * bit_at (bit_and a b) i ≡ bit_at a i + bit_at b i
half_adder a b i = omega (arith, bit_at_xor a b i, bit_at_and a b i, bit_at-lt a i, bit_at-lt b i)

pub full_adder : (a b c i : ℕ)
    → bit_at (bit_xor (bit_xor a b) c) i + 2 * bit_at (bit_or (bit_and a b) (bit_and (bit_xor a b) c)) i ≡ bit_at a i + bit_at b i + bit_at c i
full_adder a b c i = omega (
  arith,
  bit_at_xor (bit_xor a b) c i,
  bit_at_xor a b i,
  bit_at_or (bit_and a b) (bit_and (bit_xor a b) c) i,
  bit_at_and a b i,
  bit_at_and (bit_xor a b) c i,
  bit_at-lt a i,
  bit_at-lt b i,
  bit_at-lt c i,
)

-- the four binary digits of the sum a + 2 b + 2 (c + 2 d), at bit i
pub joined_digits : (a b c d i : ℕ)
    → bit_at a i + 2 * bit_at (bit_xor b c) i + 4 * bit_at (bit_xor d (bit_and b c)) i + 8 * bit_at (bit_and d (bit_and b c)) i
    ≡ bit_at a i + 2 * bit_at b i + 2 * (bit_at c i + 2 * bit_at d i)
joined_digits a b c d i = omega (
  arith,
  bit_at_xor b c i,
  bit_at_and b c i,
  bit_at_xor d (bit_and b c) i,
  bit_at_and d (bit_and b c) i,
  bit_at-lt b i,
  bit_at-lt c i,
  bit_at-lt d i,
)

-- ---- choices

chosen : (t y n : ℕ) → t < 2 → y < 2 → n < 2 → (n + min ((n + y) % 2) t) % 2 ≡ cond (t == 1) y n
chosen t y n ht hy hn = grind (arith, nat_tests)

pub choice_bit : (test one other i : ℕ)
    → bit_at (bit_xor other (bit_and (bit_xor other one) test)) i ≡ cond (bit_at test i == 1) (bit_at one i) (bit_at other i)
choice_bit test one other i =
    bit_at_xor other (bit_and (bit_xor other one) test) i
    ∙ ap (λ (m : ℕ). (bit_at other i + m) % 2)
    (bit_at_and (bit_xor other one) test i ∙ ap (λ (m : ℕ). min m (bit_at test i)) (bit_at_xor other one i))
    ∙ chosen (bit_at test i) (bit_at one i) (bit_at other i) (bit_at-lt test i) (bit_at-lt one i) (bit_at-lt other i)

-- choosing between g (n + k) and g n by a digit d gives g (n + k * d)
pub by_digit : (g : ℕ → ℕ) (n k d : ℕ) → d < 2 → cond (d == 1) (g (n + k)) (g n) ≡ g (n + k * d)
by_digit g n k zero low = ap g (omega arith)
by_digit g n k (suc zero) low = ap g (omega arith)
by_digit g n k (suc (suc d)) low = absurd (omega arith)

-- for a sum of nine at most, choosing between g (8 + a) and g (a + 2 * b + 4 * c) by the eights digit d gives g of the
-- sum: if d is 1, then b and c are 0
pub by_eights : (g : ℕ → ℕ) (a b c d : ℕ) → a < 2 → b < 2 → c < 2 → d < 2 → a + 2 * b + 4 * c + 8 * d ≤ 9
    → cond (d == 1) (g (8 + a)) (g (a + 2 * b + 4 * c)) ≡ g (a + 2 * b + 4 * c + 8 * d)
by_eights g a b c zero p q r s t = ap g (omega arith)
by_eights g a b c (suc zero) p q r s t = ap g (omega arith)
by_eights g a b c (suc (suc d)) p q r s t = absurd (omega arith)

-- ---- the tree of choices over the digits of a sum

pub by_ones : (g : ℕ → ℕ) (n a x y r : ℕ) → a < 2 → x ≡ g (n + 1) → y ≡ g n → r ≡ cond (a == 1) x y → r ≡ g (n + a)
by_ones g n a x y r low p q e =
    e ∙ (λ i. cond (a == 1) (p i) (q i)) ∙ by_digit g n 1 a low ∙ ap (λ (k : ℕ). g (n + k)) (omega arith)

pub by_twos : (g : ℕ → ℕ) (n a b x y r : ℕ) → b < 2 → x ≡ g (n + 2 + a) → y ≡ g (n + a) → r ≡ cond (b == 1) x y → r ≡ g (n + a + 2 * b)
by_twos g n a b x y r low p q e =
    let x_is : x ≡ g (n + a + 2) = p ∙ ap g (omega arith) in
    e ∙ (λ i. cond (b == 1) (x_is i) (q i)) ∙ by_digit g (n + a) 2 b low

pub by_nine : (g : ℕ → ℕ) (a b c d high x y low r : ℕ) → a < 2 → b < 2 → c < 2 → d < 2 → a + 2 * b + 4 * c + 8 * d ≤ 9
    → high ≡ g (8 + a) → x ≡ g (4 + a + 2 * b) → y ≡ g (0 + a + 2 * b) → low ≡ cond (c == 1) x y → r ≡ cond (d == 1) high low
    → r ≡ g (a + 2 * b + 4 * c + 8 * d)
by_nine g a b c d high x y low r ha hb hc hd small p q s e f =
    let x_is : x ≡ g (a + 2 * b + 4) = q ∙ ap g (omega arith) in
    let y_is : y ≡ g (a + 2 * b) = s ∙ ap g (omega arith) in
    let low_is : low ≡ g (a + 2 * b + 4 * c) = e ∙ (λ i. cond (c == 1) (x_is i) (y_is i)) ∙ by_digit g (a + 2 * b) 4 c hc in
    f ∙ (λ i. cond (d == 1) (p i) (low_is i)) ∙ by_eights g a b c d ha hb hc hd small

-- ---- Life

-- the formula is 1 if exactly one of the four bits a, b, c and d is 1, otherwise 0
pub one_of_four : (a b c d : ℕ) → a < 2 → b < 2 → c < 2 → d < 2
    → (((a + b) % 2 + (c + d) % 2) % 2 + min (((a + b) % 2 + (c + d) % 2) % 2) (max (min a b) (min c d))) % 2 ≡ one_if (a + b + c + d == 1)
one_of_four (suc (suc a)) b c d p q r s = absurd (omega arith)
one_of_four a (suc (suc b)) c d p q r s = absurd (omega arith)
one_of_four a b (suc (suc c)) d p q r s = absurd (omega arith)
one_of_four a b c (suc (suc d)) p q r s = absurd (omega arith)
one_of_four zero zero zero zero p q r s = refl
one_of_four zero zero zero (suc zero) p q r s = refl
one_of_four zero zero (suc zero) zero p q r s = refl
one_of_four zero zero (suc zero) (suc zero) p q r s = refl
one_of_four zero (suc zero) zero zero p q r s = refl
one_of_four zero (suc zero) zero (suc zero) p q r s = refl
one_of_four zero (suc zero) (suc zero) zero p q r s = refl
one_of_four zero (suc zero) (suc zero) (suc zero) p q r s = refl
one_of_four (suc zero) zero zero zero p q r s = refl
one_of_four (suc zero) zero zero (suc zero) p q r s = refl
one_of_four (suc zero) zero (suc zero) zero p q r s = refl
one_of_four (suc zero) zero (suc zero) (suc zero) p q r s = refl
one_of_four (suc zero) (suc zero) zero zero p q r s = refl
one_of_four (suc zero) (suc zero) zero (suc zero) p q r s = refl
one_of_four (suc zero) (suc zero) (suc zero) zero p q r s = refl
one_of_four (suc zero) (suc zero) (suc zero) (suc zero) p q r s = refl

-- Life with a + 2 * s live neighbours: a cell is alive next if this number is 3, or if it is 2 and the cell is alive
pub life_digits : (a s t : ℕ) → a < 2 → s < 5 → t < 2 → min (one_if (s == 1)) (max a t) ≡ one_if (lives_by life (a + 2 * s + t) (t == 1))
life_digits (suc (suc a)) s t p q r = absurd (omega arith)
life_digits a (suc (suc (suc (suc (suc s))))) t p q r = absurd (omega arith)
life_digits a s (suc (suc t)) p q r = absurd (omega arith)
life_digits zero zero zero p q r = refl
life_digits zero zero (suc zero) p q r = refl
life_digits (suc zero) zero zero p q r = refl
life_digits (suc zero) zero (suc zero) p q r = refl
life_digits zero (suc zero) zero p q r = refl
life_digits zero (suc zero) (suc zero) p q r = refl
life_digits (suc zero) (suc zero) zero p q r = refl
life_digits (suc zero) (suc zero) (suc zero) p q r = refl
life_digits zero (suc (suc zero)) zero p q r = refl
life_digits zero (suc (suc zero)) (suc zero) p q r = refl
life_digits (suc zero) (suc (suc zero)) zero p q r = refl
life_digits (suc zero) (suc (suc zero)) (suc zero) p q r = refl
life_digits zero (suc (suc (suc zero))) zero p q r = refl
life_digits zero (suc (suc (suc zero))) (suc zero) p q r = refl
life_digits (suc zero) (suc (suc (suc zero))) zero p q r = refl
life_digits (suc zero) (suc (suc (suc zero))) (suc zero) p q r = refl
life_digits zero (suc (suc (suc (suc zero)))) zero p q r = refl
life_digits zero (suc (suc (suc (suc zero)))) (suc zero) p q r = refl
life_digits (suc zero) (suc (suc (suc (suc zero)))) zero p q r = refl
life_digits (suc zero) (suc (suc (suc (suc zero)))) (suc zero) p q r = refl
