-- What operations on vectors do in each lane.
use Rattle.std.proofs.Common.{◌≡◌, ◌==◌, ◌+◌, ◌-◌, ◌*◌, ◌/◌, ◌%◌, ◌^◌, ◌<◌, ℕ, List, length, slice_index, cond}
use Rattle.std.proofs.Common.{Fits, w64, replicate, arith, refl, ap, ◌∙◌, sym, bit_and, bit_or, bit_xor}
use Rattle.std.specs.Int.{bit_at}
use Rattle.std.proofs.lemmas.Nat.Bits.{bit_at_or, bit_at-zero, bit_at-lt}
use Rattle.std.proofs.lemmas.Simd.{get_or-zip2, length-zip2, get_or-replicate, Each1-get_or}
use Rattle.plane_core.specs.windows.LaneSums.{bit_of, row_sum}
use Rattle.plane_core.specs.windows.Words.{west_of, east_of}
use Rattle.plane_core.proofs.lemmas.windows.WordLemmas.{half_adder, full_adder, joined_digits, choice_bit, bit_from_west, bit_from_east}
use lib.Lanes.{zip2, Each1}

-- ---- one operation

-- lane j of the result of an operation is the operation applied to lane j of both operands
pub lane_of : (f : ℕ → ℕ → ℕ) (a b : List ℕ) (j : ℕ) → length a ≡ 4 → length b ≡ 4 → j < 4
    → slice_index (zip2 f a b) j ≡ f (slice_index a j) (slice_index b j)
lane_of f a b j la lb low = get_or-zip2 f a b j 0 0 0 (omega arith) (omega arith)

pub four_lanes : (f : ℕ → ℕ → ℕ) (a b : List ℕ) → length a ≡ 4 → length b ≡ 4 → length (zip2 f a b) ≡ 4
four_lanes f a b la lb = length-zip2 f a b (la ∙ sym lb) ∙ la

-- ---- sums

pub lane_pair : (a b : List ℕ) (j i : ℕ) → length a ≡ 4 → length b ≡ 4 → j < 4
    → bit_of (zip2 bit_xor a b) j i + 2 * bit_of (zip2 bit_and a b) j i ≡ bit_of a j i + bit_of b j i
lane_pair a b j i la lb low =
    (λ t. bit_at (lane_of bit_xor a b j la lb low t) i + 2 * bit_at (lane_of bit_and a b j la lb low t) i)
    ∙ half_adder (slice_index a j) (slice_index b j) i

pub lane_adder : (a b c : List ℕ) (j i : ℕ) → length a ≡ 4 → length b ≡ 4 → length c ≡ 4 → j < 4
    → bit_of (zip2 bit_xor (zip2 bit_xor a b) c) j i + 2 * bit_of (zip2 bit_or (zip2 bit_and a b) (zip2 bit_and (zip2 bit_xor a b) c)) j i
    ≡ bit_of a j i + bit_of b j i + bit_of c j i
lane_adder a b c j i la lb lc low = (λ t. bit_at (ones t) i + 2 * bit_at (twos t) i) ∙ full_adder (slice_index a j) (slice_index b j) (slice_index c j) i
  where
    x : ℕ
    x = slice_index a j

    y : ℕ
    y = slice_index b j

    z : ℕ
    z = slice_index c j

    apart : slice_index (zip2 bit_xor a b) j ≡ bit_xor x y
    apart = lane_of bit_xor a b j la lb low

    ones : slice_index (zip2 bit_xor (zip2 bit_xor a b) c) j ≡ bit_xor (bit_xor x y) z
    ones = lane_of bit_xor (zip2 bit_xor a b) c j (four_lanes bit_xor a b la lb) lc low ∙ ap (λ (n : ℕ). bit_xor n z) apart

    carry : slice_index (zip2 bit_and (zip2 bit_xor a b) c) j ≡ bit_and (bit_xor x y) z
    carry = lane_of bit_and (zip2 bit_xor a b) c j (four_lanes bit_xor a b la lb) lc low ∙ ap (λ (n : ℕ). bit_and n z) apart

    twos : slice_index (zip2 bit_or (zip2 bit_and a b) (zip2 bit_and (zip2 bit_xor a b) c)) j ≡ bit_or (bit_and x y) (bit_and (bit_xor x y) z)
    twos =
        lane_of bit_or (zip2 bit_and a b) (zip2 bit_and (zip2 bit_xor a b) c) j (four_lanes bit_and a b la lb)
        (four_lanes bit_and (zip2 bit_xor a b) c (four_lanes bit_xor a b la lb) lc) low
        ∙ (λ t. bit_or (lane_of bit_and a b j la lb low t) (carry t))

-- the four binary digits of the sum a + 2 b + 2 (c + 2 d), at bit i of lane j
pub lane_joined : (a b c d : List ℕ) (j i : ℕ) → length b ≡ 4 → length c ≡ 4 → length d ≡ 4 → j < 4
    → bit_of a j i + 2 * bit_of (zip2 bit_xor b c) j i + 4 * bit_of (zip2 bit_xor d (zip2 bit_and b c)) j i
    + 8 * bit_of (zip2 bit_and d (zip2 bit_and b c)) j i
    ≡ bit_of a j i + 2 * bit_of b j i + 2 * (bit_of c j i + 2 * bit_of d j i)
lane_joined a b c d j i lb lc ld low =
    (λ t. bit_of a j i + 2 * bit_at (lane_of bit_xor b c j lb lc low t) i + 4 * bit_at (fours t) i + 8 * bit_at (eights t) i)
    ∙ joined_digits (slice_index a j) (slice_index b j) (slice_index c j) (slice_index d j) i
  where
    carry : slice_index (zip2 bit_and b c) j ≡ bit_and (slice_index b j) (slice_index c j)
    carry = lane_of bit_and b c j lb lc low

    fours : slice_index (zip2 bit_xor d (zip2 bit_and b c)) j ≡ bit_xor (slice_index d j) (bit_and (slice_index b j) (slice_index c j))
    fours = lane_of bit_xor d (zip2 bit_and b c) j ld (four_lanes bit_and b c lb lc) low ∙ ap (λ (n : ℕ). bit_xor (slice_index d j) n) carry

    eights : slice_index (zip2 bit_and d (zip2 bit_and b c)) j ≡ bit_and (slice_index d j) (bit_and (slice_index b j) (slice_index c j))
    eights = lane_of bit_and d (zip2 bit_and b c) j ld (four_lanes bit_and b c lb lc) low ∙ ap (λ (n : ℕ). bit_and (slice_index d j) n) carry

-- ---- choices

pub lane_choice : (test one other : List ℕ) (j i : ℕ) → length test ≡ 4 → length one ≡ 4 → length other ≡ 4 → j < 4
    → bit_of (zip2 bit_xor other (zip2 bit_and (zip2 bit_xor other one) test)) j i ≡ cond (bit_of test j i == 1) (bit_of one j i) (bit_of other j i)
lane_choice test one other j i lt lo ln low =
    ap (λ (n : ℕ). bit_at n i) word ∙ choice_bit (slice_index test j) (slice_index one j) (slice_index other j) i
  where
    apart : length (zip2 bit_xor other one) ≡ 4
    apart = four_lanes bit_xor other one ln lo

    word : slice_index (zip2 bit_xor other (zip2 bit_and (zip2 bit_xor other one) test)) j
        ≡ bit_xor (slice_index other j) (bit_and (bit_xor (slice_index other j) (slice_index one j)) (slice_index test j))
    word =
        lane_of bit_xor other (zip2 bit_and (zip2 bit_xor other one) test) j ln (four_lanes bit_and (zip2 bit_xor other one) test apart lt) low
        ∙ ap (λ (n : ℕ). bit_xor (slice_index other j) n)
        (lane_of bit_and (zip2 bit_xor other one) test j apart lt low
        ∙ ap (λ (n : ℕ). bit_and n (slice_index test j)) (lane_of bit_xor other one j ln lo low))

-- ---- two words joined into one

-- if vector `first` is shifted down by s bits and `second` up by 64 - s bits, lane j of their bitwise OR is computed in
-- the same way from lane j of `first` and lane j of `second`
pub joined_lane : (first second : List ℕ) (j s : ℕ) → length first ≡ 4 → length second ≡ 4 → j < 4
    → slice_index
    (zip2 bit_or (zip2 (λ (a b : ℕ). a / 2 ^ b) first (replicate 4 s))
    (zip2 (λ (a b : ℕ). a * 2 ^ b % 2 ^ 64) (zip2 (λ (a b : ℕ). a * 2 ^ b % 2 ^ 64) second (replicate 4 1)) (replicate 4 (63 - s)))) j
    ≡ bit_or (slice_index first j / 2 ^ s) (slice_index second j * 2 % 2 ^ 64 * 2 ^ (63 - s) % 2 ^ 64)
joined_lane first second j s lf ls low =
    lane_of bit_or (zip2 down first (replicate 4 s)) (zip2 up doubled (replicate 4 (63 - s))) j (four_lanes down first (replicate 4 s) lf refl)
    (four_lanes up doubled (replicate 4 (63 - s)) (four_lanes up second (replicate 4 1) ls refl) refl) low
    ∙ (λ t. bit_or (end t) (beginning t))
  where
    down : ℕ → ℕ → ℕ
    down a b = a / 2 ^ b

    up : ℕ → ℕ → ℕ
    up a b = a * 2 ^ b % 2 ^ 64

    doubled : List ℕ
    doubled = zip2 up second (replicate 4 1)

    end : slice_index (zip2 down first (replicate 4 s)) j ≡ slice_index first j / 2 ^ s
    end = lane_of down first (replicate 4 s) j lf refl low ∙ ap (down (slice_index first j)) (get_or-replicate 4 j s 0 low)

    double : slice_index doubled j ≡ slice_index second j * 2 % 2 ^ 64
    double = lane_of up second (replicate 4 1) j ls refl low ∙ ap (up (slice_index second j)) (get_or-replicate 4 j 1 0 low)

    beginning : slice_index (zip2 up doubled (replicate 4 (63 - s))) j ≡ slice_index second j * 2 % 2 ^ 64 * 2 ^ (63 - s) % 2 ^ 64
    beginning =
        lane_of up doubled (replicate 4 (63 - s)) j (four_lanes up second (replicate 4 1) ls refl) refl low
        ∙ (λ t. up (double t) (get_or-replicate 4 j (63 - s) 0 low t))

-- ---- the row sum of a word

alone_or : (n i : ℕ) → bit_at n i ≡ bit_at (bit_or n 0) i
alone_or n i = omega (arith, bit_at_or n 0 i, bit_at-zero i, bit_at-lt n i)

pub bit_west : (word i : ℕ) → word < 2 ^ 64 → i < 64 → bit_at (word * 2 % 2 ^ 64) i ≡ west_of 0 word i
bit_west word i small low = alone_or (word * 2 % 2 ^ 64) i ∙ bit_from_west 0 word i (omega arith) small low

pub bit_east : (word i : ℕ) → word < 2 ^ 64 → i < 64 → bit_at (word / 2) i ≡ east_of word 0 i
bit_east word i small low = alone_or (word / 2) i ∙ bit_from_east word 0 i small low

shifted_left : (words : List ℕ) (j i : ℕ) → length words ≡ 4 → slice_index words j < 2 ^ 64 → j < 4 → i < 64
    → bit_of (zip2 (λ (a b : ℕ). a * 2 ^ b % 2 ^ 64) words (replicate 4 1)) j i ≡ west_of 0 (slice_index words j) i
shifted_left words j i long small low inside =
    ap (λ (n : ℕ). bit_at n i)
    (lane_of (λ (a b : ℕ). a * 2 ^ b % 2 ^ 64) words (replicate 4 1) j long refl low
    ∙ ap (λ (b : ℕ). slice_index words j * 2 ^ b % 2 ^ 64) (get_or-replicate 4 j 1 0 low))
    ∙ bit_west (slice_index words j) i small inside

shifted_right : (words : List ℕ) (j i : ℕ) → length words ≡ 4 → slice_index words j < 2 ^ 64 → j < 4 → i < 64
    → bit_of (zip2 (λ (a b : ℕ). a / 2 ^ b) words (replicate 4 1)) j i ≡ east_of (slice_index words j) 0 i
shifted_right words j i long small low inside =
    ap (λ (n : ℕ). bit_at n i)
    (lane_of (λ (a b : ℕ). a / 2 ^ b) words (replicate 4 1) j long refl low
    ∙ ap (λ (b : ℕ). slice_index words j / 2 ^ b) (get_or-replicate 4 j 1 0 low))
    ∙ bit_east (slice_index words j) i small inside

-- in each lane, the sum of a bit and the bits to its left and right is the row sum of the lane's word
pub lane_across : (words : List ℕ) (j i : ℕ) → length words ≡ 4 → Each1 (Fits w64) words → j < 4 → i < 64
    → bit_of (zip2 (λ (a b : ℕ). a * 2 ^ b % 2 ^ 64) words (replicate 4 1)) j i + bit_of words j i
    + bit_of (zip2 (λ (a b : ℕ). a / 2 ^ b) words (replicate 4 1)) j i
    ≡ row_sum (slice_index words j) i
lane_across words j i long fits low inside =
    let fit : Fits w64 (slice_index words j) = Each1-get_or (Fits w64) words j 0 (omega arith) fits in
    let small : slice_index words j < 2 ^ 64 = fit.fits in
    λ t. shifted_left words j i long small low inside t + bit_of words j i + shifted_right words j i long small low inside t
