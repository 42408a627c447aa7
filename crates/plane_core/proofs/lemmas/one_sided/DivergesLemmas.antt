-- A cluster is run alone and compared with the whole pattern, generation by generation.
use Rattle.std.proofs.Common.{◌≡◌, ◌≢◌, ◌==◌, ◌+◌, ◌-◌, ◌*◌, ◌/◌, ◌%◌, ◌^◌, ◌<◌, ◌≤◌, ℕ, ◌+ℤ◌, pos, List, arith, ap, sym, ◌∙◌, ◌⊎◌, inl, inr}
use Rattle.std.proofs.Common.{bit_and, bit_xor, min, w64}
use Rattle.std.specs.Int.{bit_at, trailing_zeros}
use Rattle.std.proofs.lemmas.Bool.{cases_lt}
use Rattle.std.proofs.lemmas.Nat.{and_le_r}
use Rattle.std.proofs.lemmas.Nat.Bits.{bit_at-lt, bit_at-trailing_zeros, bit_at_above, bit_at_and, bit_at_ones_above, bit_at_xor, ones_shr}
use Rattle.plane_core.specs.plane.Cells.{cell_at}
use Rattle.plane_core.specs.one_sided.RestlessClusters.{HasDivergingCell, DivergesFromWhole}
use Rattle.plane_core.specs.plane.Rules.{Numbers}
use Rattle.plane_core.specs.windows.Windows.{IsLaterWindow, IsNextWindow}
use Rattle.plane_core.proofs.lemmas.windows.ShiftLemmas.{bit_left_high, bit_left_low}
use Rattle.plane_core.proofs.lemmas.windows.WindowLemmas.{none_made, one_made}

-- the windows of the whole pattern and of the cluster alone, `made` generations later
pub record AreMade (rule : Numbers) (n : ℕ) (whole alone later later_alone : List (List ℕ)) (made : ℕ) : Type 0 where
  pub one : IsLaterWindow rule n whole later made
  pub other : IsLaterWindow rule n alone later_alone made

-- if a diverging cell is seen after `made` generations, the cluster diverges from the whole
pub diverging_seen : (rule : Numbers) (n : ℕ) (whole alone later later_alone : List (List ℕ)) (depth made most : ℕ)
    → AreMade rule n whole alone later later_alone made → made ≤ most → HasDivergingCell n later later_alone (depth + made)
    → DivergesFromWhole rule n whole alone depth most
diverging_seen rule n whole alone later later_alone depth made most are few found cells cluster left top o p shown shown_alone = record {
  generation = made;
  early = few;
  cell = cell_at (left +ℤ pos found.i) (top +ℤ pos found.r);
  alone = are.other cluster left top depth p shown_alone found.r found.i found.above found.below found.west found.east ∙ ap (λ (m : ℕ). m == 1) found.lit;
  missing = are.one cells left top depth o shown found.r found.i found.above found.below found.west found.east ∙ ap (λ (m : ℕ). m == 1) found.dark;
}

pub made_none : (rule : Numbers) (n : ℕ) (whole alone : List (List ℕ)) → AreMade rule n whole alone whole alone 0
made_none rule n whole alone = record { one = none_made rule n whole; other = none_made rule n alone }

pub made_more : (rule : Numbers) (n : ℕ) (whole alone later later_alone next next_alone : List (List ℕ)) (made : ℕ)
    → AreMade rule n whole alone later later_alone made → IsNextWindow rule n later next → IsNextWindow rule n later_alone next_alone
    → AreMade rule n whole alone next next_alone (made + 1)
made_more rule n whole alone later later_alone next next_alone made are a b = record {
  one = one_made rule n whole later next made are.one a;
  other = one_made rule n alone later_alone next_alone made are.other b;
}

-- ---- one word

-- bit i is 1 in `here` and 0 in `there`, and it is at least `depth` bits from both ends of the word
pub record IsDivergingBit (here there depth : ℕ) : Type 0 where
  pub i : ℕ
  pub west : depth ≤ i
  pub east : i + depth < 64
  pub lit : bit_at here i ≡ 1
  pub dark : bit_at there i ≡ 0

pub diverging_bit : (here there inside depth : ℕ) → bit_and (bit_and here (bit_xor here there)) inside ≢ 0 → inside < 2 ^ 64
    → ((i : ℕ) → bit_at inside i ≡ 1 → (depth ≤ i) × (i + depth < 64)) → IsDivergingBit here there depth
diverging_bit here there inside depth some small deep = record {
  i = i;
  west = (deep i digit.2).0;
  east = (deep i digit.2).1;
  lit = digit.0;
  dark = digit.1;
}
  where
    word : ℕ
    word = bit_and (bit_and here (bit_xor here there)) inside

    i : ℕ
    i = trailing_zeros w64 word

    low : word < 2 ^ 64
    low = let most = and_le_r (bit_and here (bit_xor here there)) inside in omega (arith, most, small)

    one : bit_at word i ≡ 1
    one = (bit_at-trailing_zeros w64 word (omega (arith, some)) low).1

    split : bit_at word i ≡ min (min (bit_at here i) ((bit_at here i + bit_at there i) % 2)) (bit_at inside i)
    split = bit_at_and (bit_and here (bit_xor here there)) inside i
        ∙ ap (λ (n : ℕ). min n (bit_at inside i)) (bit_at_and here (bit_xor here there) i ∙ ap (min (bit_at here i)) (bit_at_xor here there i))

    digits : (h t n : ℕ) → h < 2 → t < 2 → n < 2 → min (min h ((h + t) % 2)) n ≡ 1 → (h ≡ 1) × (t ≡ 0) × (n ≡ 1)
    digits h t n hh ht hn e = (omega arith, omega arith, omega arith)

    digit : (bit_at here i ≡ 1) × (bit_at there i ≡ 0) × (bit_at inside i ≡ 1)
    digit = digits (bit_at here i) (bit_at there i) (bit_at inside i) (bit_at-lt here i) (bit_at-lt there i) (bit_at-lt inside i) (sym split ∙ one)

-- each bit that is 1 in the mask is at least d bits from both ends of the word
pub inside_bit : (d i : ℕ) → d < 32 → bit_at ((2 ^ 64 - 1) / 2 ^ (2 * d) * 2 ^ d % 2 ^ 64) i ≡ 1 → (d ≤ i) × (i + d < 64)
inside_bit d i small one = (west (cases_lt i d), east (cases_lt i 64))
  where
    word : ℕ
    word = (2 ^ 64 - 1) / 2 ^ (2 * d)

    none : bit_at (word * 2 ^ d % 2 ^ 64) i ≡ 0 → ⊥
    none e = omega (arith, e, one)

    short : word ≡ 2 ^ (64 - 2 * d) - 1
    short = ones_shr 64 (2 * d) (omega (arith, small))

    west : (i < d) ⊎ (d ≤ i) → d ≤ i
    west (inl less) = absurd (none (bit_left_low word d i less (omega (arith, less, small))))
    west (inr more) = more

    inner : i < 64 → d ≤ i → (i + d < 64) ⊎ (64 ≤ i + d) → i + d < 64
    inner low from (inl less) = less
    inner low from (inr more) = absurd (none (bit_left_high word d i from low ∙ ap (λ (n : ℕ). bit_at n (i - d)) short
        ∙ bit_at_ones_above (64 - 2 * d) (i - d) (omega (arith, more, from))))

    east : (i < 64) ⊎ (64 ≤ i) → i + d < 64
    east (inl low) = inner low (west (cases_lt i d)) (cases_lt (i + d) 64)
    east (inr high) = absurd (none (bit_at_above (word * 2 ^ d % 2 ^ 64) 64 i (omega arith) high))
