-- How a list of ranges is read, one range at a time.
use Rattle.std.specs.Prelude.{◌≡◌, ◌≢◌, ◌<◌, ◌^◌, ◌⊎◌, ◌++◌, ℕ, Bool, false, true, List, [], ◌∷◌, Option, None, Some, decimal}
use Rattle.std.specs.Char.{is_ascii_digit}
use Rattle.ranges.specs.declared.range.Range.{Range}
use Rattle.ranges.specs.RangeLists.{list_text, pair_text, written}
use Rattle.ranges.specs.RangeListFaults.{BeginsLargeDecimal}

-- the text begins with a digit
abbrev pub has_digit : List ℕ → Bool
has_digit [] = false
has_digit (b ∷ remainder) = is_ascii_digit b

-- the text begins with this byte
abbrev pub has_byte : ℕ → List ℕ → Type 0
has_byte b [] = ⊥
has_byte b (c ∷ remainder) = b ≡ c

-- the text is the decimal of n, which is below 2^64, followed by the remainder; the remainder may begin with a digit
-- only if n is 0
pub record BeginsDecimal (text : List ℕ) (n : ℕ) (remainder : List ℕ) : Type 0 where
  pub fits : n < 2 ^ 64
  pub spelled : text ≡ decimal n ++ remainder
  pub ends : has_digit remainder ≡ true → n ≡ 0

-- the text doesn't begin with a digit, or it begins with a decimal of 2^64 or more
abbrev pub BeginsNoDecimal : List ℕ → Type 0
BeginsNoDecimal text = has_digit text ≡ true → BeginsLargeDecimal text

-- the text is a range, whose two numbers are below 2^64, followed by the remainder; the remainder may begin with a
-- digit only if the count is 0
pub record BeginsRange (text : List ℕ) (r : Range) (remainder : List ℕ) : Type 0 where
  pub first : r.first < 2 ^ 64
  pub count : r.count < 2 ^ 64
  pub spelled : text ≡ pair_text (written r) ++ remainder
  pub ends : has_digit remainder ≡ true → r.count ≡ 0

-- the text begins with a number, and no `+` (43) follows
pub record LacksPlus (text remainder : List ℕ) : Type 0 where
  pub n : ℕ
  pub begins : BeginsDecimal text n remainder
  pub other : ¬ has_byte 43 remainder

-- the text begins with a number and a `+` (43), followed by no digit, or by a count of 2^64 or more
pub record LacksCount (text remainder : List ℕ) : Type 0 where
  pub n : ℕ
  pub begins : BeginsDecimal text n (43 ∷ remainder)
  pub none : BeginsNoDecimal remainder

-- the text doesn't begin with a range; the remainder is the text from the fault on
abbrev pub IsNoRange : List ℕ → List ℕ → Type 0
IsNoRange text remainder = ((remainder ≡ text) × BeginsNoDecimal text) ⊎ (LacksPlus text remainder ⊎ LacksCount text remainder)

-- the text begins with a range, and neither the end of the text nor a `,` (44) follows
pub record LacksComma (text remainder : List ℕ) : Type 0 where
  pub range : Range
  pub begins : BeginsRange text range remainder
  pub some : remainder ≢ []
  pub other : ¬ has_byte 44 remainder

-- before the first range is read, the remainder is the whole text, or `None` if the text is empty
abbrev pub Starts : List ℕ → Option (List ℕ) → Type 0
Starts text None = text ≡ []
Starts text (Some remainder) = (remainder ≡ text) × (remainder ≢ [])

-- the text begins with this range; then the text ends (`None`), or a `,` (44) and the remainder follow
abbrev pub Passes : List ℕ → Range → Option (List ℕ) → Type 0
Passes text r None = BeginsRange text r []
Passes text r (Some remainder) = BeginsRange text r (44 ∷ remainder)

-- ranges with a `,` (44) after each
abbrev pub ranges_and_commas : List Range → List ℕ
ranges_and_commas [] = []
ranges_and_commas (r ∷ more) = pair_text (written r) ++ 44 ∷ ranges_and_commas more

-- the ranges read so far, with a comma after each, come before the remainder; if there is no remainder, they are the
-- whole list
abbrev pub HasPassed : List ℕ → List Range → Option (List ℕ) → Type 0
HasPassed text ranges None = list_text ranges ≡ text
HasPassed text ranges (Some remainder) = text ≡ ranges_and_commas ranges ++ remainder
