-- The first fault of a text that isn't a list of ranges.
use Rattle.std.specs.Prelude.{◌≡◌, ◌<◌, ◌≤◌, ◌+◌, ◌-◌, ◌^◌, ◌⊎◌, ◌++◌, ℕ, false, true, List, drop, length, slice_index, take}
use Rattle.std.specs.Char.{is_ascii_digit}
use Rattle.std.specs.List.{All}
use Rattle.std.specs.Str.{all_ascii_digits}
use Rattle.std.specs.Str.Parse.{digits_value}
use Rattle.ranges.specs.RangeLists.{Written, joined, IsListText}

-- the text is the beginning of a list of ranges
pub record BeginsList (text : List ℕ) : Type 0 where
  pub remainder : List ℕ
  pub whole : IsListText (text ++ remainder)

-- a decimal of any size: one or more digits; if the first digit is `0` (48), there is no other
pub record IsDecimal (text : List ℕ) : Type 0 where
  pub digits : all_ascii_digits text ≡ true
  pub some : 1 ≤ length text
  pub plain : slice_index text 0 ≡ 48 → length text ≡ 1

-- the text is the beginning of a list of ranges, if numbers of any size are allowed
pub record BeginsLongList (text : List ℕ) : Type 0 where
  pub ranges : List Written
  pub remainder : List ℕ
  pub decimals : All (λ w. IsDecimal w.first × IsDecimal w.count) ranges
  pub spelled : joined ranges ≡ text ++ remainder

-- the text begins with a decimal of 2^64 or more
pub record BeginsLargeDecimal (text : List ℕ) : Type 0 where
  pub number : List ℕ
  pub remainder : List ℕ
  pub is_decimal : IsDecimal number
  pub large : 2 ^ 64 ≤ digits_value 10 number
  pub spelled : text ≡ number ++ remainder

-- The text before the place is the beginning of a list. If a byte follows, the text up to and including that byte isn't
-- the beginning of a list, even if numbers of any size are allowed. If the text ends at the place, it isn't a list.
pub record IsBadListByte (text : List ℕ) (place : ℕ) : Type 0 where
  pub within : place ≤ length text
  pub before : BeginsList (take place text)
  pub there : place < length text → ¬ BeginsLongList (take (place + 1) text)
  pub short : place ≡ length text → ¬ IsListText text

-- the text before the place is the beginning of a list, a decimal of 2^64 or more begins at the place, and the byte
-- before the place isn't a digit
pub record IsLargeDecimal (text : List ℕ) (place : ℕ) : Type 0 where
  pub before : BeginsList (take place text)
  pub apart : 1 ≤ place → is_ascii_digit (slice_index text (place - 1)) ≡ false
  pub there : BeginsLargeDecimal (drop place text)

-- the leftmost fault is at this place: a byte that can't follow, the end of an incomplete text, or a decimal of 2^64 or
-- more
abbrev pub IsFirstListFault : List ℕ → ℕ → Type 0
IsFirstListFault text place = IsBadListByte text place ⊎ IsLargeDecimal text place
