-- Lists of ranges as texts, such as `0+4,10+2`.
use Rattle.std.specs.Prelude.{◌≡◌, ◌<◌, ◌^◌, ◌++◌, ℕ, List, [], ◌∷◌, decimal, map}
use Rattle.std.specs.List.{All}
use Rattle.ranges.specs.declared.range.Range.{Range}

-- how a range is written: the decimals of its first number and of its count
pub record Written : Type 0 where
  pub first : List ℕ
  pub count : List ℕ

-- the first number, a `+` (43), and the count
abbrev pub pair_text : Written → List ℕ
pair_text w = w.first ++ 43 ∷ w.count

-- ranges with a `,` (44) between each two; without a range, the text is empty
abbrev pub joined : List Written → List ℕ
joined [] = []
joined (w ∷ []) = pair_text w
joined (w ∷ v ∷ more) = pair_text w ++ 44 ∷ joined (v ∷ more)

-- a range as it is written, in decimal
abbrev pub written : Range → Written
written r = record { first = decimal r.first; count = decimal r.count }

-- the text of a list of ranges
unfoldable pub list_text : List Range → List ℕ
list_text ranges = joined (map written ranges)

-- both numbers of each range are below 2^64
abbrev pub FitU64 : List Range → Type 0
FitU64 ranges = All (λ r. (r.first < 2 ^ 64) × (r.count < 2 ^ 64)) ranges

-- the text is the text of some list of ranges whose numbers are below 2^64
pub record IsListText (text : List ℕ) : Type 0 where
  pub ranges : List Range
  pub fit : FitU64 ranges
  pub spelled : list_text ranges ≡ text
