-- Sets of soup numbers, given by ranges.
use Rattle.std.specs.Prelude.{◌≡◌, ◌+◌, ◌<◌, ◌≤◌, ◌^◌, ◌&&◌, ℕ, Bool, true, List, [], ◌∷◌, count_by, nat_le, nat_lt, sum_by}
use Rattle.std.specs.List.{All, list_any}
use Rattle.ranges.specs.declared.range.Range.{Range}

-- the first number after a range
abbrev pub end_of : Range → ℕ
end_of r = r.first + r.count

-- n is one of the range's numbers
abbrev pub is_in_range : ℕ → Range → Bool
is_in_range n r = nat_le r.first n && nat_lt n (end_of r)

-- n is in the set that the ranges give
abbrev pub is_in : List Range → ℕ → Bool
is_in ranges n = list_any (is_in_range n) ranges

-- the sum of the ranges' counts: how many numbers they have together, if they don't overlap
abbrev pub size_of : List Range → ℕ
size_of ranges = sum_by (λ r. r.count) ranges

-- some number is in two of the ranges
abbrev pub Overlap : List Range → Type 0
Overlap ranges = (n : ℕ) × (2 ≤ count_by (is_in_range n) ranges)

-- some number is in both sets
pub record ShareNumber (a b : List Range) : Type 0 where
  pub number : ℕ
  pub first : is_in a number ≡ true
  pub second : is_in b number ≡ true

-- no range ends past the bound
abbrev pub AreBelow : ℕ → List Range → Type 0
AreBelow bound ranges = All (λ r. end_of r ≤ bound) ranges

-- soup numbers are below this bound, which is this project's choice
abbrev pub number_bound : ℕ
number_bound = 2 ^ 40

-- small enough for a haul: no range ends past the bound, and there are at most 2^24 numbers, which is also this
-- project's choice
pub record AreSmall (ranges : List Range) : Type 0 where
  pub below : AreBelow number_bound ranges
  pub few : size_of ranges ≤ 2 ^ 24

-- the next range, if there is one, begins after `place`, so `place` is left out
abbrev pub BeginAfter : ℕ → List Range → Type 0
BeginAfter place [] = Unit {0}
BeginAfter place (r ∷ more) = place < r.first

-- Normal form: the ranges ascend, none is empty, and between two of them at least one number is left out.
abbrev pub AreNormal : List Range → Type 0
AreNormal [] = Unit {0}
AreNormal (r ∷ more) = (1 ≤ r.count) × BeginAfter (end_of r) more × AreNormal more

-- `normal` is in normal form, and gives the same set as the ranges
pub record IsNormalForm (ranges normal : List Range) : Type 0 where
  pub normal_form : AreNormal normal
  pub same : (n : ℕ) → is_in normal n ≡ is_in ranges n

-- a set has one normal form: ranges in normal form that give the same set are the same list
abbrev pub OneNormalForm : Type 0
OneNormalForm = (a b : List Range) → AreNormal a → AreNormal b → ((n : ℕ) → is_in a n ≡ is_in b n) → a ≡ b
