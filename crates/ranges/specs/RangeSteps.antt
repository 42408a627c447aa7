-- How ranges are compared and brought to normal form, one step at a time.
use Rattle.std.specs.Prelude.{◌≤◌, ℕ, Bool, List, [], ◌∷◌, max, min, nat_lt}
use Rattle.ranges.specs.declared.range.Range.{Range}
use Rattle.ranges.specs.Ranges.{end_of}

-- the range isn't empty
abbrev pub has_numbers : Range → Bool
has_numbers r = nat_lt 0 r.count

-- the two ranges have a number in common: the higher of their first numbers comes before both ends
abbrev pub shares : Range → Range → Bool
shares a b = nat_lt (max a.first b.first) (min (end_of a) (end_of b))

-- the next range, if there is one, begins at the place or after it
abbrev pub BeginFrom : ℕ → List Range → Type 0
BeginFrom place [] = Unit {0}
BeginFrom place (r ∷ more) = place ≤ r.first

-- ranges that ascend, share no number and aren't empty, but may touch
abbrev pub Ascending : List Range → Type 0
Ascending [] = Unit {0}
Ascending (r ∷ more) = (1 ≤ r.count) × BeginFrom (end_of r) more × Ascending more
