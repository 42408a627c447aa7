-- Which numbers of a set are taken, and which are missing.
use Rattle.std.specs.Prelude.{◌≡◌, ℕ, Bool, true, not, List, count_by, filter, flat_map, nat_eq, if◌then◌else◌}
use Rattle.std.specs.List.{list_any, range_with_len}
use Rattle.ranges.specs.declared.range.Range.{Range}
use Rattle.haul_core.specs.Keeping.{numbers_in}
use Rattle.ranges.specs.Ranges.{is_in}

-- the numbers of a range
abbrev pub numbers_of_range : Range → List ℕ
numbers_of_range range = range_with_len range.first range.count

-- the numbers of the set, range by range; they ascend if the ranges are in normal form
abbrev pub numbers_of : List Range → List ℕ
numbers_of ranges = flat_map numbers_of_range ranges

-- a soup with this number has been taken
abbrev pub is_taken : List (ℕ × ℕ) → ℕ → Bool
is_taken taken n = list_any (nat_eq n) (numbers_in taken)

-- the numbers of the set that haven't been taken
abbrev pub missing_of : List Range → List (ℕ × ℕ) → List ℕ
missing_of ranges taken = filter (λ n. not (is_taken taken n)) (numbers_of ranges)

-- each number of the set has been taken
abbrev pub IsComplete : List Range → List (ℕ × ℕ) → Type 0
IsComplete ranges taken = (n : ℕ) → is_in ranges n ≡ true → is_taken taken n ≡ true

-- these are the numbers of the set, each once, in any order
abbrev pub AreAll : List Range → List ℕ → Type 0
AreAll ranges numbers = (n : ℕ) → count_by (nat_eq n) numbers ≡ (if is_in ranges n then 1 else 0)
