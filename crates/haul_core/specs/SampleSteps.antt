-- How samples are kept, one number at a time.
use Rattle.std.specs.Prelude.{ℕ, List, [], ◌∷◌, take, nat_le, if◌then◌else◌}

-- the list with n inserted before the first number that isn't lower
abbrev pub with_number : ℕ → List ℕ → List ℕ
with_number n [] = n ∷ []
with_number n (x ∷ more) = if nat_le n x then n ∷ x ∷ more else x ∷ with_number n more

-- the numbers in ascending order
abbrev pub ascending : List ℕ → List ℕ
ascending [] = []
ascending (n ∷ more) = with_number n (ascending more)

-- the three lowest of the numbers, ascending, or all if there are fewer
abbrev pub least_three : List ℕ → List ℕ
least_three numbers = take 3 (ascending numbers)

-- xs after the other numbers were inserted one by one, and only the three lowest were kept after each insertion
abbrev pub with_each : List ℕ → List ℕ → List ℕ
with_each xs [] = xs
with_each xs (n ∷ more) = with_each (take 3 (with_number n xs)) more
