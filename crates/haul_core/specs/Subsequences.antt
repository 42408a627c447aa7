-- Subsequences: the items of a list in the same order, with some of them left out.
use Rattle.std.specs.Prelude.{◌≡◌, ◌⊎◌, List, [], ◌∷◌}

-- the part has the items of the list in the same order, but any number of them may be left out
abbrev pub IsSubsequence : {X : Type 0} → List X → List X → Type 0
IsSubsequence part [] = part ≡ []
IsSubsequence part (x ∷ xs) = IsSubsequence part xs ⊎ ((remainder : _) × (part ≡ x ∷ remainder) × IsSubsequence remainder xs)
