-- Samples: the three lowest numbers of a list.
use Rattle.std.specs.Prelude.{◌≡◌, ◌≤◌, ◌⊎◌, ◌++◌, ℕ, List, [], ◌∷◌, All, count_by, length, nat_eq}

-- no number is lower than the one before
abbrev pub IsAscending : List ℕ → Type 0
IsAscending [] = Unit {0}
IsAscending (x ∷ []) = Unit {0}
IsAscending (x ∷ y ∷ more) = (x ≤ y) × IsAscending (y ∷ more)

-- both lists have the same numbers, each equally often, in any order
abbrev pub AreSameNumbers : List ℕ → List ℕ → Type 0
AreSameNumbers numbers others = (n : ℕ) → count_by (nat_eq n) numbers ≡ count_by (nat_eq n) others

-- `least` has the three lowest of the numbers, ascending, or all if there are fewer. `others` has the rest, and no
-- number of `others` is lower than a number of `least`.
pub record AreLeastThree (numbers least : List ℕ) : Type 0 where
  pub others : List ℕ
  pub all : (n : ℕ) → count_by (nat_eq n) (least ++ others) ≡ count_by (nat_eq n) numbers
  pub ascending : IsAscending least
  pub lower : All (λ m. All (λ n. m ≤ n) others) least
  pub few : length least ≤ 3
  pub three : (length least ≡ 3) ⊎ (others ≡ [])

-- a list of numbers has only one list of its three lowest numbers
abbrev pub LeastThreeAreDetermined : Type 0
LeastThreeAreDetermined = (numbers one other : List ℕ) → AreLeastThree numbers one → AreLeastThree numbers other → one ≡ other
