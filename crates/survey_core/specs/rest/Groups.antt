-- Groups of parts: each part has the number of its group.
use Rattle.std.specs.Prelude.{◌≡◌, ◌≢◌, ◌<◌, ◌≤◌, ◌==◌, ℕ, List, [], ◌∷◌, true, false, AllPairs, cond, flat_map, get_or, length, if◌then◌else◌}
use Rattle.plane_core.specs.declared.plane.cell.Cell.{Cell}
use Rattle.plane_core.specs.plane.Cells.{has, set_of}
use Rattle.plane_core.specs.clusters.Clusters.{LieApart}
use Rattle.plane_core.specs.plane.Generations.{after}
use Rattle.plane_core.specs.plane.Rules.{Numbers}
use Rattle.survey_core.specs.rest.Rest.{KeepApart}

-- the parts of group k
unfoldable pub members : ℕ → List ℕ → List (List Cell) → List (List Cell)
members k [] parts = []
members k (g ∷ gs) [] = []
members k (g ∷ gs) (part ∷ parts) = cond (g == k) (part ∷ members k gs parts) (members k gs parts)

-- the cells of all parts, as a pattern
abbrev pub union_of : List (List Cell) → List Cell
union_of parts = set_of (flat_map (λ part. part) parts)

-- no two of the parts share a cell
abbrev pub ShareNoCell : List (List Cell) → Type 0
ShareNoCell parts = AllPairs (λ a b. (c : Cell) → has a c ≡ true → has b c ≡ false) parts

-- parts of different groups, each run alone, stay at king distance 3 or more from each other up to generation n
abbrev pub GroupsStayApart : Numbers → List ℕ → List (List Cell) → ℕ → Type 0
GroupsStayApart rule groups parts n = (i j : ℕ) (d : List Cell) (g : ℕ) → i < length parts → j < length parts → get_or groups i 0 ≢ get_or groups j 0
    → g ≤ n → LieApart (after rule (get_or parts i d) g) (after rule (get_or parts j d) g)

-- up to generation n, the parts of group k, each run alone, share no cell, and together they are the same as their
-- union, run as one pattern
abbrev pub GroupKeeps : Numbers → List ℕ → List (List Cell) → ℕ → ℕ → Type 0
GroupKeeps rule groups parts n k = (g : ℕ) → g ≤ n → KeepApart rule (union_of (members k groups parts)) (members k groups parts) g

-- the number k, or `to` if k is `from`
abbrev pub renamed : ℕ → ℕ → ℕ → ℕ
renamed from to k = if k == from then to else k
