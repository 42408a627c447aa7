-- Laws of parts that run alone.
use Rattle.std.specs.Prelude.{◌≡◌, ◌≢◌, ◌<◌, ◌≤◌, ◌↔◌, ℕ, List, All, get_or, length}
use Rattle.plane_core.specs.declared.plane.cell.Cell.{Cell}
use Rattle.plane_core.specs.plane.Cells.{InOrder}
use Rattle.plane_core.specs.clusters.Clusters.{LieApart, Partition}
use Rattle.plane_core.specs.plane.Generations.{after}
use Rattle.plane_core.specs.plane.Rules.{Numbers}
use Rattle.survey_core.specs.rest.Groups.{GroupKeeps, GroupsStayApart}
use Rattle.survey_core.specs.rest.Rest.{KeepApart}

-- if the parts of a pattern, each run alone, stay more than two cells apart, they evolve in the pattern as they do
-- alone
abbrev pub PartsRunAlone : Type 0
PartsRunAlone = (rule : Numbers) (cells : List Cell) (parts : List (List Cell)) (n : ℕ) → InOrder cells → All InOrder parts → Partition cells parts
    → ((i j : ℕ) (d : List Cell) (g : ℕ) → i < length parts → j < length parts → i ≢ j → g ≤ n
    → LieApart (after rule (get_or parts i d) g) (after rule (get_or parts j d) g))
    → (g : ℕ) → g ≤ n → KeepApart rule cells parts g

-- up to generation n: if parts of different groups, each run alone, stay more than two cells apart, `KeepApart` holds
-- for the pattern and all its parts if and only if it holds for the union of each group and the parts of this group
abbrev pub GroupsRunAlone : Type 0
GroupsRunAlone = (rule : Numbers) (cells : List Cell) (groups : List ℕ) (parts : List (List Cell)) (n : ℕ) → InOrder cells → length groups ≡ length parts
    → Partition cells parts → GroupsStayApart rule groups parts n
    → ((i : ℕ) → i < length parts → GroupKeeps rule groups parts n (get_or groups i 0)) ↔ ((g : ℕ) → g ≤ n → KeepApart rule cells parts g)
