-- A board, and the spaceships that were removed from it.
use Rattle.std.specs.Prelude.{◌≡◌, ◌≢◌, ◌+◌, ◌*◌, ◌-◌, ◌≤◌, ℕ, ℤ, pos, ◌+ℤ◌, true, List, ◌∷◌, All, map, unsigned_abs}
use Rattle.plane_core.specs.declared.plane.cell.Cell.{Cell}
use Rattle.plane_core.specs.declared.plane.orientation.Orientation.{Orientation}
use Rattle.plane_core.specs.plane.Cells.{InOrder}
use Rattle.plane_core.specs.clusters.Clusters.{IsCluster}
use Rattle.plane_core.specs.plane.Frontiers.{LiesUpTo, is_slow}
use Rattle.plane_core.specs.plane.Generations.{after, lies_within}
use Rattle.plane_core.specs.plane.Rules.{Numbers}
use Rattle.survey_core.specs.declared.evolution.split_pattern.SplitPattern.{SplitPattern}
use Rattle.survey_core.specs.declared.evolution.escaped_spaceships.Spaceship.{Spaceship}
use Rattle.survey_core.specs.rest.Groups.{union_of}
use Rattle.survey_core.specs.UnderWay.{survey_reach}
use Rattle.survey_core.specs.evolution.EscapedSpaceships.{IsAheadOf, IsPartOf, IsSpaceship}

-- the cells of a spaceship at time t
abbrev pub spaceship_at : Numbers → ℕ → Spaceship → List Cell
spaceship_at rule t spaceship = after rule spaceship.cells (t - spaceship.since)

-- the whole pattern at time t: what the board shows, and the spaceships
abbrev pub whole_at : Numbers → ℕ → List Cell → List Spaceship → List Cell
whole_at rule t board spaceships = union_of (board ∷ map (spaceship_at rule t) spaceships)

-- none of the spaceships consisted of exactly these cells when it was removed
abbrev pub IsNoneOf : List Spaceship → List Cell → Type 0
IsNoneOf spaceships cells = All (λ spaceship. spaceship.cells ≢ cells) spaceships

-- Clusters of an earlier board, some of which may have been removed as spaceships since then. The others are still
-- parts of the board.
pub record AreCandidates (board : List Cell) (spaceships : List Spaceship) (clusters : List (List Cell)) : Type 0 where
  pub before : List Cell
  pub each : All (IsCluster before) clusters
  pub still : (cluster : List Cell) → IsCluster before cluster → IsNoneOf spaceships cluster → IsPartOf board cluster

-- The rule is slow. The spaceship was removed from the board an even number of generations ago, twice `half`. It was
-- ahead of the board in a diagonal direction then, and the board's depth in this direction has since grown by at most
-- one in two generations.
pub record IsOff (rule : Numbers) (t : ℕ) (board : List Cell) (spaceship : Spaceship) : Type 0 where
  pub slow : is_slow rule ≡ true
  pub half : ℕ
  pub age : t ≡ spaceship.since + 2 * half
  pub way : Orientation
  pub m : ℤ
  pub ahead : IsAheadOf rule way m spaceship.recurrence spaceship.cells
  pub behind : LiesUpTo way (m +ℤ pos half) board

-- no spaceship ever meets the rest again: the whole pattern evolves as the board and each spaceship do, each run alone
pub record AreOff (rule : Numbers) (t : ℕ) (board : List Cell) (spaceships : List Spaceship) : Type 0 where
  pub in_order : InOrder board
  pub each : All (IsOff rule t board) spaceships
  pub alone : (g : ℕ) → after rule (whole_at rule t board spaceships) g ≡ whole_at rule (t + g) (after rule board g) spaceships

-- the spaceship's numbers are small, so that its cells can be computed for any time of a survey
pub record HasSmallNumbers (spaceship : Spaceship) : Type 0 where
  pub near : lies_within survey_reach spaceship.cells ≡ true
  pub period : spaceship.recurrence.period ≤ 64
  pub across : unsigned_abs spaceship.recurrence.dx ≤ 64
  pub down : unsigned_abs spaceship.recurrence.dy ≤ 64

-- the position of the spaceship at time t can be computed
pub record IsTraced (rule : Numbers) (t : ℕ) (spaceship : Spaceship) : Type 0 where
  pub comes : IsSpaceship rule spaceship.recurrence spaceship.cells
  pub small : HasSmallNumbers spaceship
  pub since : spaceship.since ≤ t

-- the latest time at which spaceships may be off a board: until then none of them comes near the edge of the plane
abbrev pub latest_time : ℕ
latest_time = 800000

-- a board and the spaceships that were removed from it, at a time at which all their positions can be computed
pub record IsSplitAt (rule : Numbers) (t : ℕ) (board : List Cell) (spaceships : List Spaceship) : Type 0 where
  pub off : AreOff rule t board spaceships
  pub small : All HasSmallNumbers spaceships
  pub early : t ≤ latest_time

-- a board under the rule, and the spaceships that were removed from it
abbrev pub IsSplit : Numbers → SplitPattern → Type 0
IsSplit rule split = (split.board.rule ≡ rule) × IsSplitAt rule split.time split.board.cells split.spaceships.items

-- the whole pattern of a split pattern: what its board shows, and its spaceships
abbrev pub whole_of : Numbers → SplitPattern → List Cell
whole_of rule split = whole_at rule split.time split.board.cells split.spaceships.items
