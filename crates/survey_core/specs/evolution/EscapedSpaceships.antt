-- Spaceships ahead of the rest of a pattern. Under a slow rule, the rest never comes near them, so they evolve alone.
use Rattle.std.specs.Prelude.{◌≡◌, ◌+◌, ◌*◌, ◌<◌, ◌≤◌, ℕ, ℤ, pos, ◌+ℤ◌, ◌*ℤ◌, ◌≤ℤ◌, ◌||◌, true, List}
use Rattle.plane_core.specs.declared.plane.cell.Cell.{Cell}
use Rattle.plane_core.specs.declared.plane.orientation.Orientation.{Orientation}
use Rattle.plane_core.specs.plane.Bounds.{IsWithin, shifted}
use Rattle.plane_core.specs.plane.Cells.{InOrder, cell_at, has}
use Rattle.plane_core.specs.clusters.Clusters.{LieApart}
use Rattle.plane_core.specs.plane.Frontiers.{LiesUpTo, depth, is_slow}
use Rattle.plane_core.specs.plane.Generations.{after}
use Rattle.plane_core.specs.plane.Orientations.{turned_cell}
use Rattle.plane_core.specs.plane.Rules.{Numbers}
use Rattle.plane_core.specs.plane.Without.{without}
use Rattle.code_core.specs.declared.recurrence.Recurrence.{Recurrence}
use Rattle.survey_core.specs.declared.shapes.envelope_bounds.EnvelopeBounds.{EnvelopeBounds}

-- each cell of the pattern, turned by the orientation, has at least this depth
abbrev pub LiesFrom : Orientation → ℤ → List Cell → Type 0
LiesFrom o m cells = (c : Cell) → has cells c ≡ true → m ≤ℤ depth (turned_cell o c)

-- a pattern that recurs with this period and displacement, its cells in order
pub record IsSpaceship (rule : Numbers) (r : Recurrence) (cells : List Cell) : Type 0 where
  pub in_order : InOrder cells
  pub some : 1 ≤ r.period
  pub back : after rule cells r.period ≡ shifted r.dx r.dy cells

-- A spaceship that is ahead of everything up to depth m in a diagonal direction: on average, its depth grows by at
-- least 1 in two generations, and all phases of its first period lie far enough past m.
pub record IsAheadOf (rule : Numbers) (way : Orientation) (m : ℤ) (r : Recurrence) (spaceship : List Cell) : Type 0 where
  pub comes : IsSpaceship rule r spaceship
  pub fast : pos r.period ≤ℤ (pos 2 *ℤ depth (turned_cell way (cell_at r.dx r.dy)))
  pub from : ℤ
  pub none_behind : (g : ℕ) → g < r.period → LiesFrom way from (after rule spaceship g)
  pub room : ((pos 2 *ℤ m) +ℤ pos (r.period + 10)) ≤ℤ (pos 2 *ℤ from)

-- Under a slow rule, a pattern behind the spaceship stays more than two cells away from it. The pattern is behind if it
-- lies up to depth m + k when the spaceship is n generations old, and k is at most half of n + 1.
abbrev pub SpaceshipsStayAhead : Type 0
SpaceshipsStayAhead = (rule : Numbers) (way : Orientation) (m : ℤ) (r : Recurrence) (spaceship cells : List Cell) (n k g : ℕ) → is_slow rule ≡ true
    → IsAheadOf rule way m r spaceship → InOrder cells → LiesUpTo way (m +ℤ pos k) cells → 2 * k ≤ n + 1
    → LieApart (after rule cells g) (after rule spaceship (n + g))

-- every cell in `cells` is also in `whole`
abbrev pub IsPartOf : List Cell → List Cell → Type 0
IsPartOf whole cells = (c : Cell) → has cells c ≡ true → has whole c ≡ true

-- a part of the pattern that is ahead of all the rest of it
pub record IsForemost (rule : Numbers) (whole : List Cell) (r : Recurrence) (spaceship : List Cell) : Type 0 where
  pub part : IsPartOf whole spaceship
  pub way : Orientation
  pub m : ℤ
  pub ahead : IsAheadOf rule way m r spaceship
  pub behind : LiesUpTo way m (without whole spaceship)

-- under a slow rule, a pattern with a foremost part evolves as this part and the rest do, each run alone
abbrev pub SpaceshipsRunAlone : Type 0
SpaceshipsRunAlone = (rule : Numbers) (whole : List Cell) (r : Recurrence) (spaceship : List Cell) → is_slow rule ≡ true → InOrder whole
    → IsForemost rule whole r spaceship
    → (g : ℕ) (c : Cell) → has (after rule whole g) c ≡ (has (after rule (without whole spaceship) g) c || has (after rule spaceship g) c)

-- the box of all phases of a spaceship begins so far past depth m that the spaceship has room to stay ahead
pub record BeginsPast (way : Orientation) (m : ℤ) (envelope : EnvelopeBounds) : Type 0 where
  pub from : ℤ
  pub least : (c : Cell) → IsWithin envelope.bounds c → from ≤ℤ depth (turned_cell way c)
  pub room : ((pos 2 *ℤ m) +ℤ pos (envelope.recurrence.period + 10)) ≤ℤ (pos 2 *ℤ from)
