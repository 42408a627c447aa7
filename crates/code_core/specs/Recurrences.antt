-- When a pattern recurs, in place or elsewhere (LifeWiki, "Oscillator" and "Spaceship").
use Rattle.std.specs.Prelude.{◌≡◌, ◌≢◌, ◌+◌, ◌<◌, ◌≤◌, ℕ, ℤ, true, false, List, Option, Result, Err, IfNone, IfOk, IfSome, IsErrOf, OnOk, map}
use Rattle.std.specs.List.{range_with_len}
use Rattle.plane_core.specs.declared.plane.cell.Cell.{Cell}
use Rattle.plane_core.specs.declared.generation.StepError.{StepError}
use Rattle.plane_core.specs.declared.generation.StepError.TheVariants.{Edge}
use Rattle.plane_core.specs.plane.Bounds.{shifted}
use Rattle.plane_core.specs.plane.Cells.{plane_bound}
use Rattle.plane_core.specs.plane.Generations.{NeverRecurs, after, lies_within, touches_edge}
use Rattle.plane_core.specs.plane.Rules.{Numbers}
use Rattle.code_core.specs.declared.recurrence.Recurrence.{Recurrence}

-- the pattern recurs: after the period, which is from 1 to the limit, it is the same pattern again, moved by (dx, dy),
-- and none of the generations in between is the pattern again, moved or not
pub record Recurs (rule : Numbers) (cells : List Cell) (limit : ℕ) (r : Recurrence) : Type 0 where
  pub some : 1 ≤ r.period
  pub within : r.period ≤ limit
  pub back : after rule cells r.period ≡ shifted r.dx r.dy cells
  pub least : (p : ℕ) (dx dy : ℤ) → 1 ≤ p → p < r.period → after rule cells p ≢ shifted dx dy cells

-- the search meets the edge: a generation below the limit touches the edge of the plane, and the pattern hasn't
-- recurred up to that generation
abbrev pub MeetsEdge : Numbers → List Cell → ℕ → Type 0
MeetsEdge rule cells limit = (g : ℕ) × (g < limit) × NeverRecurs rule cells g × (touches_edge (after rule cells g) ≡ true)

-- the search stays inside: as long as the pattern hasn't recurred, no generation below the limit touches the edge of
-- the plane
abbrev pub StaysInside : Numbers → List Cell → ℕ → Type 0
StaysInside rule cells limit = (g : ℕ) → g < limit → NeverRecurs rule cells g → touches_edge (after rule cells g) ≡ false

-- How the search for a recurrence of a pattern ends. If the pattern itself touches the edge, that is reported before
-- memory is asked for. If the pattern is far enough inside, the edge is never reported, because no pattern moves faster
-- than one cell per generation.
pub record SearchEnds {X : Type 0} (IsFound : X → Type 0) (rule : Numbers) (cells : List Cell) (limit : ℕ)
    (result : Result (Option X) StepError) : Type 0 where
  pub found : IfOk result (λ o. IfSome o IsFound)
  pub never : IfOk result (λ o. IfNone o (NeverRecurs rule cells limit))
  pub inside : OnOk result (StaysInside rule cells limit)
  pub edge : IsErrOf result Edge → MeetsEdge rule cells limit
  pub edge_first : touches_edge cells ≡ true → result ≡ Err Edge
  pub never_edge : (reach : ℕ) → lies_within reach cells ≡ true → reach + limit ≤ plane_bound → result ≢ Err Edge

-- the first n generations, beginning with the pattern itself
unfoldable pub phases : Numbers → List Cell → ℕ → List (List Cell)
phases rule cells n = map (after rule cells) (range_with_len 0 n)

-- The state of the search for a recurrence of a pattern: the pattern hasn't recurred up to generation n, and no
-- generation before n touches the edge. `before` has the generations before n, and `last` is generation n.
pub record Follows (rule : Numbers) (cells : List Cell) (n : ℕ) (before : List (List Cell)) (last : List Cell) : Type 0 where
  pub earlier : before ≡ phases rule cells n
  pub latest : last ≡ after rule cells n
  pub new : NeverRecurs rule cells n
  pub inside : (g : ℕ) → g < n → touches_edge (after rule cells g) ≡ false

-- the phases of a pattern that recurs, in order, and its recurrence
pub record IsCycle (rule : Numbers) (cells : List Cell) (limit : ℕ) (found : List (List Cell)) (r : Recurrence) : Type 0 where
  pub recurs : Recurs rule cells limit r
  pub phases : found ≡ phases rule cells r.period
