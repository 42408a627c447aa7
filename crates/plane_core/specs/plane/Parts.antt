-- Parts of a pattern that are so far apart that they don't meet for some generations.
use Rattle.std.specs.Prelude.{◌≡◌, ◌<◌, ◌≤◌, ◌*◌, ◌++◌, ℕ, true, List, length, take, drop, ◌-◌}
use Rattle.plane_core.specs.declared.plane.cell.Cell.{Cell}
use Rattle.plane_core.specs.plane.Cells.{InOrder, has, king_distance, plane_bound, set_of}
use Rattle.plane_core.specs.plane.Generations.{after, lies_within}
use Rattle.plane_core.specs.plane.Rules.{Numbers}

-- `later` is the pattern after n generations, and the pattern began so far from the edge that it is still on the plane
pub record HasRun (rule : Numbers) (cells : List Cell) (n : ℕ) (later : List Cell) : Type 0 where
  pub after : later ≡ after rule cells n
  pub inside : lies_within (plane_bound - n) cells ≡ true

-- each cell of one pattern is at king distance more than `far` from each cell of the other
abbrev pub LieFurther : ℕ → List Cell → List Cell → Type 0
LieFurther far one other = (c d : Cell) → has one c ≡ true → has other d ≡ true → far < king_distance c d

-- the list is split at `cut` into two nonempty parts that are further than `far` apart
pub record IsCut (far : ℕ) (cells : List Cell) (cut : ℕ) : Type 0 where
  pub some : 1 ≤ cut
  pub within : cut < length cells
  pub apart : LieFurther far (take cut cells) (drop cut cells)

-- two patterns that are further than 2g apart evolve for g generations as if each were alone
abbrev pub FarPatternsRunAlone : Type 0
FarPatternsRunAlone = (rule : Numbers) (one other : List Cell) (g : ℕ) → InOrder one → InOrder other → LieFurther (2 * g) one other
    → after rule (set_of (one ++ other)) g ≡ set_of (after rule one g ++ after rule other g)
