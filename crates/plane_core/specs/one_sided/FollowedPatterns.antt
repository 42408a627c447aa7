-- A pattern that is run alone in a window, generation by generation, to see whether it may recur.
use Rattle.std.specs.Prelude.{ℕ, ℤ, List, ⊤}
use Rattle.plane_core.specs.declared.one_sided.follow.Followed.{Followed}
use Rattle.plane_core.specs.declared.one_sided.follow.Followed.TheVariants.{NeverAgain, PerhapsAgain, Outgrown}
use Rattle.plane_core.specs.declared.plane.cell.Cell.{Cell}
use Rattle.plane_core.specs.plane.Generations.{NeverRecurs, after}
use Rattle.plane_core.specs.plane.Rules.{Numbers}
use Rattle.plane_core.specs.windows.LonePatterns.{FillsRows, Holds}

-- if window `start` holds a pattern, window `now` holds the pattern `made` generations later, and the pattern hasn't
-- recurred by then
pub record IsFollowed (rule : Numbers) (n : ℕ) (start now : List (List ℕ)) (made : ℕ) : Type 0 where
  pub held : (cells : List Cell) (left top : ℤ) → Holds n left top start cells → Holds n left top now (after rule cells made)
  pub new : (cells : List Cell) (left top : ℤ) → Holds n left top start cells → NeverRecurs rule cells made

-- what the outcome of following a pattern says about each pattern that window `start` holds
abbrev pub EndsInWindow : Followed → Numbers → ℕ → List (List ℕ) → List (List ℕ) → ℕ → Type 0
EndsInWindow NeverAgain rule n start now most = (cells : List Cell) (left top : ℤ) → Holds n left top start cells → NeverRecurs rule cells most
EndsInWindow PerhapsAgain rule n start now most = ⊤
EndsInWindow (Outgrown made) rule n start now most = IsFollowed rule n start now made

-- if the 64 rows of `start` hold a pattern, those of `now` hold the pattern `made` generations later, and the pattern
-- hasn't recurred by then
pub record IsFollowedInRows (rule : Numbers) (start now : List ℕ) (made : ℕ) : Type 0 where
  pub held : (cells : List Cell) (left top : ℤ) → FillsRows left top start cells → FillsRows left top now (after rule cells made)
  pub new : (cells : List Cell) (left top : ℤ) → FillsRows left top start cells → NeverRecurs rule cells made

-- what the outcome of following a pattern says about each pattern that the 64 rows of `start` hold
abbrev pub EndsInRows : Followed → Numbers → List ℕ → List ℕ → ℕ → Type 0
EndsInRows NeverAgain rule start now most = (cells : List Cell) (left top : ℤ) → FillsRows left top start cells → NeverRecurs rule cells most
EndsInRows PerhapsAgain rule start now most = ⊤
EndsInRows (Outgrown made) rule start now most = IsFollowedInRows rule start now made
