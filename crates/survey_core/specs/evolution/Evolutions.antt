-- A pattern as it evolves: a list of cells, or a board and the spaceships that were removed from it.
use Rattle.std.specs.Prelude.{◌≡◌, ◌≤◌, List, true}
use Rattle.plane_core.specs.declared.plane.cell.Cell.{Cell}
use Rattle.plane_core.specs.plane.Generations.{after, lies_within}
use Rattle.plane_core.specs.plane.Rules.{Numbers}
use Rattle.survey_core.specs.evolution.SplitPatterns.{IsSplit, whole_of}
use Rattle.survey_core.specs.UnderWay.{survey_reach}
use Rattle.survey_core.specs.declared.evolution.Evolution.{Evolution}
use Rattle.survey_core.specs.declared.evolution.Evolution.TheVariants.{Listed, Shown}

-- the pattern as it is now: the listed cells, or the whole split pattern `ahead` generations later
abbrev pub kept : Numbers → Evolution → List Cell
kept rule (Listed cells) = cells
kept rule (Shown split ahead) = after rule (whole_of rule split) ahead

-- the list, or the whole split pattern, lies within the reach of a survey; a split pattern is run under this rule, and
-- the pattern is at most one generation ahead of it
abbrev pub IsKept : Numbers → Evolution → Type 0
IsKept rule (Listed cells) = lies_within survey_reach cells ≡ true
IsKept rule (Shown split ahead) = IsSplit rule split × (ahead ≤ 1) × (lies_within survey_reach (whole_of rule split) ≡ true)
