-- When a pattern is at rest: each of its clusters recurs, and up to the horizon no cluster influences another.
use Rattle.std.specs.Prelude.{◌≤◌, ℕ, List, All, map}
use Rattle.plane_core.specs.declared.plane.cell.Cell.{Cell}
use Rattle.plane_core.specs.clusters.Clusters.{AreClusters, Partition}
use Rattle.plane_core.specs.plane.Generations.{after}
use Rattle.plane_core.specs.plane.Rules.{Numbers}
use Rattle.survey_core.specs.Profiles.{Settling}
use Rattle.survey_core.specs.shapes.RecurringShapes.{RecursWithin}

-- after g generations the parts, each run alone, share no cell, and together they are the whole
abbrev pub KeepApart : Numbers → List Cell → List (List Cell) → ℕ → Type 0
KeepApart rule cells parts g = Partition (after rule cells g) (map (λ part. after rule part g) parts)

-- a pattern with these clusters is at rest: each recurs within the period, and up to the horizon they keep apart
pub record RestsAs (rule : Numbers) (profile : Settling) (cells : List Cell) (clusters : List (List Cell)) : Type 0 where
  pub parts : AreClusters cells clusters
  pub back : All (RecursWithin rule profile.period) clusters
  pub apart : (g : ℕ) → g ≤ profile.horizon → KeepApart rule cells clusters g

-- the pattern is at rest
abbrev pub IsAtRest : Numbers → Settling → List Cell → Type 0
IsAtRest rule profile cells = (clusters : List (List Cell)) × RestsAs rule profile cells clusters
