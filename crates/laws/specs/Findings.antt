-- Laws of findings: moving and turning keep a finding, and the counts of objects add up to the number of clusters.
use Rattle.std.specs.Prelude.{◌≡◌, ℕ, ℤ, List, length, sum}
use Rattle.std.specs.Map.{values_of}
use Rattle.plane_core.specs.declared.plane.cell.Cell.{Cell}
use Rattle.plane_core.specs.declared.plane.orientation.Orientation.{Orientation}
use Rattle.plane_core.specs.plane.Bounds.{shifted}
use Rattle.plane_core.specs.plane.Cells.{InOrder}
use Rattle.plane_core.specs.plane.Orientations.{image, turned}
use Rattle.plane_core.specs.plane.Rules.{Numbers}
use Rattle.survey_core.specs.declared.finding.Finding.{Finding}
use Rattle.survey_core.specs.Findings.{IsFinding}
use Rattle.survey_core.specs.Profiles.{Settling}
use Rattle.survey_core.specs.shapes.Objects.{AreObjectsOf}

-- a pattern that is moved keeps its finding
abbrev pub FindingsMoved : Type 0
FindingsMoved = (dx dy : ℤ) (rule : Numbers) (profile : Settling) (cells : List Cell) (finding : Finding)
    → InOrder cells → IsFinding rule profile cells finding → IsFinding rule profile (shifted dx dy cells) finding

-- a pattern that is turned or mirrored about the origin keeps its finding
abbrev pub FindingsOfImages : Type 0
FindingsOfImages = (o : Orientation) (rule : Numbers) (profile : Settling) (cells : List Cell) (finding : Finding)
    → InOrder cells → IsFinding rule profile cells finding → IsFinding rule profile (image o cells) finding

-- a pattern that is turned or mirrored, and then moved so that its bounding box begins at the origin, keeps its finding
abbrev pub FindingsTurned : Type 0
FindingsTurned = (o : Orientation) (rule : Numbers) (profile : Settling) (cells : List Cell) (finding : Finding)
    → InOrder cells → IsFinding rule profile cells finding → IsFinding rule profile (turned o cells) finding

-- the counts of the objects add up to the number of clusters
abbrev pub CountsAddUp : Type 0
CountsAddUp = (rule : Numbers) (limit : ℕ) (clusters : List (List Cell)) (objects : List (List ℕ × ℕ))
    → AreObjectsOf rule limit clusters objects → sum (values_of objects) ≡ length clusters
