-- The law that a pattern has at most one finding.
use Rattle.std.specs.Prelude.{◌≡◌, List}
use Rattle.plane_core.specs.declared.plane.cell.Cell.{Cell}
use Rattle.plane_core.specs.plane.Rules.{Numbers}
use Rattle.survey_core.specs.declared.finding.Finding.{Finding}
use Rattle.survey_core.specs.Findings.{IsFinding}
use Rattle.survey_core.specs.Profiles.{Settling}

-- a pattern has at most one finding
abbrev pub FindingsAreDetermined : Type 0
FindingsAreDetermined = (rule : Numbers) (profile : Settling) (cells : List Cell) (one other : Finding)
    → IsFinding rule profile cells one → IsFinding rule profile cells other → one ≡ other
