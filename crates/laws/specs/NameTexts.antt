-- The lines that `name` prints determine the finding.
use Rattle.std.specs.Prelude.{◌≡◌, List, true}
use Rattle.plane_core.specs.declared.plane.cell.Cell.{Cell}
use Rattle.plane_core.specs.plane.Generations.{lies_within}
use Rattle.plane_core.specs.plane.Rules.{Numbers}
use Rattle.survey_core.specs.declared.finding.Finding.{Finding}
use Rattle.survey_core.specs.Findings.{IsFinding}
use Rattle.survey_core.specs.Profiles.{IsProfile, Settling}
use Rattle.pattern_commands.specs.Name.{finding_text}

-- If `name` prints the same lines for two patterns within 1,000 columns and rows of the origin, under one rule and
-- profile, both have the same finding. The mark `for good` of a finding isn't printed, but follows from the objects.
abbrev pub NameTextsAreFaithful : Type 0
NameTextsAreFaithful = (rule : Numbers) (profile : Settling) (cells others : List Cell) (one other : Finding) → IsProfile profile
    → lies_within 1000 cells ≡ true → lies_within 1000 others ≡ true → IsFinding rule profile cells one → IsFinding rule profile others other
    → finding_text one ≡ finding_text other → one ≡ other
