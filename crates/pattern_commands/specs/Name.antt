-- The behaviour of `census name`.
use Rattle.std.specs.Prelude.{◌++◌, ◌&&◌, true, is_ok, ℕ, List, Ok, codes, decimal, flat_map}
use Rattle.plane_core.specs.declared.plane.cell.Cell.{Cell}
use Rattle.plane_core.specs.plane.Rules.{Numbers}
use Rattle.survey_core.specs.declared.finding.Finding.{Finding}
use Rattle.survey_core.specs.declared.finding.Finding.TheVariants.{Settled, Unsettled}
use Rattle.survey_core.specs.Findings.{IsFinding}
use Rattle.survey_core.specs.Profiles.{Settling}
use Rattle.requests.specs.declared.plan.ProfileNumbers.{ProfileNumbers}
use Rattle.pattern_commands.specs.Answers.{Right, IsRightGiven, only}
use Rattle.pattern_commands.specs.Inputs.{pattern_of, rule_named}
use Rattle.pattern_commands.specs.Profiles.{profile_named}
use Rattle.pattern_commands.specs.Behaviours.{Behaviour, text_behaviour}

-- a code and the number of objects that have it, as a line
abbrev pub object_line : List ℕ × ℕ → List ℕ
object_line object = object.0 ++ (codes " " ++ decimal object.1 ++ codes "\n")

-- the lines of a finding: `settled` with the checkpoint and then a line for each code, or the single line `unsettled`
abbrev pub finding_text : Finding → List ℕ
finding_text (Settled checkpoint objects for_good) = codes "settled " ++ decimal checkpoint ++ codes "\n" ++ flat_map object_line objects
finding_text Unsettled = codes "unsettled\n"

-- the answer is the text of the pattern's finding
abbrev pub TellsFinding : Numbers → Settling → List Cell → Right
TellsFinding rule profile cells answer = (finding : Finding) × IsFinding rule profile cells finding × only (Ok (finding_text finding)) answer

-- the right answers of `name`: the profile is checked first, then the rule, and then the input
abbrev pub name_right : ProfileNumbers → List ℕ → List ℕ → Right
name_right numbers rule_text bytes =
    IsRightGiven (profile_named numbers) (λ profile. IsRightGiven (rule_named rule_text) (λ rule. IsRightGiven (pattern_of bytes) (TellsFinding rule profile)))

-- the behaviour of `name`; the input is read if the profile and the rule are valid
abbrev pub name_behaviour : ProfileNumbers → List ℕ → Behaviour
name_behaviour numbers rule_text =
    text_behaviour (is_ok (profile_named numbers) && is_ok (rule_named rule_text)) true (λ bytes. name_right numbers rule_text bytes)
