-- The headline: what `take`, `name` and `gather` have printed when the program ends with exit code 0. For `gather`,
-- also what it has printed when soups are missing, which is exit code 6.
--
-- A call is the program's name, the name of a command, and uses of its options: each at most once, in any order, with a
-- permitted value. An option that isn't used has its default.
use Rattle.std.specs.Prelude.{◌≡◌, ◌≤◌, ◌↔◌, ◌++◌, false, true, ℕ, List, [], ◌∷◌, Option, Ok, count_by, nat_eq}
use Rattle.std.specs.List.{list_any}
use Rattle.std.specs.Io.KnownBytes.{Appends}
use Rattle.plane_core.specs.declared.plane.cell.Cell.{Cell}
use Rattle.plane_core.specs.Plaintext.{pattern}
use Rattle.plane_core.specs.plane.Rules.{IsRule, Numbers, rule_text}
use Rattle.survey_core.specs.declared.finding.Finding.{Finding}
use Rattle.survey_core.specs.declared.job.Job.{Job}
use Rattle.survey_core.specs.Findings.{IsFinding}
use Rattle.ranges.specs.declared.range.Range.{Range}
use Rattle.ranges.specs.RangeLists.{FitU64, list_text}
use Rattle.ranges.specs.Ranges.{IsNormalForm, is_in}
use Rattle.haul_core.specs.declared.book.census.Census.{Census}
use Rattle.haul_core.specs.Censuses.{IsCensus}
use Rattle.haul_core.specs.HaulTexts.{haul_text}
use Rattle.haul_core.specs.Missing.{AreAll}
use Rattle.commands.specs.CorrectLines.{HasCorrectLine}
use Rattle.pattern_commands.specs.Answers.{IsInput}
use Rattle.pattern_commands.specs.Name.{finding_text}
use Rattle.pattern_commands.specs.Profiles.{settling}
use Rattle.arguments.specs.Entries.{Command}
use Rattle.arguments.specs.GivenValues.{number_given, profile_given, text_given}
use Rattle.arguments.specs.LawfulUses.{AreUses, lacks_some}
use Rattle.arguments.specs.Requests.{Text}
use Rattle.arguments.specs.Table.{also, count, first, gather_command, name_command, rule, seed, take_command, workers}
use Rattle.arguments.specs.Uses.{Use, arguments_in}

-- the arguments are a call of the command with these uses, and no required option is missing
pub record IsCall (command : Command) (uses : List Use) (arguments : List Text) : Type 0 where
  pub program : Text
  pub spelled : arguments ≡ program ∷ command.name ∷ arguments_in uses
  pub permitted : AreUses command uses
  pub complete : lacks_some command uses ≡ false

-- the text spells the rule, as b3s23 spells Life
pub record IsRuleOf (text : List ℕ) (rule : Numbers) : Type 0 where
  pub complete : IsRule rule
  pub spelled : rule_text rule ≡ text

-- the job of a call: its seed, rule and profile
pub record IsJobOf (uses : List Use) (job : Job) : Type 0 where
  pub seed_is : job.seed ≡ text_given seed uses
  pub rule_is : IsRuleOf (text_given rule uses) job.rule
  pub profile_is : job.profile ≡ settling (profile_given uses)

-- the soups of a call: those of `--first` and `--count`, and the ranges that are written in `--also`
pub record AreSoupsOf (uses : List Use) (ranges : List Range) : Type 0 where
  pub listed : List Range
  pub fit : FitU64 listed
  pub spelled : list_text listed ≡ text_given also uses
  pub all : ranges ≡ listed ++ record { first = number_given first uses; count = number_given count uses } ∷ []

-- the census of a call: the census for the call's job over all soups of the call, each counted once
pub record IsCensusOfCall (uses : List Use) (census : Census) : Type 0 where
  pub job : Job
  pub job_is : IsJobOf uses job
  pub ranges : List Range
  pub soups : AreSoupsOf uses ranges
  pub numbers : List ℕ
  pub all : AreAll ranges numbers
  pub normal : List Range
  pub form : IsNormalForm ranges normal
  pub counted : IsCensus job normal numbers census

-- a call of `take` has printed the haul text of its census
abbrev pub TakePrintsItsCensus : List Text → (before after : Option (List ℕ)) → Type 0
TakePrintsItsCensus arguments before after = (uses : List Use) → IsCall take_command uses arguments
    → (census : Census) × IsCensusOfCall uses census × Appends before after (haul_text census)

-- the finding of the pattern in an input, under the rule and profile of a call
pub record IsFindingOf (uses : List Use) (bytes : List ℕ) (finding : Finding) : Type 0 where
  pub rule_of : Numbers
  pub rule_is : IsRuleOf (text_given rule uses) rule_of
  pub cells : List Cell
  pub read : pattern bytes ≡ Ok cells
  pub found : IsFinding rule_of (settling (profile_given uses)) cells finding

-- a call of `name` has printed the lines of its finding
abbrev pub NamePrintsItsFinding : List Text → (reader before after : Option (List ℕ)) → Type 0
NamePrintsItsFinding arguments reader before after = (uses : List Use) → IsCall name_command uses arguments
    → (bytes : List ℕ) × IsInput reader bytes
    × ((finding : Finding) × IsFindingOf uses bytes finding × Appends before after (finding_text finding))

-- The census over those soups of a call of `gather` for which the input has a correct line. The exit code is 0 if and
-- only if every soup of the call has such a line.
pub record IsCensusOfLines (uses : List Use) (bytes : List ℕ) (code : ℕ) (census : Census) : Type 0 where
  pub job : Job
  pub job_is : IsJobOf uses job
  pub ranges : List Range
  pub soups : AreSoupsOf uses ranges
  pub numbers : List ℕ
  pub once : (n : ℕ) → count_by (nat_eq n) numbers ≤ 1
  pub correct : (n : ℕ) → (list_any (nat_eq n) numbers ≡ true)
      ↔ ((is_in ranges n ≡ true) × HasCorrectLine job (number_given workers uses) bytes n)
  pub normal : List Range
  pub form : IsNormalForm ranges normal
  pub counted : IsCensus job normal numbers census
  pub complete : (code ≡ 0) ↔ ((n : ℕ) → is_in ranges n ≡ true → HasCorrectLine job (number_given workers uses) bytes n)

-- a call of `gather` that ended with this exit code has printed the haul text of the soups with correct lines
abbrev pub GatherPrintsItsLines : List Text → (reader before after : Option (List ℕ)) → (code : ℕ) → Type 0
GatherPrintsItsLines arguments reader before after code = (uses : List Use) → IsCall gather_command uses arguments
    → (bytes : List ℕ) × IsInput reader bytes
    × ((census : Census) × IsCensusOfLines uses bytes code census × Appends before after (haul_text census))

-- the headline: what a call of `take`, `name` or `gather` has printed if it ended with exit code 0
pub record PrintsWhatIsAsked (arguments : List Text) (reader before after : Option (List ℕ)) : Type 0 where
  pub take : TakePrintsItsCensus arguments before after
  pub name : NamePrintsItsFinding arguments reader before after
  pub gather : GatherPrintsItsLines arguments reader before after 0
