-- Laws about what a call of the program asks for.
use Rattle.std.specs.Prelude.{◌≡◌, ◌++◌, false, true, List, [], ◌∷◌, None, Option, Some, codes, option_map}
use Rattle.std.specs.List.{list_any}
use Rattle.std.specs.Str.{bytes_eq}
use Rattle.std.specs.Str.Parse.{starts_with_minus}
use Rattle.clap.specs.Words.{Text}
use Rattle.arguments.specs.declared.request.Request.{Request}
use Rattle.arguments.specs.declared.request.Request.TheVariants.{Run, Name, Show, Soup, Take, Work, Gather, Version}
use Rattle.arguments.specs.Entries.{Command}
use Rattle.arguments.specs.GivenValues.{form_given, number_given, number_if_given, plan_given, profile_given, run_form_given, text_given}
use Rattle.arguments.specs.LawfulUses.{AreUses, IsIn, IsOutOfRange, IsShort, IsUnknown, IsUse, lacks_some}
use Rattle.arguments.specs.Requests.{asked_by}
use Rattle.arguments.specs.Table.{commands}
use Rattle.arguments.specs.Table as table
use Rattle.arguments.specs.Uses.{Use, entry_in, is_used, arguments_in, arguments_of}

-- a call of the command asks for `asked uses` (for nothing if this is `None`) if its arguments are lawful, each given
-- at most once and in any order, and if no required argument is missing
abbrev pub AsksForWhat : Command → (List Use → Option Request) → Type 0
AsksForWhat command asked =
    (program : Text) (uses : List Use) → AreUses command uses → lacks_some command uses ≡ false
    → asked_by (program ∷ command.name ∷ arguments_in uses) ≡ asked uses

-- a call of the command asks for `request uses` if its arguments are lawful and no required argument is missing
abbrev pub AsksFor : Command → (List Use → Request) → Type 0
AsksFor command request = AsksForWhat command (λ uses. Some (request uses))

-- each command asks for its request, with the values of the arguments that are given and the defaults of those that
-- aren't
pub record AskForTheirValues : Type 0 where
  -- a call with `--sizes FROM` asks for nothing if it also has `--coordinates`, or if FROM is greater than N
  pub run : AsksForWhat table.run_command
      (λ uses. option_map (λ form. Run (number_given table.generations uses) form (text_given table.rule uses)) (run_form_given uses))
  pub name : AsksFor table.name_command (λ uses. Name (profile_given uses) (text_given table.rule uses))
  pub show : AsksFor table.show_command (λ uses. Show (text_given table.code uses) (form_given uses))
  pub soup : AsksFor table.soup_command (λ uses. Soup (text_given table.seed uses) (number_given table.number uses) (form_given uses))
  pub take : AsksFor table.take_command
      (λ uses. Take (plan_given uses) (number_given table.workers uses) (is_used table.progress.name uses) (number_if_given table.report_from uses))
  pub work : AsksFor table.work_command (λ uses. Work (plan_given uses) (number_given table.worker uses))
  pub gather : AsksFor table.gather_command (λ uses. Gather (plan_given uses) (number_given table.workers uses))

-- A call of the command with lawful arguments asks for nothing if a required argument is missing. It also asks for
-- nothing if the lawful arguments are followed by an argument that was given before, an argument with a value out of
-- its range, an unknown option, an argument such as `-x` or `-h`, or `--help`. Further arguments may follow.
pub record AskForNothing (command : Command) : Type 0 where
  pub missing : (program : Text) (uses : List Use) → AreUses command uses → lacks_some command uses ≡ true
      → asked_by (program ∷ command.name ∷ arguments_in uses) ≡ None
  pub twice : (program : Text) (uses : List Use) (u : Use) (more : List Text) → AreUses command uses → IsUse command u
      → is_used (entry_in u).name uses ≡ true → asked_by (program ∷ command.name ∷ (arguments_in uses ++ (arguments_of u ++ more))) ≡ None
  pub out_of_range : (program : Text) (uses : List Use) (u : Use) (more : List Text) → AreUses command uses → IsOutOfRange command u
      → asked_by (program ∷ command.name ∷ (arguments_in uses ++ (arguments_of u ++ more))) ≡ None
  pub unknown : (program argument : Text) (uses : List Use) (more : List Text) → AreUses command uses → IsUnknown command argument
      → asked_by (program ∷ command.name ∷ (arguments_in uses ++ argument ∷ more)) ≡ None
  pub short : (program argument : Text) (uses : List Use) (more : List Text) → AreUses command uses → IsShort argument
      → asked_by (program ∷ command.name ∷ (arguments_in uses ++ argument ∷ more)) ≡ None
  pub help : (program : Text) (uses : List Use) (more : List Text) → AreUses command uses
      → asked_by (program ∷ command.name ∷ (arguments_in uses ++ codes "--help" ∷ more)) ≡ None

-- `AskForNothing` holds for each command of the table
abbrev pub OthersAskForNothing : Type 0
OthersAskForNothing = (command : Command) → IsIn command commands → AskForNothing command

-- a call with only `--version` or `-V` asks for the version
pub record AsksForVersion : Type 0 where
  pub long : (program : Text) → asked_by (program ∷ codes "--version" ∷ []) ≡ Some Version
  pub short : (program : Text) → asked_by (program ∷ codes "-V" ∷ []) ≡ Some Version

-- A call asks for nothing if it has no arguments; if the first argument isn't a command, isn't `help` and doesn't begin
-- with `-`, whatever comes after it; or if its only argument is `--help`.
pub record NoCommandAsksForNothing : Type 0 where
  pub no_command : (program : Text) → asked_by (program ∷ []) ≡ None
  pub unknown : (program argument : Text) (arguments : List Text) → starts_with_minus argument ≡ false
      → list_any (λ command. bytes_eq command.name argument) commands ≡ false → bytes_eq (codes "help") argument ≡ false
      → asked_by (program ∷ argument ∷ arguments) ≡ None
  pub help : (program : Text) → asked_by (program ∷ codes "--help" ∷ []) ≡ None
