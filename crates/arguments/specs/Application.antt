-- The program as `clap` knows it: its commands and their arguments, made from the table of commands and options.
use Rattle.std.specs.Prelude.{List, [], ◌∷◌, None, Some, true, map, codes, not, is_some, if◌then◌else◌}
use Rattle.std.specs.Option.{option_map_or}
use Rattle.clap.specs.Words.{App, Rule, Shape, new_app, new_rule, with_rule, with_subcommand}
use Rattle.clap.specs.declared.builder.action.ArgAction.TheVariants.{SetTrue}
use Rattle.clap.specs.declared.builder.value_parser.ValueParser.TheVariants.{Unsigned}
use Rattle.arguments.specs.declared.options.ValueKind.{ValueKind}
use Rattle.arguments.specs.declared.options.ValueKind.TheVariants as kind
use Rattle.arguments.specs.Entries.{Command, Entry}
use Rattle.arguments.specs.Table.{commands}

-- the argument that a row describes, with only its name and place
abbrev pub named : Entry → Rule
named entry = record (new_rule entry.name) {
  long = if entry.is_named then Some entry.name else None;
  value_names = if entry.is_named then 1 else 0;
}

-- the argument that a row describes, with any text as its value; without a default, it must be given
abbrev pub placed : Entry → Rule
placed entry = record (named entry) {
  required = not (is_some entry.default);
  defaults = option_map_or (λ text. text ∷ []) entry.default [];
}

-- the argument that a row describes, which allows only the values of this kind
abbrev pub rule_by : Entry → ValueKind → Rule
rule_by entry kind.Text = placed entry
rule_by entry kind.Flag = record (new_rule entry.name) { long = Some entry.name; action = Some SetTrue }
rule_by entry (kind.Number least most) = record (placed entry) { parser = Some (Unsigned least most) }
rule_by entry (kind.OptionalNumber least most) = record (named entry) { parser = Some (Unsigned least most) }

-- the argument that a row describes, as `clap` knows it
abbrev pub rule_in : Entry → Rule
rule_in entry = rule_by entry entry.kind

-- the command with these arguments added, in this order
abbrev pub with_rules : App → List Rule → App
with_rules app [] = app
with_rules app (rule ∷ more) = with_rules (with_rule app rule) more

-- a command of the table, as `clap` knows it
abbrev pub shape_in : Command → Shape
shape_in command = (with_rules (new_app command.name) (map rule_in command.parameters)).top

-- the program with these commands added, in this order
abbrev pub with_commands : App → List Shape → App
with_commands app [] = app
with_commands app (shape ∷ more) = with_commands (with_subcommand app shape) more

-- the program without its commands: it has a version, needs a command, and shows help if no argument is given
abbrev pub program : App
program = record {
  top = record ((new_app (codes "census")).top) { has_version = true; subcommand_required = true; arg_required_else_help = true };
  subs = [];
}

-- the program with all its commands
abbrev pub census_app : App
census_app = with_commands program (map shape_in commands)
