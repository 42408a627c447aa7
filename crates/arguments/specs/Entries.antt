-- The rows of the table of commands and options.
use Rattle.std.specs.Prelude.{List, Option, None, Some, Bool, true, false, map}
use Rattle.std.specs.Option.{option_map}
use Rattle.clap.specs.Words.{Text}
use Rattle.arguments.specs.declared.commands.CommandRow.{CommandRow}
use Rattle.arguments.specs.declared.options.Parameter.{Parameter}
use Rattle.arguments.specs.declared.options.ValueKind.{ValueKind}
use Rattle.arguments.specs.declared.options.ValueKind.TheVariants as kind
use Rattle.arguments.specs.declared.options.Place.{Place}
use Rattle.arguments.specs.declared.options.Place.TheVariants as place

-- a row of the table of arguments, without its help texts
pub record Entry : Type 0 where
  pub name : Text
  pub is_named : Bool
  pub kind : ValueKind
  pub default : Option Text

-- a command: its name, and the rows of its arguments
pub record Command : Type 0 where
  pub name : Text
  pub parameters : List Entry

-- the argument is given by its name, as `--name`, and not by its position
abbrev pub is_named : Place → Bool
is_named place.Position = false
is_named (place.Named shown) = true

-- the row that the code has for an argument, without its help texts
abbrev pub entry_of : Parameter → Entry
entry_of row = record {
  name = row.name.now;
  is_named = is_named row.place;
  kind = row.kind;
  default = option_map (λ text. text.now) row.default;
}

-- the row that the code has for a command, without its help texts
abbrev pub command_of : CommandRow → Command
command_of row = record { name = row.name.now; parameters = map entry_of row.parameters.now }

-- ---- forms of rows

-- a positional argument, which must be given
abbrev pub position : Text → ValueKind → Entry
position name kind = record { name = name; is_named = false; kind = kind; default = None }

-- `--name`, with a default
abbrev pub option : Text → ValueKind → Text → Entry
option name kind default = record { name = name; is_named = true; kind = kind; default = Some default }

-- `--name`, which must be given: it has no default, and its kind isn't `OptionalNumber`
abbrev pub required : Text → ValueKind → Entry
required name kind = record { name = name; is_named = true; kind = kind; default = None }

-- `--name`, which may be left out: it has no default, but its kind is `OptionalNumber`
abbrev pub optional : Text → ValueKind → Entry
optional name kind = record { name = name; is_named = true; kind = kind; default = None }

-- a flag: `--name` without a value
abbrev pub flag : Text → Entry
flag name = record { name = name; is_named = true; kind = kind.Flag; default = None }
