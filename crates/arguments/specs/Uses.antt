-- The forms in which arguments are given in a call.
use Rattle.std.specs.Prelude.{◌≡◌, ◌++◌, Bool, false, true, List, [], ◌∷◌, ⊤, codes, flat_map}
use Rattle.std.specs.List.{list_any}
use Rattle.std.specs.Str.{bytes_eq}
use Rattle.std.specs.Str.Parse.{starts_with_minus}
use Rattle.clap.specs.Words.{Text}
use Rattle.arguments.specs.declared.options.ValueKind.{ValueKind}
use Rattle.arguments.specs.declared.options.ValueKind.TheVariants as kind
use Rattle.arguments.specs.Entries.{Entry}

-- an argument in a call: VALUE by itself, `--name VALUE`, `--name=VALUE`, or the flag `--name`
pub data Use : Type 0 where
  alone : Entry → Text → Use
  spaced : Entry → Text → Use
  attached : Entry → Text → Use
  flagged : Entry → Use

-- the row of the argument in the table
abbrev pub entry_in : Use → Entry
entry_in (alone entry value) = entry
entry_in (spaced entry value) = entry
entry_in (attached entry value) = entry
entry_in (flagged entry) = entry

-- the value of the argument, which is `true` for a flag
abbrev pub value_in : Use → Text
value_in (alone entry value) = value
value_in (spaced entry value) = value
value_in (attached entry value) = value
value_in (flagged entry) = codes "true"

-- the one or two command-line arguments in which the argument is given
abbrev pub arguments_of : Use → List Text
arguments_of (alone entry value) = value ∷ []
arguments_of (spaced entry value) = (codes "--" ++ entry.name) ∷ value ∷ []
arguments_of (attached entry value) = (codes "--" ++ (entry.name ++ (codes "=" ++ value))) ∷ []
arguments_of (flagged entry) = (codes "--" ++ entry.name) ∷ []

-- the command-line arguments in which several arguments are given, in this order
abbrev pub arguments_in : List Use → List Text
arguments_in uses = flat_map arguments_of uses

-- an argument with this name is given
abbrev pub is_used : Text → List Use → Bool
is_used name uses = list_any (λ u. bytes_eq (entry_in u).name name) uses

-- an argument of this kind is a flag, which is given without a value
abbrev pub is_flag : ValueKind → Bool
is_flag kind.Flag = true
is_flag _ = false

-- the value may be a command-line argument by itself: if its kind is `Text`, it doesn't begin with `-`
abbrev pub IsBare : ValueKind → Text → Type 0
IsBare kind.Text value = starts_with_minus value ≡ false
IsBare _ value = ⊤

-- the argument is given in a form that its row allows: with its name or without, with a value or as a flag
abbrev pub Stands : Use → Type 0
Stands (alone entry value) = (entry.is_named ≡ false) × (is_flag entry.kind ≡ false) × IsBare entry.kind value
Stands (spaced entry value) = (entry.is_named ≡ true) × (is_flag entry.kind ≡ false) × IsBare entry.kind value
Stands (attached entry value) = (entry.is_named ≡ true) × (is_flag entry.kind ≡ false)
Stands (flagged entry) = is_flag entry.kind ≡ true
