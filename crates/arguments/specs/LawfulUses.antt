-- The arguments and values that a command takes, and those that it refuses.
use Rattle.std.specs.Prelude.{◌≡◌, ◌⊎◌, ◌≤◌, ◌&&◌, ℕ, Bool, false, true, not, List, [], ◌∷◌, Option, Some, ⊤, codes, is_some, slice_get}
use Rattle.std.specs.List.{list_any}
use Rattle.std.specs.Str.{bytes_eq, chars}
use Rattle.std.specs.Str.Parse.{IsNumeral, digits_value, starts_with_minus, without_leading_plus}
use Rattle.clap.specs.Words.{Text}
use Rattle.clap.specs.Lexer.{long_of, short_of}
use Rattle.arguments.specs.declared.options.ValueKind.{ValueKind}
use Rattle.arguments.specs.declared.options.ValueKind.TheVariants as kind
use Rattle.arguments.specs.Entries.{Command, Entry}
use Rattle.arguments.specs.Uses.{Stands, Use, entry_in, is_used, value_in}

-- x is in the list
abbrev pub IsIn : {X : Type 0} → X → List X → Type 0
IsIn x [] = ⊥
IsIn x (y ∷ more) = (y ≡ x) ⊎ IsIn x more

-- the text consists of the decimal digits of a number from `least` to `most`
pub record IsNumberFromTo (least most : ℕ) (text : Text) : Type 0 where
  pub numeral : IsNumeral 10 text
  pub low : least ≤ digits_value 10 text
  pub high : digits_value 10 text ≤ most

-- the value is allowed for an argument of this kind; the only value of a flag is `true`
abbrev pub IsOfKind : ValueKind → Text → Type 0
IsOfKind (kind.Number least most) value = IsNumberFromTo least most value
IsOfKind (kind.OptionalNumber least most) value = IsNumberFromTo least most value
IsOfKind kind.Flag value = value ≡ codes "true"
IsOfKind kind.Text value = ⊤

-- an argument of the command, in an allowed form and with an allowed value
pub record IsUse (command : Command) (u : Use) : Type 0 where
  pub parameter : IsIn (entry_in u) command.parameters
  pub stands : Stands u
  pub taken : IsOfKind (entry_in u).kind (value_in u)

-- arguments of the command in any order, each at most once
abbrev pub AreUses : Command → List Use → Type 0
AreUses command [] = ⊤
AreUses command (u ∷ more) = IsUse command u × (is_used (entry_in u).name more ≡ false) × AreUses command more

-- an argument of this kind may be left out, even without a default
abbrev pub may_lack : ValueKind → Bool
may_lack kind.Flag = true
may_lack (kind.OptionalNumber least most) = true
may_lack _ = false

-- the argument must be given: it has no default, and an argument of its kind can't be left out without one
abbrev pub is_required : Entry → Bool
is_required entry = not (may_lack entry.kind) && not (is_some entry.default)

-- a required argument is missing
abbrev pub lacks_some : Command → List Use → Bool
lacks_some command uses = list_any (λ entry. is_required entry && not (is_used entry.name uses)) command.parameters

-- ---- arguments that a command refuses

-- the text has no sign, and doesn't consist of the decimal digits of a number from `least` to `most`
abbrev pub IsNoNumber : ℕ → ℕ → Text → Type 0
IsNoNumber least most text =
    (starts_with_minus text ≡ false) × (without_leading_plus text ≡ text) × (IsNumberFromTo least most text → ⊥)

-- the kind is numeric, and the value has no sign and isn't a number in the kind's range
abbrev pub IsNotOfKind : ValueKind → Text → Type 0
IsNotOfKind (kind.Number least most) value = IsNoNumber least most value
IsNotOfKind (kind.OptionalNumber least most) value = IsNoNumber least most value
IsNotOfKind _ value = ⊥

-- an argument of the command, in an allowed form but with a value that isn't a number in its range
pub record IsOutOfRange (command : Command) (u : Use) : Type 0 where
  pub parameter : IsIn (entry_in u) command.parameters
  pub stands : Stands u
  pub refused : IsNotOfKind (entry_in u).kind (value_in u)

-- an argument such as `-x` or `-xyz`: a hyphen, and then a character that isn't a hyphen
pub record IsShort (argument : Text) : Type 0 where
  pub letters : Text
  pub letter : ℕ
  pub is_short : short_of argument ≡ Some letters
  pub first : slice_get (chars letters) 0 ≡ Some letter

-- `--name` or `--name=VALUE`, where `name` isn't an option of the command and isn't `help`
pub record IsUnknown (command : Command) (argument : Text) : Type 0 where
  pub name : Text
  pub value : Option Text
  pub is_option : long_of argument ≡ Some (name, value)
  pub no_option : list_any (λ entry. entry.is_named && bytes_eq entry.name name) command.parameters ≡ false
  pub no_help : bytes_eq (codes "help") name ≡ false
