-- What a request takes from the values that were found for the arguments of a command.
use Rattle.std.specs.Prelude.{◌≤◌, ◌&&◌, ℕ, Bool, false, List, Option, None, Some, codes, option_and_then, nat_le, if◌then◌else◌}
use Rattle.std.specs.Option.{option_map_or}
use Rattle.std.specs.Str.{bytes_eq}
use Rattle.std.specs.Str.Parse.{digits_value, without_leading_plus}
use Rattle.clap.specs.Words.{Row, Text, first_of, one_of}
use Rattle.clap.specs.ValueTests.{is_numeral}
use Rattle.arguments.specs.declared.options.ValueKind.{ValueKind}
use Rattle.arguments.specs.declared.options.ValueKind.TheVariants as kind
use Rattle.arguments.specs.Entries.{Entry}

-- the number that a text spells in digits, perhaps after a `+`, if it is at most `most`
abbrev pub number_named : ℕ → Text → Option ℕ
number_named most text =
    let digits = without_leading_plus text in
    if is_numeral digits && nat_le (digits_value 10 digits) most then Some (digits_value 10 digits) else None

-- the number, if it is at most `most`
abbrev pub within : ℕ → ℕ → Option ℕ
within most n = if nat_le n most then Some n else None

-- the number that was found for an argument, if it is at most `most`
abbrev pub number_up_to : ℕ → Text → List Row → Option ℕ
number_up_to most id rows = option_and_then (number_named most) (one_of id rows)

-- the number, if it is at least `least`
abbrev pub at_least : ℕ → ℕ → Option ℕ
at_least least n = if nat_le least n then Some n else None

-- the number that was found for an argument of this kind, if it is in the kind's range
abbrev pub number_by : ValueKind → Text → List Row → Option ℕ
number_by kind.Text id rows = None
number_by kind.Flag id rows = None
number_by (kind.Number least most) id rows = option_and_then (at_least least) (number_up_to most id rows)
number_by (kind.OptionalNumber least most) id rows = option_and_then (at_least least) (number_up_to most id rows)

-- the number that was found for an argument, if it is in the argument's range
abbrev pub number_found : Entry → List Row → Option ℕ
number_found entry rows = number_by entry.kind entry.name rows

-- the text that was found for an argument
abbrev pub text_found : Entry → List Row → Option Text
text_found entry rows = first_of entry.name rows

-- a flag was given: its value is `true`
abbrev pub is_given : Entry → List Row → Bool
is_given entry rows = option_map_or (λ text. bytes_eq text (codes "true")) (first_of entry.name rows) false

-- the kind is numeric, and the number is in its range
abbrev pub IsInRange : ValueKind → ℕ → Type 0
IsInRange kind.Text n = ⊥
IsInRange kind.Flag n = ⊥
IsInRange (kind.Number least most) n = (least ≤ n) × (n ≤ most)
IsInRange (kind.OptionalNumber least most) n = (least ≤ n) × (n ≤ most)
