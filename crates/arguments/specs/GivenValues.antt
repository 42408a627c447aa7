-- The values of the arguments of a call.
use Rattle.std.specs.Prelude.{ℕ, List, [], ◌∷◌, None, Option, Some, unwrap_or, if◌then◌else◌}
use Rattle.std.specs.Str.{bytes_eq}
use Rattle.std.specs.Str.Parse.{digits_value}
use Rattle.clap.specs.Words.{Text}
use Rattle.requests.specs.declared.form.PatternForm.{PatternForm}
use Rattle.requests.specs.declared.form.RunForm.{RunForm}
use Rattle.requests.specs.declared.plan.Plan.{Plan}
use Rattle.requests.specs.declared.plan.ProfileNumbers.{ProfileNumbers}
use Rattle.requests.specs.declared.plan.SoupSet.{SoupSet}
use Rattle.arguments.specs.Entries.{Entry}
use Rattle.arguments.specs.Forms.{pattern_form, run_form}
use Rattle.arguments.specs.Table as table
use Rattle.arguments.specs.Uses.{Use, entry_in, is_used, value_in}

-- the value of an argument: the one that is given, or otherwise the default (an empty text if there is none)
abbrev pub text_given : Entry → List Use → Text
text_given entry [] = unwrap_or entry.default []
text_given entry (u ∷ more) = if bytes_eq (entry_in u).name entry.name then value_in u else text_given entry more

-- the number that is given for an argument, or its default
abbrev pub number_given : Entry → List Use → ℕ
number_given entry uses = digits_value 10 (text_given entry uses)

-- the number that is given for an argument, or `None` if the argument isn't given
abbrev pub number_if_given : Entry → List Use → Option ℕ
number_if_given entry uses = if is_used entry.name uses then Some (number_given entry uses) else None

-- the pattern form that a call asks for
abbrev pub form_given : List Use → PatternForm
form_given uses = pattern_form (is_used table.coordinates.name uses)

-- what a call of `run` prints, or `None` if its arguments contradict each other
abbrev pub run_form_given : List Use → Option RunForm
run_form_given uses = run_form (form_given uses) (number_given table.generations uses) (number_if_given table.sizes uses)

-- the profile of a call: its four numbers, as given or by default
abbrev pub profile_given : List Use → ProfileNumbers
profile_given uses = record {
  period = number_given table.period uses;
  horizon = number_given table.horizon uses;
  stride = number_given table.stride uses;
  limit = number_given table.limit uses;
}

-- the set of soups of a call
abbrev pub set_given : List Use → SoupSet
set_given uses = record {
  seed = text_given table.seed uses;
  first = number_given table.first uses;
  count = number_given table.count uses;
  also = text_given table.also uses;
}

-- the plan of a call: its set of soups, its profile and its rule
abbrev pub plan_given : List Use → Plan
plan_given uses = record { set = set_given uses; profile = profile_given uses; rule = text_given table.rule uses }
