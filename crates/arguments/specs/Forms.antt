-- The form in which a pattern is printed, and what `run` prints.
use Rattle.std.specs.Prelude.{◌≤◌, ℕ, Bool, true, false, Option, None, Some, nat_le, if◌then◌else◌}
use Rattle.requests.specs.declared.form.PatternForm.{PatternForm}
use Rattle.requests.specs.declared.form.PatternForm.TheVariants.{Coordinates, Plaintext}
use Rattle.requests.specs.declared.form.RunForm.{RunForm}
use Rattle.requests.specs.declared.form.RunForm.TheVariants.{Pattern, Sizes}

-- a pattern is printed as coordinates if they are asked for
abbrev pub pattern_form : Bool → PatternForm
pattern_form true = Coordinates
pattern_form false = Plaintext

-- the sizes of the generations from `from` to `last`, or `None` if `from` is after `last`
abbrev pub sizes_up_to : ℕ → ℕ → Option RunForm
sizes_up_to last from = if nat_le from last then Some (Sizes from) else None

-- What `run` prints: the pattern after the last generation or, if a first generation is given, the sizes of the
-- generations from the first to the last. The result is `None` if both sizes and coordinates are asked for, or if the
-- first generation is after the last.
abbrev pub run_form : PatternForm → ℕ → Option ℕ → Option RunForm
run_form form last None = Some (Pattern form)
run_form Plaintext last (Some from) = sizes_up_to last from
run_form Coordinates last (Some from) = None

-- if `run` prints sizes, they begin at generation `last` or before
abbrev pub BeginsUpTo : ℕ → RunForm → Type 0
BeginsUpTo last (Pattern form) = Unit {0}
BeginsUpTo last (Sizes from) = from ≤ last
