-- The request of each command, put together from the values that were found for its arguments.
use Rattle.std.specs.Prelude.{ℕ, Bool, List, Option, None, Some, option_map}
use Rattle.clap.specs.Words.{Row, Text}
use Rattle.requests.specs.declared.plan.Plan.{Plan}
use Rattle.requests.specs.declared.plan.ProfileNumbers.{ProfileNumbers}
use Rattle.arguments.specs.declared.request.Request.{Request}
use Rattle.arguments.specs.declared.request.Request.TheVariants.{Run, Name, Show, Soup, Take, Work, Gather}
use Rattle.requests.specs.declared.form.PatternForm.{PatternForm}
use Rattle.arguments.specs.Forms.{pattern_form, run_form}
use Rattle.arguments.specs.Plans.{plan_in, profile_in}
use Rattle.arguments.specs.Table.{code, coordinates, generations, number, progress, report_from, rule, seed, sizes, worker, workers}
use Rattle.arguments.specs.Values.{is_given, number_found, text_found}

-- for each command: its request, or `None` if a needed value wasn't found or arguments of `run` contradict each other
abbrev pub run_from : PatternForm → Option ℕ → Option ℕ → Option Text → Option Request
run_from form from (Some n) (Some rule) = option_map (λ printed. Run n printed rule) (run_form form n from)
run_from form from _ _ = None

abbrev pub name_from : Option ProfileNumbers → Option Text → Option Request
name_from (Some profile) (Some rule) = Some (Name profile rule)
name_from _ _ = None

abbrev pub show_from : PatternForm → Option Text → Option Request
show_from form (Some code) = Some (Show code form)
show_from form None = None

abbrev pub soup_from : PatternForm → Option ℕ → Option Text → Option Request
soup_from form (Some n) (Some seed) = Some (Soup seed n form)
soup_from form _ _ = None

abbrev pub take_from : Bool → Option ℕ → Option Plan → Option ℕ → Option Request
take_from asked from (Some plan) (Some workers) = Some (Take plan workers asked from)
take_from asked from _ _ = None

abbrev pub work_from : Option Plan → Option ℕ → Option Request
work_from (Some plan) (Some worker) = Some (Work plan worker)
work_from _ _ = None

abbrev pub gather_from : Option Plan → Option ℕ → Option Request
gather_from (Some plan) (Some workers) = Some (Gather plan workers)
gather_from _ _ = None

-- the form in which a pattern is printed, from the values that were found for the arguments
abbrev pub form_in : List Row → PatternForm
form_in rows = pattern_form (is_given coordinates rows)

-- for each command: its request, from the values that were found for its arguments
abbrev pub run_request : List Row → Option Request
run_request rows = run_from (form_in rows) (number_found sizes rows) (number_found generations rows) (text_found rule rows)

abbrev pub name_request : List Row → Option Request
name_request rows = name_from (profile_in rows) (text_found rule rows)

abbrev pub show_request : List Row → Option Request
show_request rows = show_from (form_in rows) (text_found code rows)

abbrev pub soup_request : List Row → Option Request
soup_request rows = soup_from (form_in rows) (number_found number rows) (text_found seed rows)

abbrev pub take_request : List Row → Option Request
take_request rows = take_from (is_given progress rows) (number_found report_from rows) (plan_in rows) (number_found workers rows)

abbrev pub work_request : List Row → Option Request
work_request rows = work_from (plan_in rows) (number_found worker rows)

abbrev pub gather_request : List Row → Option Request
gather_request rows = gather_from (plan_in rows) (number_found workers rows)
