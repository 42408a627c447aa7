-- Plans (which soups to survey, and how), made from the values that were found for the arguments.
use Rattle.std.specs.Prelude.{ℕ, List, Option, None, Some}
use Rattle.clap.specs.Words.{Row, Text}
use Rattle.requests.specs.declared.plan.Plan.{Plan}
use Rattle.requests.specs.declared.plan.ProfileNumbers.{ProfileNumbers}
use Rattle.requests.specs.declared.plan.SoupSet.{SoupSet}
use Rattle.arguments.specs.Table.{also, count, first, horizon, limit, period, rule, seed, stride}
use Rattle.arguments.specs.Values.{number_found, text_found}

-- the profile with these four numbers, or `None` if one of them is missing
abbrev pub all_four : Option ℕ → Option ℕ → Option ℕ → Option ℕ → Option ProfileNumbers
all_four (Some p) (Some h) (Some k) (Some t) = Some (record { period = p; horizon = h; stride = k; limit = t })
all_four _ _ _ _ = None

-- the profile, from the numbers that were found for the arguments
abbrev pub profile_in : List Row → Option ProfileNumbers
profile_in rows = all_four (number_found period rows) (number_found horizon rows) (number_found stride rows) (number_found limit rows)

-- the set of soups with these four parts, or `None` if one of them is missing
abbrev pub set_of_four : Option Text → Option ℕ → Option ℕ → Option Text → Option SoupSet
set_of_four (Some seed) (Some first) (Some count) (Some also) = Some (record { seed = seed; first = first; count = count; also = also })
set_of_four _ _ _ _ = None

-- the set of soups, from the values that were found for the arguments
abbrev pub set_in : List Row → Option SoupSet
set_in rows = set_of_four (text_found seed rows) (number_found first rows) (number_found count rows) (text_found also rows)

-- the plan with these three parts, or `None` if one of them is missing
abbrev pub plan_of_three : Option SoupSet → Option ProfileNumbers → Option Text → Option Plan
plan_of_three (Some set) (Some profile) (Some rule) = Some (record { set = set; profile = profile; rule = rule })
plan_of_three _ _ _ = None

-- the plan, from the values that were found for the arguments
abbrev pub plan_in : List Row → Option Plan
plan_in rows = plan_of_three (set_in rows) (profile_in rows) (text_found rule rows)
