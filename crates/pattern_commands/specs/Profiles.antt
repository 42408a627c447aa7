-- The profile that a command's four numbers make, or the complaint about them.
use Rattle.std.specs.Prelude.{◌≤◌, Result, Ok, Err, nat_le, if◌then◌else◌}
use Rattle.survey_core.specs.Profiles.{Settling}
use Rattle.pattern_commands.specs.declared.ending.complaint.Complaint.{Complaint}
use Rattle.pattern_commands.specs.declared.ending.complaint.Complaint.TheVariants.{Refused}
use Rattle.requests.specs.declared.plan.ProfileNumbers.{ProfileNumbers}
use Rattle.pattern_commands.specs.declared.ending.refusal.Refusal.TheVariants.{HorizonBelowPeriod}

-- each of the four numbers is in its range
pub record AreInRange (numbers : ProfileNumbers) : Type 0 where
  pub some : 1 ≤ numbers.period
  pub period : numbers.period ≤ 64
  pub horizon : numbers.horizon ≤ 4096
  pub onward : 1 ≤ numbers.stride
  pub stride : numbers.stride ≤ 10000
  pub limit : numbers.limit ≤ 100000

-- the numbers as a profile
abbrev pub settling : ProfileNumbers → Settling
settling n = record { period = n.period; horizon = n.horizon; stride = n.stride; limit = n.limit }

-- the profile with these numbers; if each is in its range, the only possible fault is a horizon below the period
abbrev pub profile_named : ProfileNumbers → Result Settling Complaint
profile_named numbers = if nat_le numbers.period numbers.horizon then Ok (settling numbers) else Err (Refused HorizonBelowPeriod)
