-- The numbers of a request are in the ranges of their arguments.
use Rattle.std.specs.Prelude.{IfSome}
use Rattle.requests.specs.declared.plan.Plan.{Plan}
use Rattle.requests.specs.declared.plan.ProfileNumbers.{ProfileNumbers}
use Rattle.arguments.specs.declared.request.Request.{Request}
use Rattle.arguments.specs.declared.request.Request.TheVariants.{Run, Name, Show, Soup, Take, Work, Gather, Version}
use Rattle.arguments.specs.Forms.{BeginsUpTo}
use Rattle.arguments.specs.Table.{count, first, generations, horizon, limit, number, period, report_from, stride, worker, workers}
use Rattle.arguments.specs.Values.{IsInRange}

-- each number of a profile is in the range of its argument
pub record AreProfileNumbers (numbers : ProfileNumbers) : Type 0 where
  pub of_period : IsInRange period.kind numbers.period
  pub of_horizon : IsInRange horizon.kind numbers.horizon
  pub of_stride : IsInRange stride.kind numbers.stride
  pub of_limit : IsInRange limit.kind numbers.limit

-- each number of a plan is in the range of its argument
pub record ArePlanNumbers (plan : Plan) : Type 0 where
  pub of_profile : AreProfileNumbers plan.profile
  pub of_first : IsInRange first.kind plan.set.first
  pub of_count : IsInRange count.kind plan.set.count

-- each number of a request is in the range of its argument, and sizes don't begin after the last generation
abbrev pub AreInTheirRanges : Request → Type 0
AreInTheirRanges (Run n form _) = IsInRange generations.kind n × BeginsUpTo n form
AreInTheirRanges (Name profile _) = AreProfileNumbers profile
AreInTheirRanges (Show _ _) = Unit {0}
AreInTheirRanges (Soup _ n _) = IsInRange number.kind n
AreInTheirRanges (Take plan n _ from) = ArePlanNumbers plan × IsInRange workers.kind n × IfSome from (IsInRange report_from.kind)
AreInTheirRanges (Work plan n) = ArePlanNumbers plan × IsInRange worker.kind n
AreInTheirRanges (Gather plan n) = ArePlanNumbers plan × IsInRange workers.kind n
AreInTheirRanges Version = Unit {0}
