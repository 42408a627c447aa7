-- The behaviour of `census take`.
use Rattle.std.specs.Prelude.{◌≡◌, ℕ, true, false, List, Option, Ok}
use Rattle.std.specs.Io.KnownBytes.{Appends}
use Rattle.survey_core.specs.declared.job.Job.{Job}
use Rattle.haul_core.specs.declared.book.census.Census.{Census}
use Rattle.ranges.specs.declared.range.Range.{Range}
use Rattle.haul_core.specs.Censuses.{IsCensus}
use Rattle.haul_core.specs.HaulTexts.{haul_text}
use Rattle.haul_core.specs.Missing.{AreAll}
use Rattle.ranges.specs.Ranges.{IsNormalForm}
use Rattle.requests.specs.declared.plan.Plan.{Plan}
use Rattle.pattern_commands.specs.Answers.{Right, IsRightGiven}
use Rattle.commands.specs.SoupSets.{AreRangesOf, job_named, IsRightForSet}
use Rattle.pattern_commands.specs.Behaviours.{Behaviour, text_behaviour}

-- the text is the haul text of a job's census of all soups in these ranges; the census has the ranges in normal form
pub record TellsAll (job : Job) (ranges : List Range) (text : List ℕ) : Type 0 where
  pub numbers : List ℕ
  pub all : AreAll ranges numbers
  pub normal : List Range
  pub form : IsNormalForm ranges normal
  pub census : Census
  pub counted : IsCensus job normal numbers census
  pub text_is : text ≡ haul_text census

-- what is right for `take`: the haul text of the complete haul, or a refusal; the parts of the job are checked before
-- the set
abbrev pub take_right : Plan → Right
take_right plan = IsRightGiven (job_named plan) (λ job. IsRightForSet plan.set (TellsAll job))

-- the behaviour of `take` for a plan
abbrev pub take_behaviour : Plan → Behaviour
take_behaviour plan = text_behaviour false true (λ bytes. take_right plan)

-- the bytes of a writer grew by the haul text of a plan: the census of its job, over all soups of its set
pub record PrintsCensus (plan : Plan) (before after : Option (List ℕ)) : Type 0 where
  pub job : Job
  pub job_is : job_named plan ≡ Ok job
  pub ranges : List Range
  pub named : AreRangesOf plan.set ranges
  pub text : List ℕ
  pub tells : TellsAll job ranges text
  pub grown : Appends before after text
