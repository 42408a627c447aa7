-- The census of a haul: which objects its soups left.
use Rattle.std.specs.Prelude.{◌≡◌, ℕ, List, length, sum_by}
use Rattle.survey_core.specs.declared.job.Job.{Job}
use Rattle.haul_core.specs.declared.book.census.Census.{Census}
use Rattle.ranges.specs.declared.range.Range.{Range}
use Rattle.ranges.specs.Ranges.{size_of}
use Rattle.haul_core.specs.Rows.{AreRowsOf}
use Rattle.haul_core.specs.Totals.{AreSurveys, Survey, for_good, unsettled}

-- the census of a haul of this job; the haul's set has these ranges, and the haul took the soups with these numbers
pub record IsCensus (job : Job) (ranges : List Range) (numbers : List ℕ) (census : Census) : Type 0 where
  pub surveys : List Survey
  pub surveyed : AreSurveys job numbers surveys
  pub job_is : census.job ≡ job
  pub set : census.ranges ≡ ranges
  pub size : census.count ≡ size_of ranges
  pub soups_are : census.soups ≡ length numbers
  pub unsettled_are : census.unsettled ≡ unsettled surveys
  pub for_good_are : census.for_good ≡ for_good surveys
  pub rows_are : AreRowsOf surveys census.rows
  pub objects_are : census.objects ≡ sum_by (λ row. row.total) census.rows
