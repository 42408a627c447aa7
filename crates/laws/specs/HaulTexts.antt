-- A haul text determines its census.
use Rattle.std.specs.Prelude.{◌≡◌, ◌<◌, ◌^◌, ℕ, List, nat_eq, true}
use Rattle.std.specs.List.{All, IsDistinct}
use Rattle.plane_core.specs.plane.Rules.{IsRule}
use Rattle.code_core.specs.Apgcodes.{HasCodeShape}
use Rattle.survey_core.specs.Profiles.{IsProfile}
use Rattle.survey_core.specs.Seeds.{IsSeed}
use Rattle.survey_core.specs.declared.job.Job.{Job}
use Rattle.ranges.specs.declared.range.Range.{Range}
use Rattle.ranges.specs.Ranges.{AreBelow, AreNormal, is_in, number_bound, size_of}
use Rattle.haul_core.specs.Censuses.{IsCensus}
use Rattle.haul_core.specs.declared.book.census.Census.{Census}
use Rattle.haul_core.specs.declared.book.census_rows.Row.{Row}
use Rattle.haul_core.specs.HaulTexts.{haul_text}

-- the number has at most 64 digits, so its decimal has all of them; the decimal of a larger number has only the last 64
abbrev pub IsWrittenWhole : ℕ → Type 0
IsWrittenWhole n = n < 10 ^ 64

-- the seed, the rule and the profile are valid
pub record IsJob (job : Job) : Type 0 where
  pub seed : IsSeed job.seed
  pub rule : IsRule job.rule
  pub profile : IsProfile job.profile

-- the code has the shape of an apgcode, and each number has at most 64 digits
pub record IsShortRow (row : Row) : Type 0 where
  pub code : HasCodeShape row.code
  pub total : IsWrittenWhole row.total
  pub samples : All IsWrittenWhole row.samples

-- the job is valid, the ranges are in normal form, the count is their size, and each other number has at most 64 digits
pub record IsShortCensus (census : Census) : Type 0 where
  pub job : IsJob census.job
  pub normal : AreNormal census.ranges
  pub ranges : All (λ r. IsWrittenWhole r.first × IsWrittenWhole r.count) census.ranges
  pub size : census.count ≡ size_of census.ranges
  pub soups : IsWrittenWhole census.soups
  pub unsettled : IsWrittenWhole census.unsettled
  pub for_good : IsWrittenWhole census.for_good
  pub objects : IsWrittenWhole census.objects
  pub rows : All IsShortRow census.rows

-- two short censuses with the same haul text are equal
abbrev pub HaulTextsAreFaithful : Type 0
HaulTextsAreFaithful = (one other : Census) → IsShortCensus one → IsShortCensus other → haul_text one ≡ haul_text other → one ≡ other

-- the numbers are some or all numbers of the set, each at most once
pub record AreTakenOf (ranges : List Range) (numbers : List ℕ) : Type 0 where
  pub within : All (λ n. is_in ranges n ≡ true) numbers
  pub distinct : IsDistinct nat_eq numbers

-- a census is short if its job is valid, its ranges are in normal form and have only numbers below 2^40, and the
-- numbers taken are distinct and in these ranges
abbrev pub HaulCensusesAreShort : Type 0
HaulCensusesAreShort = (job : Job) (ranges : List Range) (numbers : List ℕ) (census : Census) → IsJob job → AreNormal ranges
    → AreBelow number_bound ranges → AreTakenOf ranges numbers → IsCensus job ranges numbers census → IsShortCensus census
