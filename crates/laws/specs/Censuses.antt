-- Laws of censuses: the order in which soups arrived doesn't matter, and joining two hauls adds up their censuses.
use Rattle.std.specs.Prelude.{◌≡◌, ◌+◌, ◌++◌, ◌||◌, ℕ, List, [], option_map, unwrap_or}
use Rattle.std.specs.List.{find}
use Rattle.survey_core.specs.shapes.Objects.{is_code}
use Rattle.survey_core.specs.declared.job.Job.{Job}
use Rattle.haul_core.specs.declared.book.census.Census.{Census}
use Rattle.ranges.specs.declared.range.Range.{Range}
use Rattle.haul_core.specs.declared.book.census_rows.Row.{Row}
use Rattle.haul_core.specs.Censuses.{IsCensus}
use Rattle.haul_core.specs.HaulTexts.{haul_text}
use Rattle.haul_core.specs.Missing.{AreAll}
use Rattle.haul_core.specs.Samples.{AreLeastThree, AreSameNumbers}
use Rattle.ranges.specs.Ranges.{AreNormal, ShareNumber, is_in}

-- both lists of ranges give the same set
abbrev pub GiveOneSet : List Range → List Range → Type 0
GiveOneSet ranges others = (n : ℕ) → is_in ranges n ≡ is_in others n

-- censuses of one job and set, over the same soups in any order, have the same text
abbrev pub SameSoupsPrintTheSame : Type 0
SameSoupsPrintTheSame = (job : Job) (ranges others : List Range) (numbers more : List ℕ) (one other : Census)
    → AreNormal ranges → AreNormal others → GiveOneSet ranges others → AreSameNumbers numbers more
    → IsCensus job ranges numbers one → IsCensus job others more other → haul_text one ≡ haul_text other

-- two censuses of one job have the same text if both are of all soups of the same set
abbrev pub CompleteHaulsPrintTheSame : Type 0
CompleteHaulsPrintTheSame = (job : Job) (ranges others : List Range) (numbers more : List ℕ) (one other : Census)
    → AreNormal ranges → AreNormal others → GiveOneSet ranges others → AreAll ranges numbers → AreAll others more
    → IsCensus job ranges numbers one → IsCensus job others more other → haul_text one ≡ haul_text other

-- the total in the row of a code, or 0 if there is no such row
abbrev pub total_in : List Row → List ℕ → ℕ
total_in rows code = unwrap_or (option_map (λ row. row.total) (find (λ row. is_code code row.code) rows)) 0

-- the samples in the row of a code, or none if there is no such row
abbrev pub samples_in : List Row → List ℕ → List ℕ
samples_in rows code = unwrap_or (option_map (λ row. row.samples) (find (λ row. is_code code row.code) rows)) []

-- The census `both` is the sum of `one` and `other`: in the numbers of objects, soups, unsettled soups and soups whose
-- objects stay for good, and in each code's total. A code's samples are the three lowest of its samples in the two.
pub record AddUp (one other both : Census) : Type 0 where
  pub soups : both.soups ≡ one.soups + other.soups
  pub unsettled : both.unsettled ≡ one.unsettled + other.unsettled
  pub for_good : both.for_good ≡ one.for_good + other.for_good
  pub objects : both.objects ≡ one.objects + other.objects
  pub totals : (code : List ℕ) → total_in both.rows code ≡ total_in one.rows code + total_in other.rows code
  pub samples : (code : List ℕ) → AreLeastThree (samples_in one.rows code ++ samples_in other.rows code) (samples_in both.rows code)

-- if a haul has taken the soups of two other hauls of the same job, its census is the sum of their censuses
abbrev pub JoinedHaulsAddUp : Type 0
JoinedHaulsAddUp = (job : Job) (ranges others all : List Range) (numbers more : List ℕ) (one other both : Census)
    → IsCensus job ranges numbers one → IsCensus job others more other → IsCensus job all (numbers ++ more) both → AddUp one other both

-- the census of all soups of a set
pub record IsCensusOfSet (job : Job) (ranges : List Range) (census : Census) : Type 0 where
  pub numbers : List ℕ
  pub all : AreAll ranges numbers
  pub is : IsCensus job ranges numbers census

-- if two sets share no number, the census of their union is the sum of their censuses
abbrev pub SplitSetsAddUp : Type 0
SplitSetsAddUp = (job : Job) (ranges others all : List Range) (one other both : Census)
    → ((n : ℕ) → is_in all n ≡ (is_in ranges n || is_in others n)) → ¬ ShareNumber ranges others
    → IsCensusOfSet job ranges one → IsCensusOfSet job others other → IsCensusOfSet job all both → AddUp one other both
