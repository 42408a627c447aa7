-- What a claim says about a soup, and which claims a line may make.
use Rattle.std.specs.Prelude.{◌≡◌, ◌<◌, ◌≤◌, ◌^◌, ◌⊎◌, ℕ, Bool, List, Option, None, Some}
use Rattle.std.specs.Cmp.Lexicographic.{slice_cmp}
use Rattle.std.specs.List.{All}
use Rattle.std.specs.List.Sorted.{IsStrictlySortedBy}
use Rattle.std.specs.Map.{keys_of}
use Rattle.std.specs.Ordering.{nat_cmp}
use Rattle.plane_core.specs.plane.Rules.{IsRule}
use Rattle.code_core.specs.Apgcodes.{HasCodeShape}
use Rattle.survey_core.specs.Profiles.{IsProfile}
use Rattle.survey_core.specs.Seeds.{IsSeed}
use Rattle.survey_core.specs.declared.job.Job.{Job}
use Rattle.haul_core.specs.Reports.{IsWorker}

-- what a line says about a soup that settled: the checkpoint, whether its objects stay for good (in version 2 only),
-- and how many objects there are of each code
pub record SaidOfSoup : Type 0 where
  pub checkpoint : ℕ
  pub for_good : Option Bool
  pub counts : List (List ℕ × ℕ)

-- a claim: the version of its line, the job, the worker, the soup, and what the line says about the soup (`None` if the
-- line says that the soup is unsettled)
pub record Claimed : Type 0 where
  pub version : ℕ
  pub job : Job
  pub worker : ℕ
  pub number : ℕ
  pub found : Option SaidOfSoup

-- a code (1 to 400 bytes, each of which is `a` to `z`, `0` to `9` or `_`) and its count, 1 to 2^64 - 1
pub record IsCount (object : List ℕ × ℕ) : Type 0 where
  pub code : HasCodeShape object.0
  pub some : 1 ≤ object.1
  pub fits : object.1 < 2 ^ 64

-- a line of version 2 says whether the objects stay for good, and a line of version 1 doesn't
abbrev pub IsMark : ℕ → Option Bool → Type 0
IsMark version None = version ≡ 1
IsMark version (Some for_good) = version ≡ 2

-- what a line may say about a soup that settled; codes are in ASCII order, each once
pub record IsSaid (version : ℕ) (said : SaidOfSoup) : Type 0 where
  pub checkpoint : said.checkpoint ≤ 100000
  pub mark : IsMark version said.for_good
  pub counts : All IsCount said.counts
  pub in_order : IsStrictlySortedBy (slice_cmp nat_cmp) (keys_of said.counts)

-- what a line of this version may say about a soup
abbrev pub IsFound : ℕ → Option SaidOfSoup → Type 0
IsFound version None = Unit {0}
IsFound version (Some said) = IsSaid version said

-- a claim that a line may make, right or wrong
pub record IsClaim (claim : Claimed) : Type 0 where
  pub version : (claim.version ≡ 1) ⊎ (claim.version ≡ 2)
  pub rule : IsRule claim.job.rule
  pub profile : IsProfile claim.job.profile
  pub seed : IsSeed claim.job.seed
  pub worker : IsWorker claim.worker
  pub number : claim.number < 2 ^ 40
  pub found : IsFound claim.version claim.found
