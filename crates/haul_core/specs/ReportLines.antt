-- Report lines: what a worker says about a soup, in fields separated by single spaces.
use Rattle.std.specs.Prelude.{◌==◌, ◌++◌, ℕ, Bool, false, true, List, [], ◌∷◌, Option, None, Some, codes, decimal, map}
use Rattle.std.specs.Prelude.{if◌then◌else◌}
use Rattle.plane_core.specs.plane.Rules.{rule_text}
use Rattle.survey_core.specs.Profiles.{Settling}
use Rattle.survey_core.specs.declared.finding.Finding.{Finding}
use Rattle.survey_core.specs.declared.finding.Finding.TheVariants.{Settled, Unsettled}
use Rattle.haul_core.specs.HaulTexts.{ended, line_of}
use Rattle.haul_core.specs.Reports.{Reported}
use Rattle.haul_core.specs.LawfulClaims.{SaidOfSoup, Claimed}

-- `profile=`, and the four numbers of the profile in decimal, separated by commas
unfoldable pub profile_field : Settling → List ℕ
profile_field p =
    codes "profile=" ++ (decimal p.period ++ (codes "," ++ (decimal p.horizon ++ (codes "," ++ (decimal p.stride ++ (codes "," ++ decimal p.limit))))))

-- the fields of the version, the job, the worker and the number of the soup
unfoldable pub head_fields : Claimed → List (List ℕ)
head_fields claim =
    decimal claim.version
    ∷ (codes "rule=" ++ rule_text claim.job.rule)
    ∷ profile_field claim.job.profile
    ∷ (codes "seed=" ++ claim.job.seed)
    ∷ (codes "worker=" ++ decimal claim.worker)
    ∷ (codes "soup=" ++ decimal claim.number)
    ∷ []

-- the field that says whether the objects stay for good
unfoldable pub mark_field : Bool → List ℕ
mark_field true = codes "good=yes"
mark_field false = codes "good=no"

-- the field that says whether the objects stay for good, if the line has one
unfoldable pub mark_fields : Option Bool → List (List ℕ)
mark_fields None = []
mark_fields (Some for_good) = mark_field for_good ∷ []

-- a code and the number of objects that have it
abbrev pub count_field : (List ℕ × ℕ) → List ℕ
count_field object = object.0 ++ (codes "*" ++ decimal object.1)

-- the fields about a soup: `unsettled`; or the checkpoint, whether objects stay for good (version 2), and the counts
unfoldable pub found_fields : Option SaidOfSoup → List (List ℕ)
found_fields None = codes "unsettled" ∷ []
found_fields (Some said) = (codes "at=" ++ decimal said.checkpoint) ∷ (mark_fields said.for_good ++ map count_field said.counts)

-- the line of a claim, without the line feed that ends it
unfoldable pub claim_line : Claimed → List ℕ
claim_line claim = line_of (codes "report") (head_fields claim ++ found_fields claim.found)

-- what a line of this version says about a soup with this finding
abbrev pub said_of : ℕ → Finding → Option SaidOfSoup
said_of version (Settled checkpoint objects for_good) =
    Some (record { checkpoint = checkpoint; for_good = if version == 1 then None else Some for_good; counts = objects })
said_of version Unsettled = None

-- the claim that a report makes in a line of this version
abbrev pub claim_of : ℕ → Reported → Claimed
claim_of version report = record {
  version = version;
  job = report.job;
  worker = report.worker;
  number = report.number;
  found = said_of version report.finding;
}

-- the line of a report, in version 2, with the line feed that ends it
abbrev pub report_text : Reported → List ℕ
report_text report = ended (claim_line (claim_of 2 report))
