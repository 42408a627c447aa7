-- The head of a report line, with one more field filled in.
use Rattle.std.proofs.Common.{◌≡◌, ◌<◌, ◌^◌, ◌++◌, ◌∷◌, ℕ, List, Option, [], Some, None, ap, sym, codes, decimal}
use Rattle.plane_core.specs.plane.Rules.{IsRule, Numbers, rule_text}
use Rattle.survey_core.specs.Profiles.{IsProfile, Settling}
use Rattle.survey_core.specs.Seeds.{IsSeed}
use Rattle.haul_core.specs.ClaimSteps.{HasFilled, IsHead, said_with}
use Rattle.haul_core.specs.FieldSteps.{IsVersion}
use Rattle.haul_core.specs.ReportLines.{head_fields, profile_field}
use Rattle.haul_core.specs.LawfulClaims.{IsFound}
use Rattle.haul_core.specs.Reports.{IsWorker}
use Rattle.haul_core.specs.declared.report.claim.read_start.LineStart.{LineStart}
use Rattle.haul_core.specs.declared.report.claim.read_start.WhenSettled.{WhenSettled}

nothing_found : (version : ℕ) (settled : Option WhenSettled) → settled ≡ None → IsFound version (said_with settled [])
nothing_found version None e = tt
nothing_found version (Some rested) e = absurd (cc)

pub filled_report : (head : LineStart) (field : List ℕ) → IsHead head → field ≡ codes "report" → HasFilled 0 head head field
filled_report head field h e = record { lawful = h.lawful; none = h.none; spelled = ap (λ (t : List ℕ). t ∷ []) (sym e) }

pub filled_version : (head : LineStart) (field : List ℕ) (v : ℕ) → IsHead head → IsVersion v → field ≡ decimal v
    → HasFilled 1 head (record head { version = v }) field
unfolding head_fields
filled_version head field v h lawful e = record {
  lawful = record {
    version = lawful;
    rule = h.lawful.rule;
    profile = h.lawful.profile;
    seed = h.lawful.seed;
    worker = h.lawful.worker;
    number = h.lawful.number;
    found = nothing_found v head.settled h.none;
  };
  none = h.none;
  spelled = ap (λ (t : List ℕ). codes "report" ∷ t ∷ []) (sym e);
}

pub filled_rule : (head : LineStart) (field : List ℕ) (rule : Numbers) → IsHead head → IsRule rule → field ≡ codes "rule=" ++ rule_text rule
    → HasFilled 2 head (record head { job = record { seed = head.job.seed; profile = head.job.profile; rule = rule } }) field
unfolding head_fields
filled_rule head field rule h lawful e = record {
  lawful = record {
    version = h.lawful.version;
    rule = lawful;
    profile = h.lawful.profile;
    seed = h.lawful.seed;
    worker = h.lawful.worker;
    number = h.lawful.number;
    found = h.lawful.found;
  };
  none = h.none;
  spelled = ap (λ (t : List ℕ). codes "report" ∷ decimal head.version ∷ t ∷ []) (sym e);
}

pub filled_profile : (head : LineStart) (field : List ℕ) (profile : Settling) → IsHead head → IsProfile profile → field ≡ profile_field profile
    → HasFilled 3 head (record head { job = record { seed = head.job.seed; profile = profile; rule = head.job.rule } }) field
unfolding head_fields
filled_profile head field profile h lawful e = record {
  lawful = record {
    version = h.lawful.version;
    rule = h.lawful.rule;
    profile = lawful;
    seed = h.lawful.seed;
    worker = h.lawful.worker;
    number = h.lawful.number;
    found = h.lawful.found;
  };
  none = h.none;
  spelled = ap (λ (t : List ℕ). codes "report" ∷ decimal head.version ∷ (codes "rule=" ++ rule_text head.job.rule) ∷ t ∷ []) (sym e);
}

pub filled_seed : (head : LineStart) (field seed : List ℕ) → IsHead head → IsSeed seed → field ≡ codes "seed=" ++ seed
    → HasFilled 4 head (record head { job = record { seed = seed; profile = head.job.profile; rule = head.job.rule } }) field
unfolding head_fields
filled_seed head field seed h lawful e = record {
  lawful = record {
    version = h.lawful.version;
    rule = h.lawful.rule;
    profile = h.lawful.profile;
    seed = lawful;
    worker = h.lawful.worker;
    number = h.lawful.number;
    found = h.lawful.found;
  };
  none = h.none;
  spelled =
      ap (λ (t : List ℕ). codes "report" ∷ decimal head.version ∷ (codes "rule=" ++ rule_text head.job.rule) ∷ profile_field head.job.profile ∷ t ∷ []) (sym e);
}

pub filled_worker : (head : LineStart) (field : List ℕ) (worker : ℕ) → IsHead head → IsWorker worker → field ≡ codes "worker=" ++ decimal worker
    → HasFilled 5 head (record head { worker = worker }) field
unfolding head_fields
filled_worker head field worker h lawful e = record {
  lawful = record {
    version = h.lawful.version;
    rule = h.lawful.rule;
    profile = h.lawful.profile;
    seed = h.lawful.seed;
    worker = lawful;
    number = h.lawful.number;
    found = h.lawful.found;
  };
  none = h.none;
  spelled =
      ap (λ (t : List ℕ). codes "report" ∷ decimal head.version ∷ (codes "rule=" ++ rule_text head.job.rule) ∷ profile_field head.job.profile
      ∷ (codes "seed=" ++ head.job.seed) ∷ t ∷ []) (sym e);
}

pub filled_number : (head : LineStart) (field : List ℕ) (number : ℕ) → IsHead head → number < 2 ^ 40 → field ≡ codes "soup=" ++ decimal number
    → HasFilled 6 head (record head { number = number }) field
unfolding head_fields
filled_number head field number h lawful e = record {
  lawful = record {
    version = h.lawful.version;
    rule = h.lawful.rule;
    profile = h.lawful.profile;
    seed = h.lawful.seed;
    worker = h.lawful.worker;
    number = lawful;
    found = h.lawful.found;
  };
  none = h.none;
  spelled =
      ap (λ (t : List ℕ). codes "report" ∷ decimal head.version ∷ (codes "rule=" ++ rule_text head.job.rule) ∷ profile_field head.job.profile
      ∷ (codes "seed=" ++ head.job.seed) ∷ (codes "worker=" ++ decimal head.worker) ∷ t ∷ []) (sym e);
}
