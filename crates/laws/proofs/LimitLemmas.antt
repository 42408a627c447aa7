-- When a pattern is at rest, and which generations are checkpoints, if the profile has another limit.
use Rattle.std.proofs.Common.{ℕ, ◌≤◌, List, arith}
use Rattle.std.proofs.lemmas.Bool.{cases_lt}
use Rattle.std.proofs.Common.{inl, inr}
use Rattle.plane_core.specs.declared.plane.cell.Cell.{Cell}
use Rattle.plane_core.specs.plane.Rules.{Numbers}
use Rattle.survey_core.specs.Profiles.{IsCheckpoint, Settling}
use Rattle.survey_core.specs.rest.Rest.{IsAtRest, RestsAs}
use Rattle.laws.specs.Limits.{SettledStaySettled, UnsettledSettleLater, with_limit}

-- whether a pattern is at rest doesn't depend on the limit
rest_under : (rule : Numbers) (profile : Settling) (limit : ℕ) (cells : List Cell) (clusters : List (List Cell)) → RestsAs rule profile cells clusters
    → RestsAs rule (with_limit limit profile) cells clusters
rest_under rule profile limit cells clusters rest = record { parts = rest.parts; back = rest.back; apart = rest.apart }

rest_over : (rule : Numbers) (profile : Settling) (limit : ℕ) (cells : List Cell) → IsAtRest rule (with_limit limit profile) cells
    → IsAtRest rule profile cells
rest_over rule profile limit cells (clusters, rest) = (clusters, record { parts = rest.parts; back = rest.back; apart = rest.apart })

-- a checkpoint under one limit is also a checkpoint under every limit that isn't below the checkpoint
checkpoint_under : (profile : Settling) (limit t : ℕ) → t ≤ limit → IsCheckpoint profile t → IsCheckpoint (with_limit limit profile) t
checkpoint_under profile limit t low here = record { place = here.place; is = here.is; within = low }

checkpoint_over : (profile : Settling) (limit t : ℕ) → t ≤ profile.limit → IsCheckpoint (with_limit limit profile) t → IsCheckpoint profile t
checkpoint_over profile limit t low here = record { place = here.place; is = here.is; within = low }

pub settled_stay_settled : SettledStaySettled
settled_stay_settled rule profile limit cells t objects good low finding =
    let within : t ≤ profile.limit = finding.0.within in (
      checkpoint_under profile limit t (omega arith) finding.0,
      λ u here less rest. finding.1 u (checkpoint_over profile limit u (omega arith) here) less (rest_over rule profile limit _ rest),
      record {
        clusters = finding.2.clusters;
        rest = rest_under rule profile limit _ finding.2.clusters finding.2.rest;
        counted = finding.2.counted;
        good = finding.2.good;
      },
    )

pub unsettled_settle_later : UnsettledSettleLater
unsettled_settle_later rule profile limit cells t objects good never finding = elim (cases_lt profile.limit t) [
  | inl later ↦ later
  | inr low ↦ absurd (never t (checkpoint_over profile limit t low finding.0)
      (rest_over rule profile limit _ (finding.2.clusters, finding.2.rest)))
]
