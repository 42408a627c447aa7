-- How the finding of a pattern changes if the limit of the profile is raised.
use Rattle.std.specs.Prelude.{◌<◌, ◌≤◌, ℕ, Bool, List}
use Rattle.plane_core.specs.declared.plane.cell.Cell.{Cell}
use Rattle.plane_core.specs.plane.Rules.{Numbers}
use Rattle.survey_core.specs.declared.finding.Finding.TheVariants.{Settled, Unsettled}
use Rattle.survey_core.specs.Findings.{IsFinding}
use Rattle.survey_core.specs.Profiles.{Settling}

-- the profile with another limit
abbrev pub with_limit : ℕ → Settling → Settling
with_limit limit profile = record { period = profile.period; horizon = profile.horizon; stride = profile.stride; limit = limit }

-- a pattern that settles at t under some limit also settles at t, with the same objects, under every higher limit
abbrev pub SettledStaySettled : Type 0
SettledStaySettled = (rule : Numbers) (profile : Settling) (limit : ℕ) (cells : List Cell) (t : ℕ) (objects : List (List ℕ × ℕ)) (good : Bool)
    → profile.limit ≤ limit → IsFinding rule profile cells (Settled t objects good)
    → IsFinding rule (with_limit limit profile) cells (Settled t objects good)

-- if a pattern is unsettled under one limit and settles under another, it settles later than the first limit
abbrev pub UnsettledSettleLater : Type 0
UnsettledSettleLater = (rule : Numbers) (profile : Settling) (limit : ℕ) (cells : List Cell) (t : ℕ) (objects : List (List ℕ × ℕ)) (good : Bool)
    → IsFinding rule profile cells Unsettled → IsFinding rule (with_limit limit profile) cells (Settled t objects good) → profile.limit < t
