-- When two jobs are the same.
use Rattle.std.specs.Prelude.{◌≡◌, ◌==◌, ◌&&◌, ◌↔◌, Bool, true, nat_eq}
use Rattle.std.specs.Bool.{beq}
use Rattle.std.specs.Cmp.Lexicographic.{pointwise}
use Rattle.plane_core.specs.plane.Rules.{Numbers}
use Rattle.survey_core.specs.Profiles.{Settling}
use Rattle.survey_core.specs.declared.job.Job.{Job}

-- two profiles have the same four numbers
abbrev pub same_profile : Settling → Settling → Bool
same_profile p q = (p.period == q.period) && ((p.horizon == q.horizon) && ((p.stride == q.stride) && (p.limit == q.limit)))

-- two rules have the same births and survivals
abbrev pub same_rule : Numbers → Numbers → Bool
same_rule r s = pointwise beq r.births s.births && pointwise beq r.survivals s.survivals

-- two jobs have the same seed, profile and rule
abbrev pub same_job : Job → Job → Bool
same_job a b = pointwise nat_eq a.seed b.seed && (same_profile a.profile b.profile && same_rule a.rule b.rule)

-- `same_job` is true for equal jobs and for no others
abbrev pub SameJobsAreEqual : Type 0
SameJobsAreEqual = (a b : Job) → (same_job a b ≡ true) ↔ (a ≡ b)
