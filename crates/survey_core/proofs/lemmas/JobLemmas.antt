-- `same_job` is true for equal jobs and for no others.
use Rattle.std.proofs.Common.{◌≡◌, ◌∙◌, ◌-◌, ℕ, Bool, List, ◌&&◌, ◌++◌, nat_eq, ap, sym, length, take, replicate, refl}
use Rattle.std.proofs.lemmas.List.{take_at}
use Rattle.std.specs.Bool.{Decides}
use Rattle.std.specs.Cmp.{booleans_Decides}
use Rattle.std.specs.Cmp.Lexicographic.{pointwise, pointwise_decides}
use Rattle.std.proofs.lemmas.Bool.Decides.{Decides-and, Decides-eqb, Decides-like, same_from_decides}
use Rattle.plane_core.specs.plane.Rules.{Numbers}
use Rattle.survey_core.specs.Profiles.{Settling}
use Rattle.survey_core.specs.Seeds.{most_bytes}
use Rattle.survey_core.specs.declared.job.Job.{Job}
use Rattle.survey_core.specs.Jobs.{same_job, same_profile, same_rule}

profiles_decide : (p q : Settling) → Decides (same_profile p q) (p ≡ q)
profiles_decide p q =
    Decides-like (same_profile p q)
    (λ e i. record { period = e.0 i; horizon = e.1.0 i; stride = e.1.1.0 i; limit = e.1.1.1 i })
    (λ e. (ap (λ (s : Settling). s.period) e, (ap (λ (s : Settling). s.horizon) e, (ap (λ (s : Settling). s.stride) e, ap (λ (s : Settling). s.limit) e))))
    (Decides-and _ _ (Decides-eqb p.period q.period) (Decides-and _ _ (Decides-eqb p.horizon q.horizon)
    (Decides-and _ _ (Decides-eqb p.stride q.stride) (Decides-eqb p.limit q.limit))))

pub rules_decide : (r s : Numbers) → Decides (same_rule r s) (r ≡ s)
rules_decide r s =
    Decides-like (same_rule r s)
    (λ e i. record { births = e.0 i; survivals = e.1 i })
    (λ e. (ap (λ (n : Numbers). n.births) e, ap (λ (n : Numbers). n.survivals) e))
    (Decides-and _ _ (pointwise_decides booleans_Decides r.births s.births) (pointwise_decides booleans_Decides r.survivals s.survivals))

pub jobs_decide : (a b : Job) → Decides (same_job a b) (a ≡ b)
jobs_decide a b =
    Decides-like (same_job a b)
    (λ e i. record { seed = e.0 i; profile = e.1.0 i; rule = e.1.1 i })
    (λ e. (ap (λ (j : Job). j.seed) e, (ap (λ (j : Job). j.profile) e, ap (λ (j : Job). j.rule) e)))
    (Decides-and _ _ (pointwise_decides Decides-eqb a.seed b.seed) (Decides-and _ _ (profiles_decide a.profile b.profile) (rules_decide a.rule b.rule)))

-- a seed padded with zeros to `most_bytes` bytes: the form in which the program stores seeds and compares them
abbrev pub padded : List ℕ → List ℕ
padded bytes = bytes ++ replicate (most_bytes - length bytes) 0

abbrev pub same_fields : Job → Job → Bool
same_fields a b =
    (pointwise nat_eq (padded a.seed) (padded b.seed) && nat_eq (length a.seed) (length b.seed))
    && (same_profile a.profile b.profile && same_rule a.rule b.rule)

pub fields_decide : (a b : Job) → Decides (same_fields a b) (a ≡ b)
fields_decide a b =
    Decides-like (same_fields a b)
    (λ e. let seeds : a.seed ≡ b.seed = sym (take_at a.seed (replicate (most_bytes - length a.seed) 0) (length a.seed) refl)
    ∙ (λ i. take (e.0.1 i) (e.0.0 i)) ∙ take_at b.seed (replicate (most_bytes - length b.seed) 0) (length b.seed) refl in
    λ i. record { seed = seeds i; profile = e.1.0 i; rule = e.1.1 i })
    (λ e. ((ap (λ (j : Job). padded j.seed) e, ap (λ (j : Job). length j.seed) e), (ap (λ (j : Job). j.profile) e, ap (λ (j : Job). j.rule) e)))
    (Decides-and _ _ (Decides-and _ _ (pointwise_decides Decides-eqb (padded a.seed) (padded b.seed)) (Decides-eqb (length a.seed) (length b.seed)))
    (Decides-and _ _ (profiles_decide a.profile b.profile) (rules_decide a.rule b.rule)))

pub same_job-fields : (a b : Job) → same_fields a b ≡ same_job a b
same_job-fields a b = same_from_decides (same_fields a b) (same_job a b) (fields_decide a b) (jobs_decide a b)
