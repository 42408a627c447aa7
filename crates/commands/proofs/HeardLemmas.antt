-- The reports that an observer was handed are correct reports on soups of the plan (`AreReportsOf`).
use Rattle.std.proofs.Common.{◌≡◌, ◌∙◌, ◌≤◌, ◌++◌, ℕ, All, Bool, List, [], ◌∷◌, Option, ap, arith, cond, false, map, nat_eq, refl, subst, sym, true, true≢false, ⊎_elim}
use Rattle.std.specs.Prelude.{count_by}
use Rattle.haul_core.specs.Books.{Held, Terms, entry}
use Rattle.haul_core.specs.Keeping.{numbers_in}
use Rattle.haul_core.specs.Missing.{AreAll}
use Rattle.haul_core.specs.Reports.{Reported}
use Rattle.haul_core.specs.Subsequences.{IsSubsequence}
use Rattle.ranges.specs.Ranges.{is_in}
use Rattle.survey_core.specs.declared.job.Job.{Job}
use Rattle.plane_core.specs.Outputs.{Output}
use Rattle.crew.proofs.ListLemmas.{count_cons}
use Rattle.crew.proofs.OnceLemmas.{of_reported}
use Rattle.crew.specs.Takes.{HasHeardCrew, times_reported}
use Rattle.requests.specs.declared.plan.Plan.{Plan}
use Rattle.commands.specs.LateReports.{PutsReports}
use Rattle.commands.specs.Reporting.{AreReportsOf}
use Rattle.commands.specs.TakeSteps.{IsOpenedFor}
use Rattle.commands.proofs.TakeLemmas.{in_set}
use native.Mathlib.Decide.{dec_le}

-- a subsequence of reports has no more reports on a soup than the whole list
times_part : (n : ℕ) (part reports : List Reported) → IsSubsequence part reports → times_reported n part ≤ times_reported n reports
times_part n part [] p = let same = ap (times_reported n) p in omega (arith, same)
times_part n part (r ∷ rs) p =
    let number : Reported → ℕ = λ s. s.number in
    let all = count_cons (nat_eq n) r.number (map number rs) in
    ⊎_elim (λ (q : IsSubsequence part rs). let few = times_part n part rs q in omega (arith, all, few))
    (λ (q : (remainder : List Reported) × (part ≡ r ∷ remainder) × IsSubsequence remainder rs).
    let few = times_part n q.0 rs q.2 in
    let both = ap (times_reported n) q.1 ∙ count_cons (nat_eq n) r.number (map number q.0) in
    omega (arith, all, few, both)) p

-- the entries of reports have the numbers of the reports
entry_numbers : (reports : List Reported) → numbers_in (map entry reports) ≡ map (λ r. r.number) reports
entry_numbers [] = refl
entry_numbers (r ∷ rs) = ap (λ (l : List ℕ). r.number ∷ l) (entry_numbers rs)

module _ {lets : ℕ → ℕ → Type 0} {V : Type 0} {contents : V → Option (List ℕ)} {plan : Plan} {workers from : ℕ} {opened held : Held} {old new : Output V}
    (is : IsOpenedFor plan workers opened) (h : HasHeardCrew lets workers opened held (PutsReports contents from old new)) where
  pub reports_within : All (λ (r : Reported). is_in is.opened.over.ranges r.number ≡ true) h.reports
  reports_within k d lt = in_set is.opened.over.ranges opened.terms.ranges opened.taken _ is.opened.over.form (h.missing k d lt)

  -- `AreReportsOf` holds for the reports
  abbrev pub reports_of_plan : AreReportsOf plan workers h.reports
  reports_of_plan = record {
    job = is.job;
    job_is = is.named;
    ranges = is.opened.over.ranges;
    named = is.opened.over.named;
    right = h.heard.right;
    of_job = subst (λ (j : Job). All (λ (r : Reported). r.job ≡ j) h.reports) is.opened.job_is h.job;
    by_workers = h.by_workers;
    within = reports_within;
    once = h.once;
  }

  -- if the haul is complete, there is one report on each soup of the plan
  pub reports_on_all : AreAll held.terms.ranges (numbers_in held.taken) → AreAll is.opened.over.ranges (map (λ r. r.number) h.reports)
  reports_on_all all n = go (is_in is.opened.over.ranges n) refl
    where
      in_all : is_in held.terms.ranges n ≡ is_in is.opened.over.ranges n
      in_all = ap (λ (t : Terms). is_in t.ranges n) h.added.terms ∙ is.opened.over.form.same n

      numbers : numbers_in held.taken ≡ map (λ r. r.number) h.offers
      numbers =
          ap numbers_in (h.added.taken ∙ ap (λ (l : List (ℕ × ℕ)). l ++ map entry h.offers) is.opened.stands.taken) ∙ entry_numbers h.offers

      offered : times_reported n h.offers ≡ cond {A = ℕ} (is_in is.opened.over.ranges n) 1 0
      offered = sym (ap (count_by (nat_eq n)) numbers) ∙ all n ∙ ap (λ (b : Bool). cond {A = ℕ} b 1 0) in_all

      few : times_reported n h.offers ≤ times_reported n h.reports
      few = times_part n h.offers h.reports h.some

      go : (b : Bool) → is_in is.opened.over.ranges n ≡ b → times_reported n h.reports ≡ cond {A = ℕ} (is_in is.opened.over.ranges n) 1 0
      go true inside =
          let one : cond {A = ℕ} (is_in is.opened.over.ranges n) 1 0 ≡ 1 = ap (λ (b : Bool). cond {A = ℕ} b 1 0) inside in
          let once = h.once n in
          omega (arith, one, once, offered, few)
      go false outside =
          let none : cond {A = ℕ} (is_in is.opened.over.ranges n) 1 0 ≡ 0 = ap (λ (b : Bool). cond {A = ℕ} b 1 0) outside in
          elim (dec_le 1 (times_reported n h.reports)) [
            | yes some ↦ absurd (true≢false (sym (of_reported (λ m. is_in is.opened.over.ranges m ≡ true) n h.reports reports_within some) ∙ outside))
            | no nothing ↦ omega (arith, none, nothing)
          ]
