-- `gather` takes exactly the soups of its set for which its input has correct lines.
use Rattle.std.proofs.Common.{◌≡◌, ◌∙◌, ap, sym, refl, subst, ℕ, zero, suc, ◌≤◌, ◌^◌, ◌&&◌, ◌||◌, ◌⊎◌, inl, inr, Bool, true, false, cond, nat_eq, nat_le}
use Rattle.std.proofs.Common.{List, [], ◌∷◌, ◌++◌, Any, Result, Ok, Err, Option, arith, append-nil, count_by, filter, length, map}
use Rattle.std.specs.List.{list_any}
use Rattle.std.proofs.lemmas.Bool.{and_from, and_parts, cases_Bool, eqb-true, false≢true, le-leb, leb-true, or_right}
use Rattle.survey_core.specs.declared.job.Job.{Job}
use Rattle.survey_core.specs.Jobs.{same_job}
use Rattle.survey_core.proofs.lemmas.JobLemmas.{jobs_decide}
use Rattle.std.specs.Cmp.{nat_eq_equiv}
use Rattle.std.specs.Prelude.{IsOkAnd}
use Rattle.ranges.specs.Ranges.{AreNormal, is_in}
use Rattle.haul_core.specs.declared.book.arrival.Arrival.{Arrival}
use Rattle.haul_core.specs.declared.book.arrival.Arrival.TheVariants.{Closing, Offer}
use Rattle.haul_core.specs.Books.{Terms, eligible, has_number, is_lawful, offered, taken_of}
use Rattle.haul_core.specs.ClaimChecks.{Agrees, IsConfirmed, IsFoundFor}
use Rattle.haul_core.specs.Keeping.{numbers_in}
use Rattle.haul_core.specs.LawfulClaims.{Claimed}
use Rattle.haul_core.specs.Missing.{is_taken}
use Rattle.haul_core.specs.ReportLines.{claim_of}
use Rattle.haul_core.specs.Reports.{Reported}
use Rattle.haul_core.proofs.MissingLemmas.{complete_from, none_missing}
use Rattle.haul_core.proofs.OneClaim.{one_claim}
use Rattle.haul_core.proofs.SpaceLemmas.{no_claim}
use Rattle.commands.specs.declared.line_fault.LineFault.{LineFault}
use Rattle.commands.specs.declared.line_fault.LineFault.TheVariants.{BadLine, Disagrees, Double, OtherJob, OutOfRange, UnknownWorker}
use Rattle.commands.specs.GatheredLines.{Claims, ComesOf, Faulty, Prefix, Gathered, IsChecked, IsExamined, Next, Offered, Start, Whole}
use Rattle.commands.specs.Gathering.{IsGathered, IsHaulOver, gather_opens}
use Rattle.commands.specs.SoupSets.{job_named}
use Rattle.requests.specs.declared.plan.Plan.{Plan}
use Rattle.pattern_commands.specs.declared.ending.complaint.Complaint.{Complaint}
use Rattle.commands.specs.Lines.{input_lines}
use Rattle.pattern_commands.specs.Behaviours.{Made}
use Rattle.commands.specs.CorrectLines.{GatherTakesCorrectLines, IsCorrectFor, TakesCorrectLines}
use Rattle.commands.proofs.TakenLemmas.{taken_if_eligible, taken_once}

-- ---- the report of a correct line is offered

-- the claim of a line is unique
same_claim : (line : List ℕ) (one other : Claimed) → Claims line one → Claims line other → one ≡ other
same_claim line one other h k = one_claim one other h.lawful k.lawful (h.spelled ∙ sym k.spelled)

-- a report that confirms a claim has the finding of the claim's soup, and the claim agrees with this finding
found_for : (claim : Claimed) (job : Job) (report : Reported) → IsConfirmed claim job report → IsFoundFor claim report.finding
found_for claim job report confirmed =
    subst (λ (c : Claimed). IsFoundFor c report.finding) confirmed.same_claim confirmed.lawful.finding

agrees : (claim : Claimed) (job : Job) (report : Reported) → IsConfirmed claim job report → Agrees claim report.finding
agrees claim job report confirmed = ap (λ (c : Claimed). c.found) confirmed.same_claim

-- a correct line has no fault
no_fault : (terms : Terms) (n : ℕ) (line : List ℕ) (fault : LineFault) → IsCorrectFor terms.job terms.workers n line → IsChecked terms.job line (Err fault) → ⊥
no_fault terms n line (BadLine place) correct bad =
    no_claim line place bad (record { claim = correct.claim; lawful = correct.claims.lawful; spelled = correct.claims.spelled })
no_fault terms n line OtherJob correct bad =
    let same : bad.0 ≡ correct.claim = same_claim line bad.0 correct.claim bad.1 correct.claims in
    false≢true (sym bad.2 ∙ ap (λ (c : Claimed). same_job c.job terms.job) same ∙ correct.confirmed.same)
no_fault terms n line Disagrees correct bad =
    let same : correct.claim ≡ bad.0 = same_claim line correct.claim bad.0 correct.claims bad.1 in
    bad.3 correct.report.finding
    (subst (λ (c : Claimed). IsFoundFor c correct.report.finding) same (found_for correct.claim terms.job correct.report correct.confirmed))
    (subst (λ (c : Claimed). Agrees c correct.report.finding) same (agrees correct.claim terms.job correct.report correct.confirmed))
no_fault terms n line (UnknownWorker worker) correct bad = bad
no_fault terms n line (OutOfRange number) correct bad = bad
no_fault terms n line (Double number worker) correct bad = bad

not_faulty : (terms : Terms) (n : ℕ) (line : List ℕ) (fault : LineFault) → IsCorrectFor terms.job terms.workers n line → IsExamined terms.job line (Err fault) → ⊥
not_faulty terms n line fault correct (Whole short checked) = no_fault terms n line fault correct checked
not_faulty terms n line (BadLine p) correct (Prefix place long fault) =
    let short : length line ≤ 2 ^ 24 = correct.short in
    omega (arith, long, short)

-- the report has this number, and is lawful: its job is the haul's, its worker is known, and its number is in the set
abbrev pub IsLawfulFor : Terms → ℕ → Reported → Type 0
IsLawfulFor terms n report = (report.number ≡ n) × (is_lawful terms report ≡ true)

same_jobs : (claim : Claimed) (job : Job) (report : Reported) → IsConfirmed claim job report → same_job job report.job ≡ true
same_jobs claim job report confirmed =
    let own : report.job ≡ claim.job = ap (λ (c : Claimed). c.job) confirmed.same_claim in
    let wanted : claim.job ≡ job = (jobs_decide claim.job job).0 confirmed.same in
    (jobs_decide job report.job).1 (sym (own ∙ wanted))

offered_lawful : (terms : Terms) (n : ℕ) (line : List ℕ) (report : Reported) → is_in terms.ranges n ≡ true → IsCorrectFor terms.job terms.workers n line
    → IsExamined terms.job line (Ok report) → IsLawfulFor terms n report
offered_lawful terms n line report within correct (Whole short checked) =
    let same : checked.0 ≡ correct.claim = same_claim line checked.0 correct.claim checked.1 correct.claims in
    let mine : claim_of checked.0.version report ≡ checked.0 = checked.2.same_claim in
    let theirs : claim_of correct.claim.version correct.report ≡ correct.claim = correct.confirmed.same_claim in
    let number : report.number ≡ n =
    ap (λ (c : Claimed). c.number) mine ∙ ap (λ (c : Claimed). c.number) same ∙ sym (ap (λ (c : Claimed). c.number) theirs) ∙ correct.number in
    let worker : report.worker ≡ correct.report.worker =
    ap (λ (c : Claimed). c.worker) mine ∙ ap (λ (c : Claimed). c.worker) same ∙ sym (ap (λ (c : Claimed). c.worker) theirs) in
    let known : correct.report.worker ≤ terms.workers = correct.known in (
      number,
      and_from (same_job terms.job report.job) (nat_le report.worker terms.workers && is_in terms.ranges report.number)
          (same_jobs checked.0 terms.job report checked.2)
          (and_from (nat_le report.worker terms.workers) (is_in terms.ranges report.number) (le-leb report.worker terms.workers (omega arith))
          (subst (λ (m : ℕ). is_in terms.ranges m ≡ true) (sym number) within)),
    )

-- if examining a line gives a report of a known worker, the line is correct for the report's number
correct_line : (terms : Terms) (line : List ℕ) (report : Reported) → IsExamined terms.job line (Ok report) → report.worker ≤ terms.workers
    → IsCorrectFor terms.job terms.workers report.number line
correct_line terms line report (Whole short checked) known =
    record { short = short; claim = checked.0; claims = checked.1; report = report; confirmed = checked.2; known = known; number = refl }

-- ---- the offers that come from lines, one line after another

any-push : {X : Type 0} (P : X → Type 0) (xs ys : List X) → Any P xs → Any P (xs ++ ys)
any-push P [] ys (k, x, low, is, h) = absurd (omega arith)
any-push P (y ∷ xs) ys (zero, x, low, is, h) = (0, x, omega arith, is, h)
any-push P (y ∷ xs) ys (suc k, x, low, is, h) =
    let more = any-push P xs ys (k, x, omega arith, is, h) in
    (suc more.0, more.1, omega (arith, more.2), more.3, more.4)

any-last : {X : Type 0} (P : X → Type 0) (xs : List X) (y : X) → P y → Any P (xs ++ y ∷ [])
any-last P [] y h = (0, y, omega arith, refl, h)
any-last P (x ∷ xs) y h =
    let more = any-last P xs y h in
    (suc more.0, more.1, omega (arith, more.2), more.3, more.4)

any-split : {X : Type 0} (P : X → Type 0) (xs : List X) (y : X) → Any P (xs ++ y ∷ []) → Any P xs ⊎ P y
any-split P [] y (zero, x, low, is, h) = inr (subst P (sym is) h)
any-split P [] y (suc k, x, low, is, h) = absurd (omega arith)
any-split P (z ∷ xs) y (zero, x, low, is, h) = inl (0, x, omega arith, is, h)
any-split P (z ∷ xs) y (suc k, x, low, is, h) = elim (any-split P xs y (k, x, omega arith, is, h)) [
  | inl more ↦ inl (suc more.0, more.1, omega (arith, more.2), more.3, more.4)
  | inr last ↦ inr last
]

any-weaker : {X : Type 0} (P Q : X → Type 0) → ((x : X) → P x → Q x) → (xs : List X) → Any P xs → Any Q xs
any-weaker P Q weaker xs (k, x, low, is, h) = (k, x, low, is, weaker x h)

offers-push : (arrivals : List Arrival) (reports : List Reported) (report : Reported) → arrivals ≡ map Offer reports
    → arrivals ++ Offer report ∷ [] ≡ map Offer (reports ++ report ∷ [])
offers-push arrivals [] report is = ap (λ (more : List Arrival). more ++ Offer report ∷ []) is
offers-push [] (r ∷ reports) report is = absurd (cc)
offers-push (a ∷ arrivals) (r ∷ reports) report is =
    let first : a ≡ Offer r = cc in
    let more : arrivals ≡ map Offer reports = cc in
    λ i. first i ∷ offers-push arrivals reports report more i

offers-closed : (reports : List Reported) → offered (map Offer reports ++ Closing ∷ []) ≡ reports
offers-closed [] = refl
offers-closed (r ∷ reports) = ap (λ (more : List Reported). r ∷ more) (offers-closed reports)

-- examining the line gives a lawful report that has this number
abbrev pub IsOfLawful : Terms → ℕ → List ℕ → Type 0
IsOfLawful terms n line = (report : Reported) × IsExamined terms.job line (Ok report) × IsLawfulFor terms n report

-- The arrivals offer `reports`. For each number that a lawful one of these reports has, examining some line gives a
-- lawful report that has this number. For each number of the set that has a correct line, a lawful one of these reports
-- has this number.
pub record AreOfLines (terms : Terms) (lines : List (List ℕ)) (arrivals : List Arrival) : Type 0 where
  pub reports : List Reported
  pub offers : arrivals ≡ map Offer reports
  pub sound : (n : ℕ) → Any (IsLawfulFor terms n) reports → Any (IsOfLawful terms n) lines
  pub complete : (n : ℕ) → is_in terms.ranges n ≡ true → Any (IsCorrectFor terms.job terms.workers n) lines → Any (IsLawfulFor terms n) reports

of_none : (terms : Terms) → AreOfLines terms [] []
of_none terms = record {
  reports = [];
  offers = refl;
  sound = λ n any. absurd (nothing any);
  complete = λ n within any. absurd (nothing any);
}
  where
    nothing : {X : Type 0} {P : X → Type 0} → Any P [] → ⊥
    nothing (k, x, low, is, h) = omega arith

of_more : (terms : Terms) (lines : List (List ℕ)) (before arrived : List Arrival) (line : List ℕ) (fault : Option LineFault) → AreOfLines terms lines before
    → ComesOf terms before line arrived fault → AreOfLines terms (lines ++ line ∷ []) (before ++ arrived)
of_more terms lines before arrived line fault h (Faulty why bad) = record {
  reports = h.reports;
  offers = append-nil before ∙ h.offers;
  sound = λ n any. any-push (IsOfLawful terms n) lines (line ∷ []) (h.sound n any);
  complete = λ n within any. elim (any-split (IsCorrectFor terms.job terms.workers n) lines line any) [
    | inl earlier ↦ h.complete n within earlier
    | inr here ↦ absurd (not_faulty terms n line why here bad)
  ];
}
of_more terms lines before arrived line fault h (Offered report looked) = record {
  reports = h.reports ++ report ∷ [];
  offers = offers-push before h.reports report h.offers;
  sound = λ n any. elim (any-split (IsLawfulFor terms n) h.reports report any) [
    | inl earlier ↦ any-push (IsOfLawful terms n) lines (line ∷ []) (h.sound n earlier)
    | inr here ↦ any-last (IsOfLawful terms n) lines line (report, looked, here)
  ];
  complete = λ n within any. elim (any-split (IsCorrectFor terms.job terms.workers n) lines line any) [
    | inl earlier ↦ any-push (IsLawfulFor terms n) h.reports (report ∷ []) (h.complete n within earlier)
    | inr here ↦ any-last (IsLawfulFor terms n) h.reports report (offered_lawful terms n line report within here looked)
  ];
}

of_lines : (terms : Terms) (lines : List (List ℕ)) (arrivals : List Arrival) (diagnostics : List ℕ) → Gathered terms lines arrivals diagnostics
    → AreOfLines terms lines arrivals
of_lines terms lines arrivals diagnostics Start = of_none terms
of_lines terms lines arrivals diagnostics (Next earlier before told line arrived fault gathered comes) =
    of_more terms earlier before arrived line fault (of_lines terms earlier before told gathered) comes

-- ---- which numbers are taken

any_lawful : (terms : Terms) (n : ℕ) (reports : List Reported) → Any (IsLawfulFor terms n) reports
    → list_any (has_number n) (filter (is_lawful terms) reports) ≡ true
any_lawful terms n [] (k, r, low, is, h) = absurd (omega arith)
any_lawful terms n (r ∷ reports) any = go (is_lawful terms r) refl any (any_lawful terms n reports)
  where
    go : (b : Bool) → is_lawful terms r ≡ b → Any (IsLawfulFor terms n) (r ∷ reports)
        → (Any (IsLawfulFor terms n) reports → list_any (has_number n) (filter (is_lawful terms) reports) ≡ true)
        → list_any (has_number n) (cond b (r ∷ filter (is_lawful terms) reports) (filter (is_lawful terms) reports)) ≡ true
    go b lawful (suc k, s, low, is, h) more = later b (more (k, s, omega arith, is, h))
      where
        later : (b : Bool) → list_any (has_number n) (filter (is_lawful terms) reports) ≡ true
            → list_any (has_number n) (cond b (r ∷ filter (is_lawful terms) reports) (filter (is_lawful terms) reports)) ≡ true
        later true e = or_right (has_number n r) _ e
        later false e = e
    go false lawful (zero, s, low, is, h) more =
        absurd (false≢true (sym lawful ∙ ap (is_lawful terms) is ∙ h.1))
    go true lawful (zero, s, low, is, h) more =
        let same : r.number ≡ n = ap (λ (x : Reported). x.number) is ∙ h.0 in
        ap (λ (m : ℕ). nat_eq n m || list_any (has_number n) (filter (is_lawful terms) reports)) same
        ∙ ap (λ (b : Bool). b || list_any (has_number n) (filter (is_lawful terms) reports)) (nat_eq_equiv.refl n)

lawful_any : (terms : Terms) (n : ℕ) (reports : List Reported) → list_any (has_number n) (filter (is_lawful terms) reports) ≡ true
    → Any (IsLawfulFor terms n) reports
lawful_any terms n [] h = absurd (false≢true h)
lawful_any terms n (r ∷ reports) h = go (is_lawful terms r) refl h (lawful_any terms n reports)
  where
    next : Any (IsLawfulFor terms n) reports → Any (IsLawfulFor terms n) (r ∷ reports)
    next (k, s, low, is, h) = (suc k, s, omega arith, is, h)

    go : (b : Bool) → is_lawful terms r ≡ b
        → list_any (has_number n) (cond b (r ∷ filter (is_lawful terms) reports) (filter (is_lawful terms) reports)) ≡ true
        → (list_any (has_number n) (filter (is_lawful terms) reports) ≡ true → Any (IsLawfulFor terms n) reports)
        → Any (IsLawfulFor terms n) (r ∷ reports)
    go false lawful h more = next (more h)
    go true lawful h more = elim (cases_Bool (has_number n r)) [
      | inl same ↦ (0, r, omega arith, refl, (sym (eqb-true n r.number same), lawful))
      | inr other ↦ next (more (sym (ap (λ (b : Bool). b || list_any (has_number n) (filter (is_lawful terms) reports)) other) ∙ h))
    ]

-- the worker of a lawful report is known, and the report's number is in the set
lawful_parts : (terms : Terms) (n : ℕ) (report : Reported) → IsLawfulFor terms n report → (report.worker ≤ terms.workers) × (is_in terms.ranges n ≡ true)
lawful_parts terms n report (number, lawful) =
    let parts = and_parts (same_job terms.job report.job) (nat_le report.worker terms.workers && is_in terms.ranges report.number) lawful in
    let more = and_parts (nat_le report.worker terms.workers) (is_in terms.ranges report.number) parts.1 in
    (leb-true report.worker terms.workers more.0, subst (λ (m : ℕ). is_in terms.ranges m ≡ true) number more.1)

module _ (terms : Terms) (lines : List (List ℕ)) (arrivals : List Arrival) (h : AreOfLines terms lines arrivals) where
  eligible_are : eligible terms (arrivals ++ Closing ∷ []) ≡ filter (is_lawful terms) h.reports
  eligible_are =
      ap (λ (more : List Arrival). filter (is_lawful terms) (offered (more ++ Closing ∷ []))) h.offers
      ∙ ap (filter (is_lawful terms)) (offers-closed h.reports)

  -- a number is taken if and only if a lawful report has it
  pub taken_is : (n : ℕ) → is_taken (taken_of terms (arrivals ++ Closing ∷ [])) n ≡ list_any (has_number n) (filter (is_lawful terms) h.reports)
  taken_is n = taken_if_eligible terms (arrivals ++ Closing ∷ []) n ∙ ap (list_any (has_number n)) eligible_are

  pub taken_sound : (n : ℕ) → is_taken (taken_of terms (arrivals ++ Closing ∷ [])) n ≡ true
      → (is_in terms.ranges n ≡ true) × Any (IsCorrectFor terms.job terms.workers n) lines
  taken_sound n taken =
      let any = lawful_any terms n h.reports (sym (taken_is n) ∙ taken) in
      let there = h.sound n any in (
        (lawful_parts terms n any.1 any.4).1,
        any-weaker (IsOfLawful terms n) (IsCorrectFor terms.job terms.workers n)
            (λ line found. subst (λ (m : ℕ). IsCorrectFor terms.job terms.workers m line) found.2.0
            (correct_line terms line found.0 found.1 (lawful_parts terms n found.0 found.2).0)) lines there,
      )

  pub taken_complete : (n : ℕ) → is_in terms.ranges n ≡ true → Any (IsCorrectFor terms.job terms.workers n) lines
      → is_taken (taken_of terms (arrivals ++ Closing ∷ [])) n ≡ true
  taken_complete n within any = taken_is n ∙ any_lawful terms n h.reports (h.complete n within any)

-- ---- the law

tells : (terms : Terms) (bytes : List ℕ) (made : Made) → AreNormal terms.ranges → IsGathered terms bytes made → TakesCorrectLines terms bytes made
tells terms bytes made normal g = record {
  numbers = numbers_in g.taken;
  once = λ n. subst (λ (taken : List (ℕ × ℕ)). count_by (nat_eq n) (numbers_in taken) ≤ 1) (sym g.taken_is) (taken_once terms (g.arrivals ++ Closing ∷ []) n);
  correct = λ n. (
    λ taken. taken_sound terms (input_lines bytes) g.arrivals lines n (sym (same n) ∙ taken),
    λ found. same n ∙ taken_complete terms (input_lines bytes) g.arrivals lines n found.0 found.1,
  );
  census = g.census;
  counted = g.counted;
  text_is = g.text_is;
  whole = (
    λ none n within. (taken_sound terms (input_lines bytes) g.arrivals lines n
        (sym (same n) ∙ complete_from terms.ranges g.taken normal (sym g.missing_is ∙ none) n within)).1,
    λ each. g.missing_is ∙ none_missing terms.ranges g.taken normal
        (λ n within. same n ∙ taken_complete terms (input_lines bytes) g.arrivals lines n within (each n within)),
  );
}
  where
    lines : AreOfLines terms (input_lines bytes) g.arrivals
    lines = of_lines terms (input_lines bytes) g.arrivals made.diagnostics g.gathered

    same : (n : ℕ) → is_taken g.taken n ≡ is_taken (taken_of terms (g.arrivals ++ Closing ∷ [])) n
    same n = ap (λ (taken : List (ℕ × ℕ)). is_taken taken n) g.taken_is

-- the ranges of a haul that may be opened are in normal form
opened_normal : (plan : Plan) (workers : ℕ) (terms : Terms) → gather_opens plan workers terms → AreNormal terms.ranges
opened_normal plan workers terms opened = go (job_named plan) opened
  where
    go : (job : Result Job Complaint) → IsOkAnd job (λ job. IsHaulOver plan.set workers job terms) → AreNormal terms.ranges
    go (Ok job) over = over.form.normal_form
    go (Err complaint) over = absurd over

pub gather_takes_correct_lines : GatherTakesCorrectLines
gather_takes_correct_lines plan workers bytes made g = record {
  terms = g.terms;
  opened = g.opened;
  tells = tells g.terms bytes made (opened_normal plan workers g.terms g.opened) g.is;
}
