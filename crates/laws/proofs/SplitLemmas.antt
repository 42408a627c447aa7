-- If each soup of a set is worked on by a call of `work`, `gather` makes what `take` prints for the set.
use Rattle.std.proofs.Common.{◌≡◌, ◌∙◌, ap, sym, refl, subst, ℕ, suc, ◌<◌, ◌≤◌, ◌^◌, Bool, true, false, cond, nat_eq, nat_le, List, [], ◌∷◌, ◌++◌}
use Rattle.std.proofs.Common.{◌||◌, inl, inr, Result, Ok, Err, Option, None, Some, nat_lt, arith, count_by, flat_map, length, map}
use Rattle.std.specs.List.{AllByRecursion, Contains, list_any, position}
use Rattle.std.specs.Result.{result_map_both}
use Rattle.std.specs.Prelude.{IsOkAnd, MatchResult}
use Rattle.std.proofs.lemmas.Bool.{cases_Bool, eqb-true, false≢true, leb-false, leb-true, ltb-false}
use Rattle.std.proofs.lemmas.List.{get_or-map, length-map}
use Rattle.std.proofs.lemmas.List.Elements.{All-contains}
use Rattle.survey_core.specs.declared.job.Job.{Job}
use Rattle.survey_core.specs.Profiles.{IsProfile, Settling}
use Rattle.survey_core.specs.Soups.{soup}
use Rattle.survey_core.specs.Seeds.{IsSeed, is_invisible, most_bytes, seed_read, seed_with_fault}
use Rattle.survey_core.specs.declared.seed.SeedFault.{SeedFault}
use Rattle.survey_core.specs.declared.seed.SeedFault.TheVariants.{TooLong as TooLongSeed}
use Rattle.survey_core.proofs.lemmas.SeedLemmas.{all_visible}
use Rattle.survey_core.proofs.lemmas.DeterminedLemmas.{findings_determined}
use Rattle.plane_core.specs.plane.Rules.{Numbers, rule_read}
use Rattle.plane_core.specs.declared.plane.rule.RuleFault.{RuleFault}
use Rattle.plane_core.proofs.lemmas.plane.RuleReading.{reads_rule}
use Rattle.plane_core.proofs.lemmas.plane.PartLemmas.{false_unless}
use Rattle.ranges.specs.declared.range.Range.{Range}
use Rattle.ranges.specs.Ranges.{AreSmall, Overlap, is_in}
use Rattle.ranges.proofs.ListLemmas.{one_list}
use Rattle.haul_core.specs.Books.{Terms}
use Rattle.haul_core.specs.Censuses.{IsCensus}
use Rattle.haul_core.specs.HaulTexts.{text_of}
use Rattle.haul_core.specs.ClaimChecks.{IsConfirmed}
use Rattle.haul_core.specs.LawfulClaims.{IsClaim}
use Rattle.haul_core.specs.Missing.{numbers_of}
use Rattle.haul_core.specs.ReportLines.{claim_line, claim_of, report_text}
use Rattle.haul_core.specs.Reports.{IsReport, Reported}
use Rattle.haul_core.proofs.CheckLemmas.{report_is_claim, report_is_confirmed}
use Rattle.haul_core.proofs.MissingLemmas.{counted_numbers}
use Rattle.haul_core.proofs.NumberLemmas.{any_counted}
use Rattle.requests.specs.declared.plan.Plan.{Plan}
use Rattle.requests.specs.declared.plan.SoupSet.{SoupSet}
use Rattle.pattern_commands.specs.Answers.{IsRightGiven, given}
use Rattle.pattern_commands.specs.declared.ending.complaint.Complaint.{Complaint}
use Rattle.pattern_commands.specs.declared.ending.complaint.Complaint.TheVariants.{Memory, ReadFailed, Refused, TooLong, WriteFailed}
use Rattle.pattern_commands.specs.declared.ending.refusal.Refusal.{Refusal}
use Rattle.pattern_commands.specs.declared.ending.refusal.Refusal.TheVariants.{HorizonBelowPeriod}
use Rattle.requests.specs.declared.plan.ProfileNumbers.{ProfileNumbers}
use Rattle.pattern_commands.specs.Profiles.{AreInRange, profile_named, settling}
use Rattle.pattern_commands.specs.Inputs.{rule_complaint, rule_named}
use Rattle.pattern_commands.specs.Soup.{seed_complaint}
use Rattle.commands.specs.Gathering.{IsHaulOver}
use Rattle.commands.specs.Lines.{IsOneLine, input_lines}
use Rattle.commands.specs.SoupSets.{AreRangesOf, Bad_list, IsRefused, IsRightForSet, IsTextOf, Overlapping, Too_large, job_named}
use Rattle.commands.specs.Take.{TellsAll, take_right}
use Rattle.commands.specs.Work.{AreReportsOn, IsReportOn, TellsReports}
use Rattle.commands.specs.CorrectLines.{HasCorrectLine, IsOfCorrectLines, TakesCorrectLines}
use Rattle.laws.specs.SplitWork.{IsAccepted, IsWorkedOn, OneRightText, SplitWorkIsWhole}
use Rattle.laws.specs.HaulTexts.{IsJob}
use Rattle.laws.proofs.CensusLemmas.{complete_hauls}
use Rattle.commands.proofs.CorrectLineLemmas.{gather_takes_correct_lines}
use Rattle.laws.proofs.LineLemmas.{claim_one_line, lines_of_text}
use Rattle.laws.proofs.ShapeLemmas.{small_finding, soup_close}

-- ---- a set has one list of ranges

same_ranges : (set : SoupSet) (one other : List Range) → AreRangesOf set one → AreRangesOf set other → one ≡ other
same_ranges set one other h k =
    let listed : h.listed ≡ k.listed = one_list h.listed k.listed h.fit k.fit (h.spelled ∙ sym k.spelled) in
    h.all ∙ ap (λ (rs : List Range). rs ++ record { first = set.first; count = set.count } ∷ []) listed ∙ sym k.all

-- ---- only one text is right for `take`

right_again : (plan : Plan) (job : Job) (text : List ℕ) → job_named plan ≡ Ok job → IsTextOf plan.set (TellsAll job) text → take_right plan (Ok text)
right_again plan job text is right =
    subst (λ (named : Result Job Complaint). IsRightGiven named (λ job. IsRightForSet plan.set (TellsAll job)) (Ok text)) (sym is) right

one_text : (set : SoupSet) (job : Job) (one other : List ℕ) → IsTextOf set (TellsAll job) one → IsTextOf set (TellsAll job) other → one ≡ other
one_text set job one other h k =
    let ranges : h.ranges ≡ k.ranges = same_ranges set h.ranges k.ranges h.named k.named in
    let a = h.is_text in
    let b = k.is_text in
    let sets : (n : ℕ) → is_in a.normal n ≡ is_in b.normal n =
    λ n. a.form.same n ∙ ap (λ (rs : List Range). is_in rs n) ranges ∙ sym (b.form.same n) in
    a.text_is ∙ complete_hauls findings_determined job a.normal b.normal a.numbers b.numbers a.census b.census a.form.normal_form b.form.normal_form sets
    (λ n. a.all n ∙ ap (λ (b : Bool). cond {A = ℕ} b 1 0) (sym (a.form.same n)))
    (λ n. b.all n ∙ ap (λ (b : Bool). cond {A = ℕ} b 1 0) (sym (b.form.same n))) a.counted b.counted
    ∙ sym b.text_is

pub one_right_text : OneRightText
one_right_text plan one other h k = go (job_named plan) h k
  where
    go : (named : Result Job Complaint) → IsRightGiven named (λ job. IsRightForSet plan.set (TellsAll job)) (Ok one)
        → IsRightGiven named (λ job. IsRightForSet plan.set (TellsAll job)) (Ok other) → one ≡ other
    go (Ok job) h k = one_text plan.set job one other h k
    go (Err complaint) h k = absurd (cc)

-- ---- a valid job

read_seed : (text seed : List ℕ) → seed_read text ≡ Ok seed → IsSeed seed
read_seed text seed is = go (nat_lt most_bytes (length text)) refl is
  where
    found : length text ≤ 64 → (o : Option ℕ) → position is_invisible text ≡ o → seed_with_fault text o ≡ Ok seed → IsSeed seed
    found short None none is =
        let same : text ≡ seed = cc in
        subst IsSeed same (record { short = short; visible = all_visible text none })
    found short (Some place) at is = absurd (cc)

    go : (b : Bool) → nat_lt most_bytes (length text) ≡ b → cond b (Err TooLongSeed) (seed_with_fault text (position is_invisible text)) ≡ Ok seed
        → IsSeed seed
    go true e is = absurd (cc)
    go false e is = found (ltb-false 64 (length text) e) (position is_invisible text) refl is

profile_valid : (numbers : ProfileNumbers) → AreInRange numbers → numbers.period ≤ numbers.horizon → IsProfile (settling numbers)
profile_valid numbers h ahead =
    record { some = h.some; period = h.period; ahead = ahead; horizon = h.horizon; onward = h.onward; stride = h.stride; limit = h.limit }

job_valid : (plan : Plan) (job : Job) → AreInRange plan.profile → job_named plan ≡ Ok job → IsJob job
job_valid plan job range is = go_seed (seed_read plan.set.seed) refl is
  where
    go_rule : (seed : List ℕ) → IsSeed seed → (profile : Settling) → IsProfile profile → (read : Result Numbers RuleFault) → rule_read plan.rule ≡ read
        → given (result_map_both (λ (rule : Numbers). rule) rule_complaint read) (λ rule. Ok (record { seed = seed; profile = profile; rule = rule })) ≡ Ok job
        → IsJob job
    go_rule seed s profile p (Ok rule) read is =
        let same : record { seed = seed; profile = profile; rule = rule } ≡ job = cc in
        subst IsJob same (record { seed = s; rule = reads_rule plan.rule rule (sym read); profile = p })
    go_rule seed s profile p (Err fault) read is = absurd (cc)

    go_profile : (seed : List ℕ) → IsSeed seed → (b : Bool) → nat_le plan.profile.period plan.profile.horizon ≡ b
        → given (cond b (Ok (settling plan.profile)) (Err (Refused HorizonBelowPeriod))) (λ profile. given (rule_named plan.rule) (λ rule.
        Ok (record { seed = seed; profile = profile; rule = rule }))) ≡ Ok job → IsJob job
    go_profile seed s true low is =
        go_rule seed s (settling plan.profile) (profile_valid plan.profile range (leb-true _ _ low)) (rule_read plan.rule) refl is
    go_profile seed s false low is = absurd (cc)

    go_seed : (read : Result (List ℕ) SeedFault) → seed_read plan.set.seed ≡ read
        → given (result_map_both (λ (seed : List ℕ). seed) seed_complaint read) (λ seed. given (profile_named plan.profile) (λ profile. given (rule_named plan.rule) (λ rule.
        Ok (record { seed = seed; profile = profile; rule = rule })))) ≡ Ok job → IsJob job
    go_seed (Ok seed) read is =
        go_profile seed (read_seed plan.set.seed seed read) (nat_le plan.profile.period plan.profile.horizon) refl is
    go_seed (Err fault) read is = absurd (cc)

-- ---- from a report to a correct line

-- if `n` is among the numbers, one of the reports is on soup `n`
report_among : (job : Job) (worker n : ℕ) (numbers : List ℕ) (reports : List Reported) → AreReportsOn job worker numbers reports
    → list_any (nat_eq n) numbers ≡ true → (report : Reported) × IsReportOn job worker n report × Contains reports report
report_among job worker n [] reports each h = absurd (false≢true h)
report_among job worker n (m ∷ numbers) [] each h = absurd each
report_among job worker n (m ∷ numbers) (r ∷ reports) each h = elim (cases_Bool (nat_eq n m)) [
  | inl same ↦
      let here : m ≡ n = sym (eqb-true n m same) in
      (r, subst (λ (k : ℕ). IsReportOn job worker k r) here each.0, (0, omega arith, refl))
  | inr other ↦
      let more = report_among job worker n numbers reports each.1 (sym (ap (λ (b : Bool). b || list_any (nat_eq n) numbers) other) ∙ h) in
      (more.0, more.1, (suc more.2.0, omega (arith, more.2.1), more.2.2))
]

-- the line of a report, without its line feed
line_in : Reported → List ℕ
line_in report = claim_line (claim_of 2 report)

-- a report of a valid job makes a lawful claim
report_claims : (job : Job) (report : Reported) → IsJob job → report.job ≡ job → IsReport report → IsClaim (claim_of 2 report)
report_claims job report valid is found =
    let own : IsJob report.job = subst IsJob (sym is) valid in
    report_is_claim report found own.rule own.profile own.seed
    (small_finding report.job.rule report.job.profile (soup report.job.seed report.number) report.finding own.profile
    (soup_close report.job.seed report.number) found.finding).shape

lines_whole : (job : Job) (worker : ℕ) (numbers : List ℕ) (reports : List Reported) → IsJob job → AreReportsOn job worker numbers reports
    → AllByRecursion IsOneLine (map line_in reports)
unfolding line_in
lines_whole job worker [] [] valid each = tt
lines_whole job worker [] (r ∷ reports) valid each = absurd each
lines_whole job worker (n ∷ numbers) [] valid each = absurd each
lines_whole job worker (n ∷ numbers) (r ∷ reports) valid each =
    (claim_one_line (claim_of 2 r) (report_claims job r valid each.0.job_is each.0.found), lines_whole job worker numbers reports valid each.1)

texts_spelled : (reports : List Reported) → flat_map report_text reports ≡ text_of (map line_in reports)
unfolding line_in text_of
texts_spelled [] = refl
texts_spelled (r ∷ reports) = ap (λ (more : List ℕ). (claim_line (claim_of 2 r) ++ 10 ∷ []) ++ more) (texts_spelled reports)

-- the lines that `work` prints are the lines of its reports
work_lines : (job : Job) (worker : ℕ) (numbers : List ℕ) (reports : List Reported) (text : List ℕ) → IsJob job → AreReportsOn job worker numbers reports
    → text ≡ flat_map report_text reports → input_lines text ≡ map line_in reports
work_lines job worker numbers reports text valid each is =
    ap input_lines (is ∙ texts_spelled reports) ∙ lines_of_text (map line_in reports) (lines_whole job worker numbers reports valid each)

contains_line : (reports : List Reported) (report : Reported) → Contains reports report → Contains (map line_in reports) (line_in report)
contains_line reports report (k, low, is) =
    (k, subst (λ (n : ℕ). k < n) (sym (length-map reports line_in)) low, get_or-map line_in reports k report (line_in report) low ∙ ap line_in is)

-- if a call of `work` worked on a soup, the input has a correct line for the soup
worked_line : (plan : Plan) (job : Job) (workers : ℕ) (bytes : List ℕ) (n : ℕ) (terms : Terms) → IsJob job → terms.job ≡ job → terms.workers ≡ workers
    → IsWorkedOn job workers bytes n → HasCorrectLine terms.job terms.workers bytes n
unfolding line_in
worked_line plan job workers bytes n terms valid job_is workers_are w = (
  there.0,
  line_in found.0,
  there.1,
  there.2,
  record {
    short = All-contains (λ line. length line ≤ 2 ^ 24) (input_lines w.text) (line_in found.0) w.short printed;
    claim = claim_of 2 found.0;
    claims = record { lawful = report_claims job found.0 valid found.1.job_is found.1.found; spelled = refl };
    report = found.0;
    confirmed = subst (λ (j : Job). IsConfirmed (claim_of 2 found.0) j found.0) (found.1.job_is ∙ sym job_is) (report_is_confirmed found.0 found.1.found);
    known = known;
    number = found.1.number_is;
  },
)
  where
    right : IsTextOf w.plan.set (TellsReports job w.worker) w.text
    right = subst (λ (named : Result Job Complaint). IsRightGiven named (λ job. IsRightForSet w.plan.set (TellsReports job w.worker)) (Ok w.text)) w.job_is w.right

    tells : TellsReports job w.worker right.ranges w.text
    tells = right.is_text

    within : is_in tells.normal n ≡ true
    within =
        tells.form.same n
        ∙ ap (λ (rs : List Range). is_in rs n) (same_ranges w.plan.set right.ranges w.has.ranges right.named w.has.named) ∙ w.has.within

    listed : list_any (nat_eq n) (numbers_of tells.normal) ≡ true
    listed =
        any_counted n (numbers_of tells.normal)
        ∙ ap (nat_le 1) (counted_numbers n tells.normal tells.form.normal_form ∙ ap (λ (b : Bool). cond {A = ℕ} b 1 0) within)

    found : (report : Reported) × IsReportOn job w.worker n report × Contains tells.reports report
    found = report_among job w.worker n (numbers_of tells.normal) tells.reports tells.each listed

    printed : Contains (input_lines w.text) (line_in found.0)
    printed = subst (λ (ls : List (List ℕ)). Contains ls (line_in found.0))
        (sym (work_lines job w.worker (numbers_of tells.normal) tells.reports w.text valid tells.each tells.text_is))
        (contains_line tells.reports found.0 found.2)

    there : Contains (input_lines bytes) (line_in found.0)
    there = All-contains (Contains (input_lines bytes)) (input_lines w.text) (line_in found.0) w.passed_on printed

    known : found.0.worker ≤ terms.workers
    known =
        let worker : found.0.worker ≡ w.worker = found.1.worker_is in
        let low : w.worker ≤ workers = w.known in
        omega (arith, worker, low, workers_are)

-- ---- `gather` makes what `take` prints

-- if the job and the set of a plan are valid, `IsRefused` holds for no refusal of the set
not_refused : (plan : Plan) (job : Job) (refusal : Refusal) → IsAccepted plan job → IsRefused plan.set refusal → ⊥
not_refused plan job refusal accepted (Bad_list none place fault is) =
    none (record { ranges = accepted.named.listed; fit = accepted.named.fit; spelled = accepted.named.spelled })
not_refused plan job refusal accepted (Too_large ranges named large is) =
    large (subst AreSmall (same_ranges plan.set accepted.ranges ranges accepted.named named) accepted.small)
not_refused plan job refusal accepted (Overlapping ranges named small overlap is) =
    accepted.apart (subst Overlap (same_ranges plan.set ranges accepted.ranges named accepted.named) overlap)

-- if a list has exactly the numbers of a set, each at most once, then a number occurs in the list once if it is in the
-- set, and not at all otherwise
counted_once : (numbers : List ℕ) (n : ℕ) (within : Bool) → count_by (nat_eq n) numbers ≤ 1
    → (within ≡ true → list_any (nat_eq n) numbers ≡ true) → (list_any (nat_eq n) numbers ≡ true → within ≡ true)
    → count_by (nat_eq n) numbers ≡ cond {A = ℕ} within 1 0
counted_once numbers n true once there back =
    let some : 1 ≤ count_by (nat_eq n) numbers = leb-true 1 (count_by (nat_eq n) numbers) (sym (any_counted n numbers) ∙ there refl) in
    omega (arith, once, some)
counted_once numbers n false once there back =
    let none : count_by (nat_eq n) numbers < 1 = leb-false 1 (count_by (nat_eq n) numbers) (sym (any_counted n numbers)
    ∙ false_unless (list_any (nat_eq n) numbers) (λ h. false≢true (back h))) in
    omega (arith, none)

pub split_work_is_whole : SplitWorkIsWhole
split_work_is_whole plan job workers bytes (Ok made) accepted short each right = (
  right_again plan job made.text accepted.job_is (record {
    ranges = over.ranges;
    named = over.named;
    small = over.small;
    apart = over.apart;
    is_text = record {
      numbers = tells.numbers;
      all = λ n. counted_once tells.numbers n (is_in terms.ranges n) (tells.once n)
          (λ within. (tells.correct n).1 (within, every n within)) (λ taken. ((tells.correct n).0 taken).0)
          ∙ ap (λ (b : Bool). cond {A = ℕ} b 1 0) (over.form.same n);
      normal = terms.ranges;
      form = over.form;
      census = tells.census;
      counted = subst (λ (j : Job). IsCensus j terms.ranges tells.numbers tells.census) over.job_is tells.counted;
      text_is = tells.text_is;
    };
  }),
  tells.whole.1 every,
)
  where
    correct : IsOfCorrectLines plan workers bytes made
    correct = gather_takes_correct_lines plan workers bytes made right

    terms : Terms
    terms = correct.terms

    tells : TakesCorrectLines correct.terms bytes made
    tells = correct.tells

    over : IsHaulOver plan.set workers job correct.terms
    over = subst (λ (named : Result Job Complaint). IsOkAnd named (λ job. IsHaulOver plan.set workers job correct.terms)) accepted.job_is correct.opened

    every : (n : ℕ) → is_in correct.terms.ranges n ≡ true → HasCorrectLine correct.terms.job correct.terms.workers bytes n
    every n within =
        worked_line plan job workers bytes n correct.terms (job_valid plan job accepted.profile accepted.job_is) over.job_is over.workers_are
        (each n (record { ranges = over.ranges; named = over.named; within = sym (over.form.same n) ∙ within }))
split_work_is_whole plan job workers bytes (Err (Refused refusal)) accepted short each right =
    not_refused plan job refusal accepted (subst (λ (named : Result Job Complaint).
    MatchResult named (λ job. IsRefused plan.set refusal) (λ complaint. complaint ≡ Refused refusal)) accepted.job_is right)
split_work_is_whole plan job workers bytes (Err TooLong) accepted short each right =
    let long : 2 ^ 32 < length bytes = right.2 in
    absurd (omega (arith, long, short))
split_work_is_whole plan job workers bytes (Err (Memory error)) accepted short each right = right
split_work_is_whole plan job workers bytes (Err (ReadFailed error)) accepted short each right = right
split_work_is_whole plan job workers bytes (Err (WriteFailed error)) accepted short each right = right
