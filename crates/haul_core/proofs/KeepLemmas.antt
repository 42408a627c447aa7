-- The totals and the invariant of a haul after one more report.
use Rattle.std.proofs.Common.{◌≡◌, ◌∙◌, ◌+◌, ◌*◌, ◌^◌, ◌<◌, ◌≤◌, ℕ, Bool, true, false, cond, nat_eq, nat_le, nat_lt, ◌||◌, List, [], ◌∷◌}
use Rattle.std.proofs.Common.{◌++◌, Option, None, Some, ap, sym, subst, refl, arith, inl, inr}
use Rattle.std.proofs.Common.{◌⊎◌, filter, map, take, length, IfSome, unwrap_or, if◌then◌else◌, add-zero}
use Rattle.std.specs.List.{All, IsDistinct, list_any}
use Rattle.std.specs.Map.{lookup}
use Rattle.std.specs.Cmp.{nat_eq_equiv}
use Rattle.std.proofs.lemmas.Bool.{cases_Bool, le-leb}
use Rattle.std.proofs.lemmas.List.{append-nil, length-map, map_push}
use Rattle.std.proofs.lemmas.List.Elements.{All-nil, All-push, All-weaker, filter-append}
use Rattle.std.proofs.lemmas.List.Sums.{count_by-le-length, sum_by-le, sum_by_push}
use Rattle.std.proofs.lemmas.Map.Entries.{All-lookup}
use Rattle.std.proofs.lemmas.Map.Keys.{IsDistinct-from_apart, IsDistinct-push}
use Rattle.std.proofs.lemmas.Map.Steps.{lookup-le-sum}
use Rattle.survey_core.specs.Findings.{IsFinding, objects_in}
use Rattle.survey_core.specs.shapes.Objects.{is_code}
use Rattle.survey_core.specs.Profiles.{Settling}
use Rattle.survey_core.specs.Soups.{soup}
use Rattle.plane_core.specs.plane.Rules.{Numbers}
use Rattle.plane_core.specs.declared.plane.cell.Cell.{Cell}
use Rattle.survey_core.specs.declared.finding.Finding.{Finding}
use Rattle.survey_core.specs.declared.finding.Finding.TheVariants.{Settled, Unsettled}
use Rattle.haul_core.specs.declared.book.scores.Score.{Score}
use Rattle.survey_core.specs.declared.job.Job.{Job}
use Rattle.haul_core.specs.Replies.{refusal_at, worker_in}
use Rattle.survey_core.specs.Jobs.{same_job}
use Rattle.haul_core.proofs.BookLemmas.{none_holds}
use Rattle.survey_core.proofs.lemmas.JobLemmas.{jobs_decide}
use Rattle.haul_core.specs.Books.{Held, Terms, entry}
use Rattle.haul_core.specs.Keeping.{KeepsBook, Sums, numbers_in, samples, score_of}
use Rattle.ranges.specs.Ranges.{AreBelow, AreNormal, is_in, number_bound, size_of}
use Rattle.ranges.specs.declared.range.Range.{Range}
use Rattle.haul_core.specs.Reports.{IsReport, IsWorker, Reported}
use Rattle.haul_core.specs.SampleSteps.{ascending, least_three, with_number}
use Rattle.haul_core.specs.Scores.{Extends, HasLawfulObjects, added, found_in, score_in}
use Rattle.haul_core.specs.Totals.{Survey, count_in, has_object, is_for_good, is_unsettled, total}
use Rattle.haul_core.proofs.SampleLemmas.{ascending_push, take_with}
use Rattle.haul_core.proofs.ScoreLemmas.{score-Extends}

-- ---- one more survey

-- a count that is found is at least 1
abbrev pub FoundSome : Option ℕ → Type 0
FoundSome None = Unit {0}
FoundSome (Some k) = 1 ≤ k

found_some : (code : List ℕ) (finding : Finding) → HasLawfulObjects finding → FoundSome (found_in code finding)
found_some code (Settled t objects good) lawful = go (lookup (is_code code) objects) (All-lookup (λ k. 1 ≤ k) (is_code code) objects lawful.some)
  where
    go : (o : Option ℕ) → IfSome o (λ k. 1 ≤ k) → FoundSome o
    go None h = tt
    go (Some k) h = h
found_some code Unsettled lawful = tt

count_found : (code : List ℕ) (finding : Finding) → count_in code finding ≡ unwrap_or (found_in code finding) 0
count_found code (Settled t objects good) = refl
count_found code Unsettled = refl

pub score_more : (surveys : List Survey) (s : Survey) (code : List ℕ) → HasLawfulObjects s.finding
    → score_of (surveys ++ s ∷ []) code ≡ added (found_in code s.finding) s.number (score_of surveys code)
score_more surveys s code lawful = go (found_in code s.finding) (found_some code s.finding lawful) (count_found code s.finding)
  where
    with_samples : (b : Bool) → has_object code s ≡ b
        → map (λ (s : Survey). s.number) (filter (has_object code) (surveys ++ s ∷ [])) ≡ map (λ (s : Survey). s.number) (filter (has_object code) surveys) ++ cond b (s.number ∷ []) []
    with_samples true e =
        ap (map (λ (s : Survey). s.number)) (filter-append (has_object code) surveys (s ∷ [])
        ∙ ap (λ (b : Bool). filter (has_object code) surveys ++ cond b (s ∷ []) []) e)
        ∙ map_push (λ (s : Survey). s.number) (filter (has_object code) surveys) s
    with_samples false e =
        ap (map (λ (s : Survey). s.number)) (filter-append (has_object code) surveys (s ∷ [])
        ∙ ap (λ (b : Bool). filter (has_object code) surveys ++ cond b (s ∷ []) []) e ∙ append-nil (filter (has_object code) surveys))
        ∙ sym (append-nil (map (λ (s : Survey). s.number) (filter (has_object code) surveys)))

    go : (o : Option ℕ) → FoundSome o → count_in code s.finding ≡ unwrap_or o 0 → score_of (surveys ++ s ∷ []) code ≡ added o s.number (score_of surveys code)
    go None some is =
        let none : has_object code s ≡ false = ap (nat_le 1) is in
        let same : total (surveys ++ s ∷ []) code ≡ total surveys code =
        sum_by_push (λ s. count_in code s.finding) surveys s ∙ ap (λ (n : ℕ). total surveys code + n) is ∙ add-zero (total surveys code) in
        let kept : samples (surveys ++ s ∷ []) code ≡ samples surveys code =
        ap least_three (with_samples false none ∙ append-nil (map (λ (s : Survey). s.number) (filter (has_object code) surveys))) in
        λ i. record { total = same i; samples = kept i }
    go (Some k) some is =
        let hit : has_object code s ≡ true = ap (nat_le 1) is ∙ le-leb 1 k some in
        let more : total (surveys ++ s ∷ []) code ≡ total surveys code + k =
        sum_by_push (λ s. count_in code s.finding) surveys s ∙ ap (λ (n : ℕ). total surveys code + n) is in
        let numbers : List ℕ = map (λ (s : Survey). s.number) (filter (has_object code) surveys) in
        let least : samples (surveys ++ s ∷ []) code ≡ take 3 (with_number s.number (samples surveys code)) =
        ap least_three (with_samples true hit) ∙ ap (take 3) (ascending_push numbers s.number) ∙ sym (take_with 3 s.number (ascending numbers)) in
        λ i. record { total = more i; samples = least i }

-- ---- sums stay small

count_small : (code : List ℕ) (finding : Finding) → count_in code finding ≤ objects_in finding
count_small code (Settled t objects good) = lookup-le-sum (is_code code) objects
count_small code Unsettled = omega arith

pub total_small : (surveys : List Survey) (code : List ℕ) → All (λ s. objects_in s.finding < 2 ^ 64) surveys → length surveys + 1 ≤ 2 ^ 64
    → total surveys code + 2 ^ 64 ≤ 2 ^ 128
total_small surveys code few short =
    let most : total surveys code ≤ length surveys * (2 ^ 64) =
    sum_by-le (λ s. count_in code s.finding) (2 ^ 64) surveys
    (All-weaker (λ s. objects_in s.finding < 2 ^ 64) (λ s. count_in code s.finding ≤ 2 ^ 64) (λ s low. omega (arith, count_small code s.finding)) surveys few) in
    omega arith

-- ---- the invariant of a haul

pub same_length : (held : Held) (count : ℕ) (workers : List (ℕ × ℕ)) (sums : Sums) (k : KeepsBook held count workers sums) → length k.surveys ≡ length held.taken
same_length held count workers sums k =
    sym (length-map k.surveys (λ s. s.number)) ∙ ap length k.surveyed.each ∙ length-map held.taken (λ t. t.1)

-- adding blank scores keeps the invariant
pub keeps_extended : (held : Held) (count : ℕ) (workers : List (ℕ × ℕ)) (old new : Sums) → Extends old.scores new.scores → new.unsettled ≡ old.unsettled
    → new.for_good ≡ old.for_good → KeepsBook held count workers old → KeepsBook held count workers new
keeps_extended held count workers old new x u g k = record {
  normal = k.normal;
  below = k.below;
  size = k.size;
  few = k.few;
  worker = k.worker;
  by_number = k.by_number;
  within = k.within;
  distinct = k.distinct;
  surveys = k.surveys;
  surveyed = k.surveyed;
  sum = record {
    scores = λ code. score-Extends old.scores new.scores x code ∙ k.sum.scores code;
    unsettled_sum = u ∙ k.sum.unsettled_sum;
    for_good_sum = g ∙ k.sum.for_good_sum;
    few = k.sum.few;
  };
}

-- a number without a worker isn't among the taken numbers
unreported : (n : ℕ) (taken : List (ℕ × ℕ)) → worker_in n taken ≡ None → list_any (nat_eq n) (numbers_in taken) ≡ false
unreported n [] h = refl
unreported n (t ∷ ts) h = go (cases_Bool (nat_eq n t.1)) (unreported n ts)
  where
    go : (nat_eq n t.1 ≡ true) ⊎ (nat_eq n t.1 ≡ false) → (worker_in n ts ≡ None → list_any (nat_eq n) (numbers_in ts) ≡ false)
        → (nat_eq n t.1 || list_any (nat_eq n) (numbers_in ts)) ≡ false
    go (inl same) remainder = let bad : Some t.0 ≡ None = sym (ap (λ (b : Bool). cond b (Some t.0) (worker_in n ts)) same) ∙ h in absurd (cc)
    go (inr apart) remainder =
        ap (λ (b : Bool). b || list_any (nat_eq n) (numbers_in ts)) apart ∙ remainder (sym (ap (λ (b : Bool). cond b (Some t.0) (worker_in n ts)) apart) ∙ h)

-- the invariant holds after one more report
pub keeps_more : (terms : Terms) (closed : Bool) (taken : List (ℕ × ℕ)) (count : ℕ) (workers : List (ℕ × ℕ)) (old new : Sums) (r : Reported) → IsReport r
    → HasLawfulObjects r.finding → refusal_at (record { terms = terms; closed = closed; taken = taken }) r ≡ None
    → ((code : List ℕ) → score_in new.scores code ≡ added (found_in code r.finding) r.number (score_in old.scores code))
    → new.unsettled ≡ old.unsettled + (if is_unsettled r.finding then 1 else 0) → new.for_good ≡ old.for_good + (if is_for_good r.finding then 1 else 0)
    → KeepsBook (record { terms = terms; closed = closed; taken = taken }) count workers old
    → KeepsBook (record { terms = terms; closed = closed; taken = taken ++ entry r ∷ [] }) count (workers ++ (r.number, r.worker) ∷ []) new
keeps_more terms closed taken count workers old new r is lawful e scores u g k =
    let h = none_holds closed (same_job terms.job r.job) (nat_lt terms.workers r.worker) (is_in terms.ranges r.number) (worker_in r.number taken) e in
    let job : terms.job ≡ r.job = (jobs_decide terms.job r.job).0 h.own_job in
    let survey : Survey = record { number = r.number; finding = r.finding } in
    record {
      normal = k.normal;
      below = k.below;
      size = k.size;
      few = k.few;
      worker = k.worker;
      by_number = ap (λ (ws : List (ℕ × ℕ)). ws ++ (r.number, r.worker) ∷ []) k.by_number ∙ sym (map_push (λ (t : ℕ × ℕ). (t.1, t.0)) taken (entry r));
      within = All-push (λ t. is_in terms.ranges t.1 ≡ true) taken (entry r) k.within h.in_set;
      distinct = subst (IsDistinct nat_eq) (sym (map_push (λ (t : ℕ × ℕ). t.1) taken (entry r)))
          (IsDistinct-push nat_eq_equiv (numbers_in taken) r.number k.distinct (unreported r.number taken h.new));
      surveys = k.surveys ++ survey ∷ [];
      surveyed = record {
        each = map_push (λ (s : Survey). s.number) k.surveys survey ∙ ap (λ (ns : List ℕ). ns ++ r.number ∷ []) k.surveyed.each
            ∙ sym (map_push (λ (t : ℕ × ℕ). t.1) taken (entry r));
        findings = All-push (λ s. IsFinding terms.job.rule terms.job.profile (soup terms.job.seed s.number) s.finding) k.surveys survey k.surveyed.findings
            (subst (λ (j : Job). IsFinding j.rule j.profile (soup j.seed r.number) r.finding) (sym job) is.finding);
      };
      sum = record {
        scores = λ code. scores code ∙ ap (added (found_in code r.finding) r.number) (k.sum.scores code) ∙ sym (score_more k.surveys survey code lawful);
        unsettled_sum = u ∙ ap (λ (n : ℕ). n + (if is_unsettled r.finding then 1 else 0)) k.sum.unsettled_sum
            ∙ sym (sum_by_push (λ s. cond {A = ℕ} (is_unsettled s.finding) 1 0) k.surveys survey);
        for_good_sum = g ∙ ap (λ (n : ℕ). n + (if is_for_good r.finding then 1 else 0)) k.sum.for_good_sum
            ∙ sym (sum_by_push (λ s. cond {A = ℕ} (is_for_good s.finding) 1 0) k.surveys survey);
        few = All-push (λ s. objects_in s.finding < 2 ^ 64) k.surveys survey k.sum.few is.few;
      };
    }

-- the totals have room for one more report
pub record HasRoom (sums : Sums) : Type 0 where
  pub scores : (code : List ℕ) → (score_in sums.scores code).total + 2 ^ 64 ≤ 2 ^ 128
  pub unsettled_room : sums.unsettled + 1 < 2 ^ 64
  pub for_good_room : sums.for_good + 1 < 2 ^ 64

pub has_room : (held : Held) (count : ℕ) (workers : List (ℕ × ℕ)) (sums : Sums) → length held.taken + 1 < 2 ^ 64 → KeepsBook held count workers sums
    → HasRoom sums
has_room held count workers sums short k =
    let long : length k.surveys ≡ length held.taken = same_length held count workers sums k in
    record {
      scores = λ code. subst (λ (t : Score). t.total + 2 ^ 64 ≤ 2 ^ 128) (sym (k.sum.scores code)) (total_small k.surveys code k.sum.few (omega arith));
      unsettled_room = omega (arith, k.sum.unsettled_sum, count_by-le-length (λ s. is_unsettled s.finding) k.surveys);
      for_good_room = omega (arith, k.sum.for_good_sum, count_by-le-length (λ s. is_for_good s.finding) k.surveys);
    }

-- the invariant still holds after room was made for one more report
pub keeps_mid : (terms : Terms) (closed : Bool) (taken more_taken : List (ℕ × ℕ)) (count : ℕ) (workers more_workers : List (ℕ × ℕ)) (old new : Sums)
    → more_taken ≡ taken → more_workers ≡ workers → Extends old.scores new.scores → new.unsettled ≡ old.unsettled → new.for_good ≡ old.for_good
    → KeepsBook (record { terms = terms; closed = closed; taken = taken }) count workers old
    → KeepsBook (record { terms = terms; closed = closed; taken = more_taken }) count more_workers new
keeps_mid terms closed taken more_taken count workers more_workers old new t w x u g k =
    keeps_extended (record { terms = terms; closed = closed; taken = more_taken }) count more_workers old new x u g
    (subst (λ (ts : List (ℕ × ℕ)). KeepsBook (record { terms = terms; closed = closed; taken = ts }) count more_workers old) (sym t)
    (subst (λ (ws : List (ℕ × ℕ)). KeepsBook (record { terms = terms; closed = closed; taken = taken }) count ws old) (sym w) k))

-- the invariant holds after the report was noted
pub keeps_noted : (terms : Terms) (closed : Bool) (taken new_taken : List (ℕ × ℕ)) (count : ℕ) (workers new_workers : List (ℕ × ℕ)) (sums : Sums) (t w : ℕ × ℕ) (r : Reported)
    → new_taken ≡ taken ++ t ∷ [] → new_workers ≡ workers ++ w ∷ [] → t ≡ entry r → w ≡ (r.number, r.worker)
    → KeepsBook (record { terms = terms; closed = closed; taken = taken ++ entry r ∷ [] }) count (workers ++ (r.number, r.worker) ∷ []) sums
    → KeepsBook (record { terms = terms; closed = closed; taken = new_taken }) count new_workers sums
keeps_noted terms closed taken new_taken count workers new_workers sums t w r et ew et' ew' k =
    subst (λ (ts : List (ℕ × ℕ)). KeepsBook (record { terms = terms; closed = closed; taken = ts }) count new_workers sums)
    (sym (et ∙ ap (λ (x : ℕ × ℕ). taken ++ x ∷ []) et'))
    (subst (λ (ws : List (ℕ × ℕ)). KeepsBook (record { terms = terms; closed = closed; taken = taken ++ entry r ∷ [] }) count ws sums)
    (sym (ew ∙ ap (λ (x : ℕ × ℕ). workers ++ x ∷ []) ew')) k)

-- the codes of a finding are in ASCII order, each with a count of at least 1
pub lawful_of : (rule : Numbers) (profile : Settling) (cells : List Cell) (finding : Finding) → IsFinding rule profile cells finding
    → HasLawfulObjects finding
lawful_of rule profile cells (Settled t objects good) h = h.2.counted.lawful
lawful_of rule profile cells Unsettled h = tt

-- the invariant holds for a haul that was just opened
pub keeps_none : (job : Job) (ranges : List Range) (workers count : ℕ) (taken numbers : List (ℕ × ℕ)) (sums : Sums) → AreNormal ranges
    → AreBelow number_bound ranges
    → count ≡ size_of ranges → count ≤ 2 ^ 24 → IsWorker workers → taken ≡ [] → numbers ≡ [] → sums.scores ≡ [] → sums.unsettled ≡ 0 → sums.for_good ≡ 0
    → KeepsBook (record { terms = record { job = job; ranges = ranges; workers = workers }; closed = false; taken = taken }) count numbers sums
keeps_none job ranges workers count taken numbers sums normal below size small worker t n scores u g =
    subst (λ (ts : List (ℕ × ℕ)). KeepsBook (record {
      terms = record { job = job; ranges = ranges; workers = workers };
      closed = false;
      taken =
          ts;
    }) count numbers sums) (sym t)
    (record {
      normal = normal;
      below = below;
      size = size;
      few = λ open_. small;
      worker = worker;
      by_number = n;
      within = All-nil (λ t. is_in ranges t.1 ≡ true);
      distinct = distinct_none;
      surveys = [];
      surveyed = record { each = refl; findings = All-nil (λ s. IsFinding job.rule job.profile (soup job.seed s.number) s.finding) };
      sum = record {
        scores = λ code. ap (λ (rs : List (List ℕ × Score)). score_in rs code) scores;
        unsettled_sum = u;
        for_good_sum = g;
        few = All-nil (λ s. objects_in s.finding < 2 ^ 64);
      };
    })
  where
    distinct_none : IsDistinct nat_eq []
    distinct_none = IsDistinct-from_apart nat_eq [] (λ i j d low short. absurd (omega arith))

-- if a report isn't refused, its number has no worker yet
pub none_noted : (held : Held) (workers : List (ℕ × ℕ)) (r : Reported) → workers ≡ map (λ t. (t.1, t.0)) held.taken → refusal_at held r ≡ None
    → lookup (nat_eq r.number) workers ≡ None
none_noted held workers r by_number taken =
    ap (λ (ws : List (ℕ × ℕ)). lookup (nat_eq r.number) ws) by_number
    ∙ (none_holds held.closed (same_job held.terms.job r.job) (nat_lt held.terms.workers r.worker) (is_in held.terms.ranges r.number)
    (worker_in r.number held.taken) taken).new
