-- The totals and the invariant of a haul that was joined from two hauls.
use Rattle.std.proofs.Common.{◌≡◌, ◌∙◌, ◌+◌, ◌^◌, ◌<◌, ◌≤◌, ◌||◌, ◌++◌, ℕ, zero, suc, Bool, true, false, cond, List, [], ◌∷◌}
use Rattle.std.proofs.Common.{None, Some, true≢false}
use Rattle.std.proofs.Common.{ap, sym, refl, subst, arith, rules, map, filter, take, get_or, length, length-append, max, nat_eq, zero-add}
use Rattle.std.specs.Cmp.{nat_eq_equiv}
use Rattle.std.specs.List.{All, AllByRecursion, IsDistinct}
use Rattle.std.specs.Map.{lookup}
use Rattle.std.proofs.lemmas.List.{map-append, map_push, take_more}
use Rattle.std.proofs.lemmas.List.Elements.{All-append, All-head, All-tail, All-weaker, filter-append}
use Rattle.std.proofs.lemmas.List.Folds.{list_any-append}
use Rattle.std.proofs.lemmas.List.Sums.{count_by-le-length, sum_by-append, sum_by-cons}
use Rattle.survey_core.specs.Findings.{IsFinding, objects_in}
use Rattle.survey_core.specs.Soups.{soup}
use Rattle.survey_core.specs.declared.job.Job.{Job}
use Rattle.ranges.specs.declared.range.Range.{Range}
use Rattle.haul_core.specs.declared.book.scores.Score.{Score}
use Rattle.haul_core.specs.Books.{Held}
use Rattle.haul_core.specs.Joins.{CanJoin}
use Rattle.haul_core.specs.Keeping.{KeepsBook, Sums, numbers_in, samples, score_of}
use Rattle.ranges.specs.Ranges.{AreBelow, AreNormal, BeginAfter, IsNormalForm, ShareNumber, end_of, is_in, is_in_range, number_bound, size_of}
use Rattle.haul_core.specs.SampleSteps.{least_three, with_each}
use Rattle.haul_core.specs.Scores.{no_score, score_in, together}
use Rattle.haul_core.specs.Totals.{Survey, count_in, has_object, is_for_good, is_unsettled, total}
use Rattle.survey_core.proofs.lemmas.JobLemmas.{jobs_decide}
use Rattle.haul_core.proofs.JoinedSamples.{least_of_both}
use Rattle.haul_core.proofs.KeepLemmas.{same_length, total_small}

-- ---- the worker of each number

apart_at : (n : ℕ) (taken : List (ℕ × ℕ)) (i : ℕ) (d : ℕ × ℕ) → i < length taken → AllByRecursion (λ m. nat_eq n m ≡ false) (numbers_in taken)
    → nat_eq n (get_or taken i d).1 ≡ false
apart_at n [] i d low h = absurd (omega arith)
apart_at n (t ∷ ts) zero d low h = h.0
apart_at n (t ∷ ts) (suc i) d low h = apart_at n ts i d (omega arith) h.1

-- each taken number is distinct from those taken before it
pub fresh : (taken : List (ℕ × ℕ)) (i : ℕ) (d : ℕ × ℕ) → IsDistinct nat_eq (numbers_in taken) → i < length taken
    → lookup (nat_eq (get_or taken i d).1) (map (λ (t : ℕ × ℕ). (t.1, t.0)) (take i taken)) ≡ None
unfolding IsDistinct
fresh [] i d h low = absurd (omega arith)
fresh (t ∷ ts) zero d h low = refl
fresh (t ∷ ts) (suc i) d h low =
    let n : ℕ = (get_or ts i d).1 in
    let apart : nat_eq n t.1 ≡ false = nat_eq_equiv.symm n t.1 ∙ apart_at t.1 ts i d (omega arith) h.0 in
    ap (λ (b : Bool). cond b (Some t.0) (lookup (nat_eq n) (map (λ (t : ℕ × ℕ). (t.1, t.0)) (take i ts)))) apart ∙ fresh ts i d h.1 (omega arith)

pub swapped_more : (taken : List (ℕ × ℕ)) (i : ℕ) (d entry : ℕ × ℕ) → i < length taken → entry ≡ ((get_or taken i d).1, (get_or taken i d).0)
    → map (λ (t : ℕ × ℕ). (t.1, t.0)) (take i taken) ++ entry ∷ [] ≡ map (λ (t : ℕ × ℕ). (t.1, t.0)) (take (i + 1) taken)
swapped_more taken i d entry low e =
    ap (λ (t : ℕ × ℕ). map (λ (t : ℕ × ℕ). (t.1, t.0)) (take i taken) ++ t ∷ []) e
    ∙ sym (ap (map (λ (t : ℕ × ℕ). (t.1, t.0))) (take_more taken i d low) ∙ map_push (λ (t : ℕ × ℕ). (t.1, t.0)) (take i taken) (get_or taken i d))

-- ---- sizes

size_from : (place bound : ℕ) (rs : List Range) → place ≤ bound → AreNormal rs → BeginAfter place rs → AreBelow bound rs → place + size_of rs ≤ bound
size_from place bound [] low h k below = omega arith
size_from place bound (r ∷ rs) low h k below =
    let here : end_of r ≤ bound = All-head (λ r. end_of r ≤ bound) r rs below in
    let remainder = size_from (end_of r) bound rs here h.2 h.1 (All-tail (λ r. end_of r ≤ bound) r rs below) in
    let sum : size_of (r ∷ rs) ≡ r.count + size_of rs = sum_by-cons (λ r. r.count) r rs in
    omega arith

-- ranges in normal form whose numbers are below `bound` have at most `bound` numbers
pub size_below : (bound : ℕ) (rs : List Range) → AreNormal rs → AreBelow bound rs → size_of rs ≤ bound
size_below bound [] h below = omega arith
size_below bound (r ∷ rs) h below =
    let here : end_of r ≤ bound = All-head (λ r. end_of r ≤ bound) r rs below in
    let remainder = size_from (end_of r) bound rs here h.2 h.1 (All-tail (λ r. end_of r ≤ bound) r rs below) in
    let sum : size_of (r ∷ rs) ≡ r.count + size_of rs = sum_by-cons (λ r. r.count) r rs in
    omega arith

-- ---- the numbers that the two hauls have taken together

all-append : (P : ℕ → Type 0) (xs ys : List ℕ) → AllByRecursion P xs → AllByRecursion P ys → AllByRecursion P (xs ++ ys)
all-append P [] ys h k = k
all-append P (x ∷ xs) ys h k = (h.0, all-append P xs ys h.1 k)

distinct-append : (xs ys : List ℕ) → IsDistinct nat_eq xs → IsDistinct nat_eq ys → AllByRecursion (λ n. AllByRecursion (λ m. nat_eq n m ≡ false) ys) xs
    → IsDistinct nat_eq (xs ++ ys)
unfolding IsDistinct
distinct-append [] ys h k apart = k
distinct-append (x ∷ xs) ys h k apart = (all-append (λ m. nat_eq x m ≡ false) xs ys h.0 apart.0, distinct-append xs ys h.1 k apart.1)

other_number : (a b : List Range) (n : ℕ) (taken : List (ℕ × ℕ)) → ¬ ShareNumber a b → is_in a n ≡ true → All (λ t. is_in b t.1 ≡ true) taken
    → AllByRecursion (λ m. nat_eq n m ≡ false) (numbers_in taken)
other_number a b n [] apart first h = tt
other_number a b n (t ∷ ts) apart first h =
    (go (nat_eq n t.1) refl, other_number a b n ts apart first (All-tail (λ t. is_in b t.1 ≡ true) t ts h))
  where
    go : (e : Bool) → nat_eq n t.1 ≡ e → nat_eq n t.1 ≡ false
    go false e = e
    go true e =
        let same : n ≡ t.1 = grind (arith, e) in
        absurd (apart (record {
          number = n;
          first = first;
          second = subst (λ (m : ℕ). is_in b m ≡ true) (sym same) (All-head (λ t. is_in b t.1 ≡ true) t ts h);
        }))

other_numbers : (a b : List Range) (taken others : List (ℕ × ℕ)) → ¬ ShareNumber a b → All (λ t. is_in a t.1 ≡ true) taken
    → All (λ t. is_in b t.1 ≡ true) others
    → AllByRecursion (λ n. AllByRecursion (λ m. nat_eq n m ≡ false) (numbers_in others)) (numbers_in taken)
other_numbers a b [] others apart h k = tt
other_numbers a b (t ∷ ts) others apart h k = (
  other_number a b t.1 others apart (All-head (λ t. is_in a t.1 ≡ true) t ts h) k,
  other_numbers a b ts others apart (All-tail (λ t. is_in a t.1 ≡ true) t ts h) k,
)

-- if the sets share no number, no number was taken twice by the two hauls together
pub distinct_both : (a b : List Range) (taken others : List (ℕ × ℕ)) → ¬ ShareNumber a b → All (λ t. is_in a t.1 ≡ true) taken
    → All (λ t. is_in b t.1 ≡ true) others → IsDistinct nat_eq (numbers_in taken) → IsDistinct nat_eq (numbers_in others)
    → IsDistinct nat_eq (numbers_in (taken ++ others))
distinct_both a b taken others apart h k d e =
    subst (IsDistinct nat_eq) (sym (map-append (λ (t : ℕ × ℕ). t.1) taken others))
    (distinct-append (numbers_in taken) (numbers_in others) d e (other_numbers a b taken others apart h k))

-- ---- the totals of the two hauls together

score_both : (sa sb : List Survey) (code : List ℕ) → score_of (sa ++ sb) code ≡ together (together no_score (score_of sa code)) (score_of sb code)
score_both sa sb code = λ i. record { total = sum i; samples = least i }
  where
    numbers : List Survey → List ℕ
    numbers surveys = map (λ (s : Survey). s.number) (filter (has_object code) surveys)

    sum : total (sa ++ sb) code ≡ (0 + total sa code) + total sb code
    sum = sum_by-append (λ s. count_in code s.finding) sa sb ∙ ap (λ (n : ℕ). n + total sb code) (sym (zero-add (total sa code)))

    cut : map (λ (s : Survey). s.number) (filter (has_object code) (sa ++ sb))
        ≡ map (λ (s : Survey). s.number) (filter (has_object code) sa) ++ map (λ (s : Survey). s.number) (filter (has_object code) sb)
    cut = ap (map (λ (s : Survey). s.number)) (filter-append (has_object code) sa sb)
        ∙ map-append (λ (s : Survey). s.number) (filter (has_object code) sa) (filter (has_object code) sb)

    least : samples (sa ++ sb) code ≡ with_each (with_each [] (samples sa code)) (samples sb code)
    least = ap least_three cut
        ∙ sym (ap (λ (t : List ℕ). with_each t (samples sb code)) (least_of_both [] (map (λ (s : Survey). s.number) (filter (has_object code) sa)))
        ∙ least_of_both (map (λ (s : Survey). s.number) (filter (has_object code) sa)) (map (λ (s : Survey). s.number) (filter (has_object code) sb)))

-- the sums of two hauls' totals don't overflow
pub record HaveRoom (sa sb : Sums) : Type 0 where
  pub scores : (code : List ℕ) → (score_in sa.scores code).total + (score_in sb.scores code).total < 2 ^ 128
  pub unsettled_room : sa.unsettled + sb.unsettled < 2 ^ 64
  pub for_good_room : sa.for_good + sb.for_good < 2 ^ 64

module _ (a b : Held) (ca cb : ℕ) (wa wb : List (ℕ × ℕ)) (sa sb : Sums) (ka : KeepsBook a ca wa sa) (kb : KeepsBook b cb wb sb) where
  pub have_room : length a.taken + length b.taken + 1 < 2 ^ 64 → HaveRoom sa sb
  have_room short =
      let la : length ka.surveys ≡ length a.taken = same_length a ca wa sa ka in
      let lb : length kb.surveys ≡ length b.taken = same_length b cb wb sb kb in
      record {
        scores = λ code.
            let few = All-append (λ s. objects_in s.finding < 2 ^ 64) ka.surveys kb.surveys ka.sum.few kb.sum.few in
            let long = length-append ka.surveys kb.surveys in
            let most = total_small (ka.surveys ++ kb.surveys) code few (omega arith) in
            let sum : total (ka.surveys ++ kb.surveys) code ≡ total ka.surveys code + total kb.surveys code =
            sum_by-append (λ s. count_in code s.finding) ka.surveys kb.surveys in
            let first : (score_in sa.scores code).total ≡ total ka.surveys code = ap (λ (t : Score). t.total) (ka.sum.scores code) in
            let second : (score_in sb.scores code).total ≡ total kb.surveys code = ap (λ (t : Score). t.total) (kb.sum.scores code) in
            omega arith;
        unsettled_room = omega (
          arith,
          ka.sum.unsettled_sum,
          kb.sum.unsettled_sum,
          count_by-le-length (λ s. is_unsettled s.finding) ka.surveys,
          count_by-le-length (λ s. is_unsettled s.finding) kb.surveys,
        );
        for_good_room = omega (
          arith,
          ka.sum.for_good_sum,
          kb.sum.for_good_sum,
          count_by-le-length (λ s. is_for_good s.finding) ka.surveys,
          count_by-le-length (λ s. is_for_good s.finding) kb.surveys,
        );
      }

  pub keeps_joined : (ranges : List Range) (workers : ℕ) (taken by : List (ℕ × ℕ)) (sums : Sums) → CanJoin a b
      → IsNormalForm (a.terms.ranges ++ b.terms.ranges) ranges → AreBelow number_bound ranges
      → size_of ranges ≡ size_of a.terms.ranges + size_of b.terms.ranges → workers ≡ max a.terms.workers b.terms.workers
      → taken ≡ a.taken ++ b.taken → by ≡ map (λ (t : ℕ × ℕ). (t.1, t.0)) taken
      → ((code : List ℕ) → score_in sums.scores code ≡ together (together no_score (score_in sa.scores code)) (score_in sb.scores code))
      → sums.unsettled ≡ sa.unsettled + sb.unsettled → sums.for_good ≡ sa.for_good + sb.for_good
      → KeepsBook (record { terms = record { job = a.terms.job; ranges = ranges; workers = workers }; closed = true; taken = taken }) (ca + cb) by sums
  keeps_joined ranges workers taken by sums can form below size w t n scores u g =
      let job : a.terms.job ≡ b.terms.job = (jobs_decide a.terms.job b.terms.job).0 can.job in
      record {
        normal = form.normal_form;
        below = below;
        size = (λ i. ka.size i + kb.size i) ∙ sym size;
        few = λ never. absurd (true≢false never);
        worker = record {
          least = let l = ka.worker.least in omega (arith, w);
          most = let l = ka.worker.most in let m = kb.worker.most in omega (arith, w);
        };
        by_number = n;
        within = subst (All (λ t. is_in ranges t.1 ≡ true)) (sym t)
            (All-append (λ t. is_in ranges t.1 ≡ true) a.taken b.taken
            (All-weaker (λ t. is_in a.terms.ranges t.1 ≡ true) (λ t. is_in ranges t.1 ≡ true) (λ t h. in_first t.1 h) a.taken ka.within)
            (All-weaker (λ t. is_in b.terms.ranges t.1 ≡ true) (λ t. is_in ranges t.1 ≡ true) (λ t h. in_second t.1 h) b.taken kb.within));
        distinct = subst (λ (ts : List (ℕ × ℕ)). IsDistinct nat_eq (numbers_in ts)) (sym t)
            (distinct_both a.terms.ranges b.terms.ranges a.taken b.taken can.apart ka.within kb.within ka.distinct kb.distinct);
        surveys = ka.surveys ++ kb.surveys;
        surveyed = record {
          each = map-append (λ (s : Survey). s.number) ka.surveys kb.surveys ∙ (λ i. ka.surveyed.each i ++ kb.surveyed.each i)
              ∙ sym (map-append (λ (t : ℕ × ℕ). t.1) a.taken b.taken) ∙ ap numbers_in (sym t);
          findings = All-append (λ s. IsFinding a.terms.job.rule a.terms.job.profile (soup a.terms.job.seed s.number) s.finding) ka.surveys kb.surveys
              ka.surveyed.findings
              (subst (λ (j : Job). All (λ s. IsFinding j.rule j.profile (soup j.seed s.number) s.finding) kb.surveys) (sym job) kb.surveyed.findings);
        };
        sum = record {
          scores = λ code. scores code ∙ (λ i. together (together no_score (ka.sum.scores code i)) (kb.sum.scores code i))
              ∙ sym (score_both ka.surveys kb.surveys code);
          unsettled_sum = u ∙ (λ i. ka.sum.unsettled_sum i + kb.sum.unsettled_sum i)
              ∙ sym (sum_by-append (λ s. cond {A = ℕ} (is_unsettled s.finding) 1 0) ka.surveys kb.surveys);
          for_good_sum = g ∙ (λ i. ka.sum.for_good_sum i + kb.sum.for_good_sum i)
              ∙ sym (sum_by-append (λ s. cond {A = ℕ} (is_for_good s.finding) 1 0) ka.surveys kb.surveys);
          few = All-append (λ s. objects_in s.finding < 2 ^ 64) ka.surveys kb.surveys ka.sum.few kb.sum.few;
        };
      }
    where
      either : (m : ℕ) → is_in ranges m ≡ (is_in a.terms.ranges m || is_in b.terms.ranges m)
      either m = form.same m ∙ list_any-append (is_in_range m) a.terms.ranges b.terms.ranges

      in_first : (m : ℕ) → is_in a.terms.ranges m ≡ true → is_in ranges m ≡ true
      in_first m h = let e = either m in search (rules)

      in_second : (m : ℕ) → is_in b.terms.ranges m ≡ true → is_in ranges m ≡ true
      in_second m h = let e = either m in go (is_in a.terms.ranges m) refl
        where
          go : (x : Bool) → is_in a.terms.ranges m ≡ x → is_in ranges m ≡ true
          go true f = in_first m f
          go false f = either m ∙ (λ i. f i || h i)
