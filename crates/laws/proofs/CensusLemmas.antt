-- Censuses of one job and set, over the same soups in any order, are equal, and so are their texts.
use Rattle.std.proofs.Common.{◌≡◌, ◌∙◌, ◌+◌, ◌<◌, ◌≤◌, ℕ, Bool, true, false, cond, nat_eq, List, [], ◌∷◌, ◌||◌, ap, sym, subst, refl, inl, inr}
use Rattle.std.proofs.Common.{count_by, filter, get_or, map, sum_by}
use Rattle.std.specs.Cmp.{nat_eq_equiv}
use Rattle.std.specs.List.{All, list_any}
use Rattle.std.proofs.lemmas.Bool.{cases_Bool, eqb-true, false≢true}
use Rattle.std.proofs.lemmas.List.{get_or-map, length-map}
use Rattle.std.proofs.lemmas.List.Elements.{All-head, All-tail, All-weaker}
use Rattle.std.proofs.lemmas.List.Folds.{list_any_at}
use Rattle.std.proofs.lemmas.List.Sums.{sum_by-cons}
use Rattle.survey_core.specs.FindingLaws.{FindingsAreDetermined}
use Rattle.survey_core.specs.Findings.{IsFinding}
use Rattle.survey_core.specs.Soups.{soup}
use Rattle.survey_core.specs.declared.finding.Finding.{Finding}
use Rattle.survey_core.specs.declared.finding.Finding.TheVariants.{Unsettled}
use Rattle.survey_core.specs.declared.job.Job.{Job}
use Rattle.haul_core.specs.declared.book.census.Census.{Census}
use Rattle.ranges.specs.declared.range.Range.{Range}
use Rattle.haul_core.specs.declared.book.census_rows.Row.{Row}
use Rattle.haul_core.specs.Censuses.{IsCensus}
use Rattle.laws.specs.Censuses.{CompleteHaulsPrintTheSame, SameSoupsPrintTheSame}
use Rattle.haul_core.specs.HaulTexts.{haul_text}
use Rattle.ranges.specs.Ranges.{size_of}
use Rattle.haul_core.specs.SampleSteps.{least_three}
use Rattle.haul_core.specs.Keeping.{samples}
use Rattle.haul_core.specs.Rows.{AreRowsOf, IsRowOf}
use Rattle.haul_core.specs.Samples.{AreLeastThree, AreSameNumbers}
use Rattle.haul_core.specs.Totals.{AreSurveys, Survey, count_in, for_good, has_object, is_for_good, is_unsettled, numbers_with, total, unsettled}
use Rattle.haul_core.proofs.LeastLemmas.{least_is, one_least}
use Rattle.ranges.proofs.NormalLemmas.{normal_forms}
use Rattle.haul_core.proofs.NumberLemmas.{same_least, same_length, same_member, same_sum}
use Rattle.laws.proofs.RowLemmas.{same_rows}

-- ---- the findings of soups, by their numbers

abbrev pub IsFound : Job → ℕ → Finding → Type 0
IsFound job n finding = IsFinding job.rule job.profile (soup job.seed n) finding

abbrev pub numbers_of_surveys : List Survey → List ℕ
numbers_of_surveys surveys = map (λ s. s.number) surveys

abbrev finding_at : List Survey → ℕ → Finding
finding_at [] n = Unsettled
finding_at (s ∷ ss) n = cond (nat_eq n s.number) s.finding (finding_at ss n)

found_at : (job : Job) → FindingsAreDetermined → (surveys : List Survey) → All (λ s. IsFound job s.number s.finding) surveys → (n : ℕ) (finding : Finding)
    → IsFound job n finding → list_any (nat_eq n) (numbers_of_surveys surveys) ≡ true → finding_at surveys n ≡ finding
found_at job one [] each n finding found h = absurd (false≢true h)
found_at job one (s ∷ ss) each n finding found h = elim (cases_Bool (nat_eq n s.number)) [
  | inl same ↦
      let own : IsFound job n s.finding =
      subst (λ (m : ℕ). IsFound job m s.finding) (sym (eqb-true n s.number same)) (All-head (λ s. IsFound job s.number s.finding) s ss each) in
      ap (λ (b : Bool). cond b s.finding (finding_at ss n)) same ∙ one job.rule job.profile (soup job.seed n) s.finding finding own found
  | inr other ↦
      ap (λ (b : Bool). cond b s.finding (finding_at ss n)) other
      ∙ found_at job one ss (All-tail (λ s. IsFound job s.number s.finding) s ss each) n finding found
      (sym (ap (λ (b : Bool). b || list_any (nat_eq n) (numbers_of_surveys ss)) other) ∙ h)
]

-- in a list of surveys, the number of each survey is in the list's `numbers_of_surveys`
among : (surveys : List Survey) → All (λ s. list_any (nat_eq s.number) (numbers_of_surveys surveys) ≡ true) surveys
among surveys i d low =
    let here : get_or (numbers_of_surveys surveys) i d.number ≡ (get_or surveys i d).number = get_or-map (λ s. s.number) surveys i d d.number low in
    list_any_at (nat_eq (get_or surveys i d).number) (numbers_of_surveys surveys) i d.number
    (subst (λ (n : ℕ). i < n) (sym (length-map surveys (λ s. s.number))) low)
    (ap (nat_eq (get_or surveys i d).number) here ∙ nat_eq_equiv.refl (get_or surveys i d).number)

abbrev survey_of : (ℕ → Finding) → ℕ → Survey
survey_of f n = record { number = n; finding = f n }

surveyed_by : (f : ℕ → Finding) (surveys : List Survey) → All (λ s. f s.number ≡ s.finding) surveys
    → surveys ≡ map (survey_of f) (numbers_of_surveys surveys)
surveyed_by f [] each = refl
surveyed_by f (s ∷ ss) each =
    let first : f s.number ≡ s.finding = All-head (λ s. f s.number ≡ s.finding) s ss each in
    let remainder : ss ≡ map (survey_of f) (numbers_of_surveys ss) = surveyed_by f ss (All-tail (λ s. f s.number ≡ s.finding) s ss each) in
    λ i. record { number = s.number; finding = sym first i } ∷ remainder i

-- ---- sums and samples over the surveys of a list of numbers

sum_surveys : (g : Survey → ℕ) (f : ℕ → Finding) (numbers : List ℕ) → sum_by g (map (survey_of f) numbers) ≡ sum_by (λ n. g (survey_of f n)) numbers
sum_surveys g f [] = refl
sum_surveys g f (n ∷ ns) =
    sum_by-cons g (survey_of f n) (map (survey_of f) ns) ∙ ap (λ (m : ℕ). g (survey_of f n) + m) (sum_surveys g f ns)
    ∙ sym (sum_by-cons (λ n. g (survey_of f n)) n ns)

samples_surveys : (f : ℕ → Finding) (code : List ℕ) (numbers : List ℕ)
    → numbers_of_surveys (filter (has_object code) (map (survey_of f) numbers)) ≡ filter (λ n. has_object code (survey_of f n)) numbers
samples_surveys f code [] = refl
samples_surveys f code (n ∷ ns) = go (has_object code (survey_of f n)) (samples_surveys f code ns)
  where
    go : (b : Bool) → numbers_of_surveys (filter (has_object code) (map (survey_of f) ns)) ≡ filter (λ n. has_object code (survey_of f n)) ns
        → numbers_of_surveys (cond b (survey_of f n ∷ filter (has_object code) (map (survey_of f) ns)) (filter (has_object code) (map (survey_of f) ns)))
        ≡ cond b (n ∷ filter (λ n. has_object code (survey_of f n)) ns) (filter (λ n. has_object code (survey_of f n)) ns)
    go true ih = ap (λ (xs : List ℕ). n ∷ xs) ih
    go false ih = ih

-- both lists survey the same numbers, in any order, and the function `found` gives the finding of each number
record AreAlike (surveys others : List Survey) : Type 0 where
  found : ℕ → Finding
  numbers : List ℕ
  more : List ℕ
  same : AreSameNumbers numbers more
  one : surveys ≡ map (survey_of found) numbers
  other : others ≡ map (survey_of found) more

alike : (job : Job) → FindingsAreDetermined → (numbers more : List ℕ) (surveys others : List Survey) → AreSameNumbers numbers more
    → AreSurveys job numbers surveys → AreSurveys job more others → AreAlike surveys others
alike job law numbers more surveys others same are were =
    let here : AreSameNumbers (numbers_of_surveys surveys) (numbers_of_surveys others) =
    λ n. ap (count_by (nat_eq n)) are.each ∙ same n ∙ sym (ap (count_by (nat_eq n)) were.each) in
    record {
      found = finding_at surveys;
      numbers = numbers_of_surveys surveys;
      more = numbers_of_surveys others;
      same = here;
      one = surveyed_by (finding_at surveys) surveys (λ i d low.
          found_at job law surveys are.findings (get_or surveys i d).number (get_or surveys i d).finding (are.findings i d low) (among surveys i d low));
      other = surveyed_by (finding_at surveys) others (λ i d low.
          found_at job law surveys are.findings (get_or others i d).number (get_or others i d).finding (were.findings i d low)
          (same_member (get_or others i d).number (numbers_of_surveys surveys) (numbers_of_surveys others) here ∙ among others i d low));
    }

alike_sum : (g : Survey → ℕ) (surveys others : List Survey) → AreAlike surveys others → sum_by g surveys ≡ sum_by g others
alike_sum g surveys others a =
    ap (sum_by g) a.one ∙ sum_surveys g a.found a.numbers ∙ same_sum (λ n. g (survey_of a.found n)) a.numbers a.more a.same
    ∙ sym (ap (sum_by g) a.other ∙ sum_surveys g a.found a.more)

alike_samples : (code : List ℕ) (surveys others : List Survey) → AreAlike surveys others → samples surveys code ≡ samples others code
alike_samples code surveys others a =
    ap (λ (ss : List Survey). samples ss code) a.one ∙ ap least_three (samples_surveys a.found code a.numbers)
    ∙ same_least (λ n. has_object code (survey_of a.found n)) a.numbers a.more a.same
    ∙ sym (ap (λ (ss : List Survey). samples ss code) a.other ∙ ap least_three (samples_surveys a.found code a.more))

-- ---- censuses

same_census : FindingsAreDetermined → (job : Job) (ranges others : List Range) (numbers more : List ℕ) (one other : Census) → ranges ≡ others
    → AreSameNumbers numbers more → IsCensus job ranges numbers one → IsCensus job others more other → one ≡ other
same_census law job ranges others numbers more one other set same h k =
    let a : AreAlike h.surveys k.surveys = alike job law numbers more h.surveys k.surveys same h.surveyed k.surveyed in
    let totals : (code : List ℕ) → total h.surveys code ≡ total k.surveys code =
    λ code. alike_sum (λ s. count_in code s.finding) h.surveys k.surveys a in
    let loose : unsettled h.surveys ≡ unsettled k.surveys = alike_sum (λ s. cond {A = ℕ} (is_unsettled s.finding) 1 0) h.surveys k.surveys a in
    let good : for_good h.surveys ≡ for_good k.surveys = alike_sum (λ s. cond {A = ℕ} (is_for_good s.finding) 1 0) h.surveys k.surveys a in
    let rows : one.rows ≡ other.rows = same_rows h.surveys k.surveys one.rows other.rows totals (λ code. alike_samples code h.surveys k.surveys a)
    h.rows_are k.rows_are in
    let job_is : one.job ≡ other.job = h.job_is ∙ sym k.job_is in
    let set_is : one.ranges ≡ other.ranges = h.set ∙ set ∙ sym k.set in
    let size_is : one.count ≡ other.count = h.size ∙ ap size_of set ∙ sym k.size in
    let soups_are : one.soups ≡ other.soups = h.soups_are ∙ same_length numbers more same ∙ sym k.soups_are in
    let unsettled_are : one.unsettled ≡ other.unsettled = h.unsettled_are ∙ loose ∙ sym k.unsettled_are in
    let for_good_are : one.for_good ≡ other.for_good = h.for_good_are ∙ good ∙ sym k.for_good_are in
    let objects_are : one.objects ≡ other.objects = h.objects_are ∙ ap (sum_by (λ (row : Row). row.total)) rows ∙ sym k.objects_are in
    λ i. record {
      job = job_is i;
      ranges = set_is i;
      count = size_is i;
      soups = soups_are i;
      unsettled = unsettled_are i;
      for_good = for_good_are i;
      objects = objects_are i;
      rows = rows i;
    }

pub same_soups : FindingsAreDetermined → SameSoupsPrintTheSame
same_soups law job ranges others numbers more one other normal also set same h k =
    ap haul_text (same_census law job ranges others numbers more one other (normal_forms ranges others normal also set) same h k)

pub complete_hauls : FindingsAreDetermined → CompleteHaulsPrintTheSame
complete_hauls law job ranges others numbers more one other normal also set all each h k =
    same_soups law job ranges others numbers more one other normal also set
    (λ n. all n ∙ ap (λ (b : Bool). cond {A = ℕ} b 1 0) (set n) ∙ sym (each n)) h k

-- ---- the same soups in another order

-- the rows over some soups are also the rows over these soups in another order
rows_reordered : (surveys others : List Survey) (rows : List Row) → AreAlike surveys others → AreRowsOf surveys rows → AreRowsOf others rows
rows_reordered surveys others rows a are = record {
  in_order = are.in_order;
  each = All-weaker (IsRowOf surveys) (IsRowOf others) (λ row is. record {
    some = is.some;
    total_is = is.total_is ∙ totals row.code;
    samples_are = subst (AreLeastThree (numbers_with others row.code))
        (sym (one_least (numbers_with surveys row.code) row.samples is.samples_are ∙ alike_samples row.code surveys others a))
        (least_is (numbers_with others row.code));
  }) rows are.each;
  whole = λ code some. are.whole code (subst (λ (n : ℕ). 1 ≤ n) (sym (totals code)) some);
}
  where
    totals : (code : List ℕ) → total surveys code ≡ total others code
    totals code = alike_sum (λ s. count_in code s.finding) surveys others a

-- a census doesn't depend on the order of the soups
pub reordered : FindingsAreDetermined → (job : Job) (ranges : List Range) (numbers more : List ℕ) (others : List Survey) (census : Census)
    → AreSameNumbers numbers more → AreSurveys job more others → IsCensus job ranges numbers census → IsCensus job ranges more census
reordered law job ranges numbers more others census same were h =
    let a : AreAlike h.surveys others = alike job law numbers more h.surveys others same h.surveyed were in
    record {
      surveys = others;
      surveyed = were;
      job_is = h.job_is;
      set = h.set;
      size = h.size;
      soups_are = h.soups_are ∙ same_length numbers more same;
      unsettled_are = h.unsettled_are ∙ alike_sum (λ s. cond {A = ℕ} (is_unsettled s.finding) 1 0) h.surveys others a;
      for_good_are = h.for_good_are ∙ alike_sum (λ s. cond {A = ℕ} (is_for_good s.finding) 1 0) h.surveys others a;
      rows_are = rows_reordered h.surveys others census.rows a h.rows_are;
      objects_are = h.objects_are;
    }
