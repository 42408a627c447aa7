-- The census of a haul is short: its numbers are far below 10^64.
use Rattle.std.proofs.Common.{◌≡◌, ◌∙◌, ap, sym, refl, subst, ℕ, zero, suc, ◌+◌, ◌<◌, ◌≤◌, ◌^◌, ◌++◌, Bool, true, false, ◌||◌, cond, nat_eq, nat_le, nat_lt, inl, inr}
use Rattle.std.proofs.Common.{List, [], ◌∷◌, All, arith, filter, get_or, length, map, sum_by}
use Rattle.std.specs.List.{IsDistinct, list_any}
use Rattle.std.specs.Cmp.{nat_eq_equiv}
use Rattle.std.proofs.lemmas.Bool.{and_parts, cases_Bool, cases_lt, eqb-true, false≢true, ltb-true, or_right}
use Rattle.std.proofs.lemmas.List.{get_or-map, length-map}
use Rattle.std.proofs.lemmas.List.Elements.{All-cons, All-head, All-tail, All-weaker}
use Rattle.std.proofs.lemmas.List.Sums.{count_by-le-length, sum_by-cons}
use Rattle.survey_core.specs.declared.finding.Finding.{Finding}
use Rattle.survey_core.specs.declared.finding.Finding.TheVariants.{Settled, Unsettled}
use Rattle.survey_core.specs.declared.job.Job.{Job}
use Rattle.survey_core.specs.Findings.{IsFinding, objects_in}
use Rattle.survey_core.specs.Soups.{soup}
use Rattle.code_core.specs.Apgcodes.{HasCodeShape}
use Rattle.ranges.specs.declared.range.Range.{Range}
use Rattle.ranges.specs.Ranges.{AreBelow, AreNormal, end_of, is_in, is_in_range, number_bound, size_of}
use Rattle.haul_core.specs.declared.book.census_rows.Row.{Row}
use Rattle.haul_core.specs.ClaimChecks.{HaveShape}
use Rattle.haul_core.specs.Keeping.{numbers_in}
use Rattle.haul_core.specs.Samples.{AreLeastThree}
use Rattle.haul_core.specs.Totals.{AreSurveys, Survey, count_in, has_object, is_for_good, is_unsettled, numbers_with, total}
use Rattle.haul_core.proofs.JoinLemmas.{size_below}
use Rattle.haul_core.proofs.MissingLemmas.{missing_counted}
use Rattle.haul_core.proofs.NumberLemmas.{any_counted}
use Rattle.haul_core.proofs.SumLemmas.{sum_small}
use Rattle.laws.specs.HaulTexts.{AreTakenOf, HaulCensusesAreShort, IsJob, IsWrittenWhole}
use Rattle.survey_core.proofs.lemmas.shapes.MarkLemmas.{listed_code}
use Rattle.laws.proofs.ShapeLemmas.{IsSmallFinding, small_finding, soup_close}

-- ---- surveys

-- the finding of each soup is small: it has fewer than 2^64 objects, and their codes have the shape of apgcodes
small_surveys : (job : Job) (numbers : List ℕ) (surveys : List Survey) → IsJob job → AreSurveys job numbers surveys
    → All (λ s. IsSmallFinding s.finding) surveys
small_surveys job numbers surveys valid are =
    All-weaker (λ s. IsFinding job.rule job.profile (soup job.seed s.number) s.finding) (λ s. IsSmallFinding s.finding)
    (λ s found. small_finding job.rule job.profile (soup job.seed s.number) s.finding valid.profile (soup_close job.seed s.number) found)
    surveys are.findings

count_shape : (code : List ℕ) (finding : Finding) → HaveShape finding → 1 ≤ count_in code finding → HasCodeShape code
count_shape code (Settled t objects good) shape some = listed_code objects code some HasCodeShape shape
count_shape code Unsettled shape some = absurd (omega (arith, some))

-- a code whose total is at least 1 has the shape of an apgcode
total_shape : (code : List ℕ) (surveys : List Survey) → All (λ s. IsSmallFinding s.finding) surveys → 1 ≤ total surveys code → HasCodeShape code
total_shape code [] small some = absurd (omega (arith, some))
total_shape code (s ∷ surveys) small some =
    let whole : total (s ∷ surveys) code ≡ count_in code s.finding + total surveys code = sum_by-cons (λ t. count_in code t.finding) s surveys in
    elim (cases_lt 0 (count_in code s.finding)) [
      | inl here ↦ count_shape code s.finding (All-head (λ s. IsSmallFinding s.finding) s surveys small).shape (omega (arith, here))
      | inr none ↦ total_shape code surveys (All-tail (λ s. IsSmallFinding s.finding) s surveys small) (omega (arith, whole, some, none))
    ]

-- ---- numbers

entries : List ℕ → List (ℕ × ℕ)
entries numbers = map (λ n. (0, n)) numbers

entries_numbers : (numbers : List ℕ) → numbers_in (entries numbers) ≡ numbers
unfolding entries
entries_numbers [] = refl
entries_numbers (n ∷ ns) = ap (λ (more : List ℕ). n ∷ more) (entries_numbers ns)

entries_within : (ranges : List Range) (numbers : List ℕ) → All (λ n. is_in ranges n ≡ true) numbers → All (λ t. is_in ranges t.1 ≡ true) (entries numbers)
unfolding entries
entries_within ranges [] within k d low = absurd (omega arith)
entries_within ranges (n ∷ ns) within zero d low = within 0 n (omega arith)
entries_within ranges (n ∷ ns) within (suc k) d low =
    entries_within ranges ns (λ j e less. within (suc j) e (omega arith)) k d (omega arith)

-- at most 2^40 numbers are taken from ranges that have only numbers below 2^40
few_numbers : (ranges : List Range) (numbers : List ℕ) → AreNormal ranges → AreBelow number_bound ranges → AreTakenOf ranges numbers → length numbers ≤ 2 ^ 40
unfolding entries
few_numbers ranges numbers normal below taken =
    let counted = missing_counted ranges (entries numbers) normal (entries_within ranges numbers taken.within)
    (subst (IsDistinct nat_eq) (sym (entries_numbers numbers)) taken.distinct) in
    let size : size_of ranges ≤ 2 ^ 40 = size_below number_bound ranges normal below in
    let same : length (entries numbers) ≡ length numbers = length-map numbers (λ n. (0, n)) in
    omega (arith, counted, size, same)

in_below : (ranges : List Range) (n : ℕ) → AreBelow number_bound ranges → is_in ranges n ≡ true → n < 2 ^ 40
in_below [] n below h = absurd (false≢true h)
in_below (r ∷ ranges) n below h = elim (cases_Bool (is_in_range n r)) [
  | inl here ↦
      let end : end_of r ≤ 2 ^ 40 = below 0 r (omega arith) in
      let less : n < end_of r = ltb-true n (end_of r) (and_parts (nat_le r.first n) (nat_lt n (end_of r)) here).1 in
      omega (arith, end, less)
  | inr other ↦ in_below ranges n (λ k d low. below (suc k) d (omega arith)) (sym (ap (λ (b : Bool). b || is_in ranges n) other) ∙ h)
]

-- if all items of a list have a property, so has each number that is found in the list
any_member : (P : ℕ → Type 0) (numbers : List ℕ) → All P numbers → (n : ℕ) → list_any (nat_eq n) numbers ≡ true → P n
any_member P [] all n h = absurd (false≢true h)
any_member P (m ∷ ms) all n h = elim (cases_Bool (nat_eq n m)) [
  | inl same ↦ subst P (sym (eqb-true n m same)) (all 0 m (omega arith))
  | inr other ↦ any_member P ms (λ k d low. all (suc k) d (omega arith)) n (sym (ap (λ (b : Bool). b || list_any (nat_eq n) ms) other) ∙ h)
]

-- ---- rows

numbers_below : (surveys : List Survey) (code : List ℕ) → All (λ s. s.number < 2 ^ 40) surveys → All (λ n. n < 2 ^ 40) (numbers_with surveys code)
numbers_below [] code low = λ k d less. absurd (omega arith)
numbers_below (s ∷ surveys) code low = go (has_object code s) (numbers_below surveys code (λ k d less. low (suc k) d (omega arith)))
  where
    go : (b : Bool) → All (λ n. n < 2 ^ 40) (numbers_with surveys code)
        → All (λ n. n < 2 ^ 40) (map (λ (t : Survey). t.number) (cond b (s ∷ filter (has_object code) surveys) (filter (has_object code) surveys)))
    go true more = All-cons (λ n. n < 2 ^ 40) s.number (numbers_with surveys code) (low 0 s (omega arith)) more
    go false more = more

least_member : (numbers least : List ℕ) → AreLeastThree numbers least → All (λ n. list_any (nat_eq n) numbers ≡ true) least
least_member numbers least are k d low =
    let n = get_or least k d in
    any_counted (get_or least k d) numbers
    ∙ ap (nat_le 1) (sym (are.all (get_or least k d)))
    ∙ sym (any_counted (get_or least k d) (least ++ are.others)) ∙ there least are.others k d low
  where
    there : (xs ys : List ℕ) (k d : ℕ) → k < length xs → list_any (nat_eq (get_or xs k d)) (xs ++ ys) ≡ true
    there [] ys k d low = absurd (omega arith)
    there (x ∷ xs) ys zero d low = ap (λ (b : Bool). b || list_any (nat_eq x) (xs ++ ys)) (nat_eq_equiv.refl x)
    there (x ∷ xs) ys (suc k) d low = or_right (nat_eq (get_or xs k d) x) (list_any (nat_eq (get_or xs k d)) (xs ++ ys)) (there xs ys k d (omega arith))

-- the total of a row is at most the sum of all totals
row_below : (rows : List Row) → All (λ row. row.total ≤ sum_by (λ r. r.total) rows) rows
row_below [] k d low = absurd (omega arith)
row_below (row ∷ rows) zero d low =
    let whole : sum_by (λ (r : Row). r.total) (row ∷ rows) ≡ row.total + sum_by (λ (r : Row). r.total) rows = sum_by-cons (λ (r : Row). r.total) row rows in
    omega (arith, whole)
row_below (row ∷ rows) (suc k) d low =
    let whole : sum_by (λ (r : Row). r.total) (row ∷ rows) ≡ row.total + sum_by (λ (r : Row). r.total) rows = sum_by-cons (λ (r : Row). r.total) row rows in
    let more = row_below rows k d (omega arith) in
    omega (arith, whole, more)

-- ---- the census of a haul is short: its numbers are far below 10^64

pub haul_censuses_are_short : HaulCensusesAreShort
haul_censuses_are_short job ranges numbers census valid normal below taken h = record {
  job = subst IsJob (sym h.job_is) valid;
  normal = subst AreNormal (sym h.set) normal;
  ranges = subst (λ (rs : List Range). All (λ r. IsWrittenWhole r.first × IsWrittenWhole r.count) rs) (sym h.set)
      (λ k d low. let end : end_of (get_or ranges k d) ≤ 2 ^ 40 = below k d low in (omega (arith, end), omega (arith, end)));
  size = h.size ∙ ap size_of (sym h.set);
  soups = let same = h.soups_are in omega (arith, same, few);
  unsettled = let same = h.unsettled_are in omega (arith, same, surveyed, few, count_by-le-length (λ s. is_unsettled s.finding) h.surveys);
  for_good = let same = h.for_good_are in omega (arith, same, surveyed, few, count_by-le-length (λ s. is_for_good s.finding) h.surveys);
  objects = let same = h.objects_are in omega (arith, same, sum);
  rows = λ k d low.
      let row = h.rows_are.each k d low in
      let most = row_below census.rows k d low in
      let some : 1 ≤ total h.surveys (get_or census.rows k d).code = subst (λ (n : ℕ). 1 ≤ n) row.total_is row.some in
      record {
        code = total_shape (get_or census.rows k d).code h.surveys small some;
        total = omega (arith, most, sum);
        samples = λ j e less.
            let member = least_member (numbers_with h.surveys (get_or census.rows k d).code) (get_or census.rows k d).samples row.samples_are j e less in
            let under : get_or (get_or census.rows k d).samples j e < 2 ^ 40 = any_member (λ n. n < 2 ^ 40)
            (numbers_with h.surveys (get_or census.rows k d).code) (numbers_below h.surveys (get_or census.rows k d).code numbered)
            (get_or (get_or census.rows k d).samples j e) member in
            omega (arith, under);
      };
}
  where
    few : length numbers ≤ 2 ^ 40
    few = few_numbers ranges numbers normal below taken

    small : All (λ s. IsSmallFinding s.finding) h.surveys
    small = small_surveys job numbers h.surveys valid h.surveyed

    surveyed : length h.surveys ≡ length numbers
    surveyed = sym (length-map h.surveys (λ (s : Survey). s.number)) ∙ ap length h.surveyed.each

    numbered : All (λ s. s.number < 2 ^ 40) h.surveys
    numbered k d low =
        let same : get_or (map (λ (s : Survey). s.number) h.surveys) k d.number ≡ (get_or h.surveys k d).number =
        get_or-map (λ (s : Survey). s.number) h.surveys k d d.number low in
        let there : is_in ranges (get_or numbers k d.number) ≡ true = taken.within k d.number (omega (arith, low, surveyed)) in
        in_below ranges (get_or h.surveys k d).number below
        (subst (λ (n : ℕ). is_in ranges n ≡ true) (sym (ap (λ (ns : List ℕ). get_or ns k d.number) h.surveyed.each) ∙ same) there)

    sum : sum_by (λ (r : Row). r.total) census.rows < 2 ^ 128
    sum = sum_small h.surveys census.rows h.rows_are
        (All-weaker (λ s. IsSmallFinding s.finding) (λ s. objects_in s.finding < 2 ^ 64) (λ s is. is.few) h.surveys small) (omega (arith, surveyed, few))
