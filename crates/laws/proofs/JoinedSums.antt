-- The census of a joined haul is the sum of the censuses of the two hauls. A code's samples are the three lowest of its
-- samples in both censuses.
use Rattle.std.proofs.Common.{◌≡◌, ◌∙◌, ◌+◌, ◌++◌, ◌≤◌, ℕ, zero, suc, Bool, true, false, cond, List, [], ◌∷◌, ◌||◌, ◌&&◌}
use Rattle.std.proofs.Common.{◌⊎◌, Some, ap, sym, subst, refl, arith, drop, filter, get_or, map, nat_eq, nat_le, option_map, sum_by, unwrap_or, inl, inr, zero-add}
use Rattle.std.specs.Cmp.Lexicographic.{slice_cmp}
use Rattle.std.specs.List.{All, find, list_any}
use Rattle.std.specs.Ordering.{nat_cmp}
use Rattle.std.proofs.lemmas.Bool.{cases_Bool, le-leb, leb-true, false≢true}
use Rattle.std.proofs.lemmas.List.{length-append, map-append}
use Rattle.std.proofs.lemmas.List.Elements.{All-append, All-head, All-tail, All-weaker, filter-append}
use Rattle.std.proofs.lemmas.List.Kept.{IsStrictlySortedBy-filter}
use Rattle.std.proofs.lemmas.List.Sums.{sum_by-append, sum_by-cons}
use Rattle.std.proofs.lemmas.Map.Views.{any-filter_same}
use Rattle.survey_core.specs.FindingLaws.{FindingsAreDetermined}
use Rattle.survey_core.specs.shapes.Objects.{is_code}
use Rattle.survey_core.specs.Soups.{soup}
use Rattle.survey_core.specs.declared.job.Job.{Job}
use Rattle.haul_core.specs.declared.book.census_rows.Row.{Row}
use Rattle.laws.specs.Censuses.{JoinedHaulsAddUp, SplitSetsAddUp, samples_in, total_in}
use Rattle.haul_core.specs.Keeping.{samples}
use Rattle.haul_core.specs.Missing.{AreAll}
use Rattle.ranges.specs.declared.range.Range.{Range}
use Rattle.ranges.specs.Ranges.{ShareNumber, is_in}
use Rattle.haul_core.specs.Rows.{AreRowsOf, IsRowOf, codes_of}
use Rattle.haul_core.specs.SampleSteps.{least_three}
use Rattle.haul_core.specs.Samples.{AreLeastThree, AreSameNumbers}
use Rattle.haul_core.specs.Totals.{AreSurveys, Survey, count_in, for_good, has_object, is_for_good, is_unsettled, numbers_with, total, unsettled}
use Rattle.haul_core.proofs.JoinedSamples.{least_of_leasts}
use Rattle.laws.proofs.CensusLemmas.{IsFound, numbers_of_surveys, reordered}
use Rattle.haul_core.proofs.LeastLemmas.{least_is, one_least}
use Rattle.laws.proofs.RowLemmas.{has_row, one_code, one_order}
use Rattle.haul_core.proofs.SumLemmas.{rows_summed}

-- two lists of surveys of one job are equal if they have the same list of numbers
one_list : (job : Job) → FindingsAreDetermined → (surveys others : List Survey) → numbers_of_surveys surveys ≡ numbers_of_surveys others
    → All (λ s. IsFound job s.number s.finding) surveys → All (λ s. IsFound job s.number s.finding) others → surveys ≡ others
one_list job law [] [] same each were = refl
one_list job law [] (t ∷ ts) same each were = absurd (cc)
one_list job law (s ∷ ss) [] same each were = absurd (cc)
one_list job law (s ∷ ss) (t ∷ ts) same each were =
    let number : s.number ≡ t.number = ap (λ (ns : List ℕ). get_or ns 0 0) same in
    let remainder : numbers_of_surveys ss ≡ numbers_of_surveys ts = ap (λ (ns : List ℕ). drop 1 ns) same in
    let own : IsFound job s.number s.finding = All-head (λ s. IsFound job s.number s.finding) s ss each in
    let other : IsFound job s.number t.finding =
    subst (λ (n : ℕ). IsFound job n t.finding) (sym number) (All-head (λ s. IsFound job s.number s.finding) t ts were) in
    let more : ss ≡ ts = one_list job law ss ts remainder (All-tail (λ s. IsFound job s.number s.finding) s ss each)
    (All-tail (λ s. IsFound job s.number s.finding) t ts were) in
    λ i. record { number = number i; finding = law job.rule job.profile (soup job.seed s.number) s.finding t.finding own other i } ∷ more i

both_lists : (job : Job) (numbers more : List ℕ) (surveys others : List Survey) → AreSurveys job numbers surveys → AreSurveys job more others
    → AreSurveys job (numbers ++ more) (surveys ++ others)
both_lists job numbers more surveys others are were =
    record {
      each = map-append (λ (s : Survey). s.number) surveys others ∙ (λ i. are.each i ++ were.each i);
      findings = All-append (λ s. IsFound job s.number s.finding) surveys others are.findings were.findings;
    }

-- ---- the total in a row

at_least_one : (n : ℕ) → cond {A = ℕ} (nat_le 1 n) n 0 ≡ n
at_least_one zero = refl
at_least_one (suc n) = ap (λ (b : Bool). cond {A = ℕ} b (suc n) 0) (le-leb 1 (suc n) (omega arith))

-- if `said row` equals `meant row.code` for each row, then looking up `code` in the rows gives `meant code`, or
-- `nothing` if the code has no row
module _ {X : Type 0} (said : Row → X) (meant : List ℕ → X) (nothing : X) where
  in_row : (rows : List Row) (code : List ℕ) → All (λ row. said row ≡ meant row.code) rows
      → unwrap_or (option_map said (find (λ row. is_code code row.code) rows)) nothing
      ≡ cond (list_any (is_code code) (codes_of rows)) (meant code) nothing
  in_row [] code each = refl
  in_row (row ∷ rows) code each =
      go (is_code code row.code)
      (λ h. All-head (λ r. said r ≡ meant r.code) row rows each ∙ ap meant (sym (one_code code row.code h)))
      (in_row rows code (All-tail (λ r. said r ≡ meant r.code) row rows each))
    where
      go : (b : Bool) → (b ≡ true → said row ≡ meant code)
          → unwrap_or (option_map said (find (λ r. is_code code r.code) rows)) nothing
          ≡ cond (list_any (is_code code) (codes_of rows)) (meant code) nothing
          → unwrap_or (option_map said (cond b (Some row) (find (λ r. is_code code r.code) rows))) nothing
          ≡ cond (b || list_any (is_code code) (codes_of rows)) (meant code) nothing
      go true here ih = here refl
      go false here ih = ih

row_total : (surveys : List Survey) (rows : List Row) → AreRowsOf surveys rows → (code : List ℕ) → total_in rows code ≡ total surveys code
row_total surveys rows are code =
    in_row (λ row. row.total) (total surveys) 0 rows code
    (All-weaker (IsRowOf surveys) (λ row. row.total ≡ total surveys row.code) (λ row is. is.total_is) rows are.each)
    ∙ ap (λ (b : Bool). cond {A = ℕ} b (total surveys code) 0) (has_row surveys rows are code)
    ∙ at_least_one (total surveys code)

-- ---- the samples in a row

-- if the total of a code is 0, no soup left an object with the code
none_with : (surveys : List Survey) (code : List ℕ) → total surveys code ≡ 0 → numbers_with surveys code ≡ []
none_with [] code none = refl
none_with (s ∷ ss) code none =
    let sum : total (s ∷ ss) code ≡ count_in code s.finding + total ss code = sum_by-cons (λ t. count_in code t.finding) s ss in
    let here : count_in code s.finding ≡ 0 = omega arith in
    let more : total ss code ≡ 0 = omega arith in
    let others : List Survey = filter (has_object code) ss in
    ap (λ (n : ℕ). map (λ (t : Survey). t.number) (cond (nat_le 1 n) (s ∷ others) others)) here ∙ none_with ss code more

samples_if_any : (surveys : List Survey) (code : List ℕ) (n : ℕ) → total surveys code ≡ n
    → cond (nat_le 1 n) (samples surveys code) [] ≡ samples surveys code
samples_if_any surveys code zero none = sym (ap least_three (none_with surveys code none))
samples_if_any surveys code (suc n) some =
    ap (λ (b : Bool). cond b (samples surveys code) []) (le-leb 1 (suc n) (omega arith))

row_samples : (surveys : List Survey) (rows : List Row) → AreRowsOf surveys rows → (code : List ℕ)
    → samples_in rows code ≡ samples surveys code
row_samples surveys rows are code =
    in_row (λ row. row.samples) (samples surveys) [] rows code
    (All-weaker (IsRowOf surveys) (λ row. row.samples ≡ samples surveys row.code)
    (λ row is. one_least (numbers_with surveys row.code) row.samples is.samples_are) rows are.each)
    ∙ ap (λ (b : Bool). cond b (samples surveys code) []) (has_row surveys rows are code)
    ∙ samples_if_any surveys code (total surveys code) refl

-- in two joined lists, the soups that left an object with a code are those of the first list, then those of the second
numbers_of_both : (surveys others : List Survey) (code : List ℕ)
    → numbers_with (surveys ++ others) code ≡ numbers_with surveys code ++ numbers_with others code
numbers_of_both surveys others code =
    ap (map (λ (s : Survey). s.number)) (filter-append (has_object code) surveys others)
    ∙ map-append (λ (s : Survey). s.number) (filter (has_object code) surveys) (filter (has_object code) others)

-- ---- the sum of all totals, over the codes of a census with more soups

no_object : (n : ℕ) → nat_le 1 n ≡ false → 0 ≡ n
no_object zero none = refl
no_object (suc n) none = absurd (false≢true (sym none ∙ le-leb 1 (suc n) (omega arith)))

sum_left : {X : Type 0} (f : X → ℕ) (xs : List X) → sum_by f (filter (λ x. nat_le 1 (f x)) xs) ≡ sum_by f xs
sum_left f [] = refl
sum_left {X} f (x ∷ xs) = go (cases_Bool (nat_le 1 (f x))) (sum_left f xs)
  where
    left : List X
    left = filter (λ x. nat_le 1 (f x)) xs

    go : (nat_le 1 (f x) ≡ true) ⊎ (nat_le 1 (f x) ≡ false) → sum_by f left ≡ sum_by f xs
        → sum_by f (cond (nat_le 1 (f x)) (x ∷ left) left) ≡ sum_by f (x ∷ xs)
    go (inl some) remainder =
        ap (λ (b : Bool). sum_by f (cond b (x ∷ left) left)) some ∙ sum_by-cons f x left ∙ ap (λ (n : ℕ). f x + n) remainder ∙ sym (sum_by-cons f x xs)
    go (inr none) remainder =
        ap (λ (b : Bool). sum_by f (cond b (x ∷ left) left)) none ∙ remainder ∙ sym (zero-add (sum_by f xs))
        ∙ ap (λ (n : ℕ). n + sum_by f xs) (no_object (f x) none) ∙ sym (sum_by-cons f x xs)

both_known : (b c : Bool) → (b ≡ true → c ≡ true) → (b && c) ≡ b
both_known true c h = h refl
both_known false c h = refl

-- Suppose that no code has a higher total in a census than in a wider census. Then the census's totals have the same
-- sum over the codes of its own rows as over the codes of the wider census's rows.
rows_within : (surveys wider : List Survey) (rows more : List Row) → AreRowsOf surveys rows → AreRowsOf wider more
    → ((code : List ℕ) → total surveys code ≤ total wider code) → sum_by (λ row. row.total) rows ≡ sum_by (total surveys) (codes_of more)
rows_within surveys wider rows more are were less =
    let some : List ℕ → Bool = λ code. nat_le 1 (total surveys code) in
    let there : (code : List ℕ) → some code ≡ true → list_any (is_code code) (codes_of more) ≡ true =
    λ code h. were.whole code (least_of (leb-true 1 (total surveys code) h) (less code)) in
    let codes : codes_of rows ≡ filter some (codes_of more) =
    one_order (codes_of rows) (filter some (codes_of more)) are.in_order (IsStrictlySortedBy-filter (slice_cmp nat_cmp) some (codes_of more) were.in_order)
    (λ code. has_row surveys rows are code
    ∙ sym (any-filter_same (is_code code) some (some code) (λ k same. ap some (sym (one_code code k same))) (codes_of more)
    ∙ both_known (some code) (list_any (is_code code) (codes_of more)) (there code))) in
    rows_summed surveys rows are.each ∙ ap (sum_by (total surveys)) codes ∙ sum_left (total surveys) (codes_of more)
  where
    least_of : {n m : ℕ} → 1 ≤ n → n ≤ m → 1 ≤ m
    least_of h k = omega arith

sum_of_two : {X : Type 0} (f g h : X → ℕ) (xs : List X) → ((x : X) → h x ≡ f x + g x) → sum_by h xs ≡ sum_by f xs + sum_by g xs
sum_of_two f g h [] each = refl
sum_of_two f g h (x ∷ xs) each =
    let here : h x ≡ f x + g x = each x in
    let remainder : sum_by h xs ≡ sum_by f xs + sum_by g xs = sum_of_two f g h xs each in
    let of_f : sum_by f (x ∷ xs) ≡ f x + sum_by f xs = sum_by-cons f x xs in
    let of_g : sum_by g (x ∷ xs) ≡ g x + sum_by g xs = sum_by-cons g x xs in
    let of_h : sum_by h (x ∷ xs) ≡ h x + sum_by h xs = sum_by-cons h x xs in
    omega arith

-- ---- joined hauls

pub add_up : FindingsAreDetermined → JoinedHaulsAddUp
add_up law job ranges others all numbers more one other both h k b =
    let lists : AreSurveys job (numbers ++ more) (h.surveys ++ k.surveys) = both_lists job numbers more h.surveys k.surveys h.surveyed k.surveyed in
    let same : b.surveys ≡ h.surveys ++ k.surveys =
    one_list job law b.surveys (h.surveys ++ k.surveys) (b.surveyed.each ∙ sym lists.each) b.surveyed.findings lists.findings in
    let sums : (g : Survey → ℕ) → sum_by g b.surveys ≡ sum_by g h.surveys + sum_by g k.surveys =
    λ g. ap (sum_by g) same ∙ sum_by-append g h.surveys k.surveys in
    let totals : (code : List ℕ) → total b.surveys code ≡ total h.surveys code + total k.surveys code = λ code. sums (λ s. count_in code s.finding) in
    let loose : unsettled b.surveys ≡ unsettled h.surveys + unsettled k.surveys = sums (λ s. cond {A = ℕ} (is_unsettled s.finding) 1 0) in
    let good : for_good b.surveys ≡ for_good h.surveys + for_good k.surveys = sums (λ s. cond {A = ℕ} (is_for_good s.finding) 1 0) in
    let first : one.objects ≡ sum_by (total h.surveys) (codes_of both.rows) =
    h.objects_are ∙ rows_within h.surveys b.surveys one.rows both.rows h.rows_are b.rows_are
    (λ code. part (total b.surveys code) (total h.surveys code) (total k.surveys code) (totals code)) in
    let second : other.objects ≡ sum_by (total k.surveys) (codes_of both.rows) =
    k.objects_are ∙ rows_within k.surveys b.surveys other.rows both.rows k.rows_are b.rows_are
    (λ code. remainder (total b.surveys code) (total h.surveys code) (total k.surveys code) (totals code)) in
    record {
      soups = b.soups_are ∙ length-append numbers more ∙ (λ i. sym h.soups_are i + sym k.soups_are i);
      unsettled = b.unsettled_are ∙ loose ∙ (λ i. sym h.unsettled_are i + sym k.unsettled_are i);
      for_good = b.for_good_are ∙ good ∙ (λ i. sym h.for_good_are i + sym k.for_good_are i);
      objects = b.objects_are ∙ rows_summed b.surveys both.rows b.rows_are.each
          ∙ sum_of_two (total h.surveys) (total k.surveys) (total b.surveys) (codes_of both.rows) totals ∙ (λ i. sym first i + sym second i);
      totals = λ code. row_total b.surveys both.rows b.rows_are code ∙ totals code
          ∙ (λ i. sym (row_total h.surveys one.rows h.rows_are code) i + sym (row_total k.surveys other.rows k.rows_are code) i);
      samples = λ code.
          let ours = row_samples h.surveys one.rows h.rows_are code in
          let theirs = row_samples k.surveys other.rows k.rows_are code in
          let all = samples_in one.rows code ++ samples_in other.rows code in
          let least : least_three all ≡ samples_in both.rows code =
          (λ i. least_three (ours i ++ theirs i))
          ∙ least_of_leasts (numbers_with h.surveys code) (numbers_with k.surveys code)
          ∙ ap least_three (sym (ap (λ (ss : List Survey). numbers_with ss code) same ∙ numbers_of_both h.surveys k.surveys code))
          ∙ sym (row_samples b.surveys both.rows b.rows_are code) in
          subst (AreLeastThree all) least (least_is all);
    }
  where
    part : (a b c : ℕ) → a ≡ b + c → b ≤ a
    part a b c e = omega arith

    remainder : (a b c : ℕ) → a ≡ b + c → c ≤ a
    remainder a b c e = omega arith

-- ---- sets without a common number

-- if two sets share no number, the list of one set's numbers, followed by the list of the other's, has each number of
-- the union once, and no other number
both_counted : (ranges others all : List Range) (numbers more every : List ℕ) → ((n : ℕ) → is_in all n ≡ (is_in ranges n || is_in others n))
    → ¬ ShareNumber ranges others → AreAll ranges numbers → AreAll others more → AreAll all every → AreSameNumbers every (numbers ++ more)
both_counted ranges others all numbers more every union apart of_one of_other of_all n =
    of_all n ∙ ap (λ (b : Bool). cond {A = ℕ} b 1 0) (union n) ∙ go (is_in ranges n) (is_in others n) refl refl
    ∙ (λ i. sym (of_one n) i + sym (of_other n) i) ∙ sym (sum_by-append (λ m. cond {A = ℕ} (nat_eq n m) 1 0) numbers more)
  where
    go : (b c : Bool) → is_in ranges n ≡ b → is_in others n ≡ c
        → cond {A = ℕ} (b || c) 1 0 ≡ cond {A = ℕ} b 1 0 + cond {A = ℕ} c 1 0
    go true true here there = absurd (apart (record { number = n; first = here; second = there }))
    go true false here there = refl
    go false c here there = sym (zero-add (cond {A = ℕ} c 1 0))

pub split_sets : FindingsAreDetermined → SplitSetsAddUp
split_sets law job ranges others all one other both union apart h k b =
    let same = both_counted ranges others all h.numbers k.numbers b.numbers union apart h.all k.all b.all in
    let surveyed = both_lists job h.numbers k.numbers h.is.surveys k.is.surveys h.is.surveyed k.is.surveyed in
    add_up law job ranges others all h.numbers k.numbers one other both h.is k.is
    (reordered law job all b.numbers (h.numbers ++ k.numbers) (h.is.surveys ++ k.is.surveys) both same surveyed b.is)
