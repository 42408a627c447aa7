-- Rows that are made from the scores of surveys are the rows of the census. If there are fewer than 2^64 surveys, each
-- with fewer than 2^64 objects, the totals of the rows add up to less than 2^128.
use Rattle.std.proofs.Common.{◌≡◌, ◌∙◌, ◌+◌, ◌-◌, ◌*◌, ◌^◌, ◌<◌, ◌≤◌, ℕ, Bool, true, false, cond, nat_lt, List, [], ◌∷◌, Option}
use Rattle.std.proofs.Common.{None, Some, IsSome, ap, sym, subst, refl, arith, inl, inr, ◌⊎◌, length, sum, sum_by, unwrap_or, zero-add}
use Rattle.std.specs.Cmp.{eq_by_cmp_equiv}
use Rattle.std.specs.Cmp.Lexicographic.{nat_list_cmp_total, slice_cmp}
use Rattle.std.specs.List.{All, AllByRecursion, IsDistinct}
use Rattle.std.specs.Map.{lookup, values_of}
use Rattle.std.specs.Ordering.{eq_by_cmp, nat_cmp}
use Rattle.std.proofs.lemmas.Bool.{cases_Bool, lt-ltb, ltb-true}
use Rattle.std.proofs.lemmas.List.Elements.{All-head, All-tail, All-weaker}
use Rattle.std.proofs.lemmas.List.Sums.{sum_by-cons, sum_by-le}
use Rattle.std.proofs.lemmas.Map.Keys.{IsDistinct-from_sorted, IsDistinct-tail, IsDistinct-head}
use Rattle.survey_core.specs.Findings.{objects_in}
use Rattle.survey_core.specs.shapes.Objects.{count_of, is_code}
use Rattle.survey_core.specs.declared.finding.Finding.{Finding}
use Rattle.survey_core.specs.declared.finding.Finding.TheVariants.{Settled, Unsettled}
use Rattle.haul_core.specs.declared.book.census_rows.Row.{Row}
use Rattle.haul_core.specs.declared.book.scores.Score.{Score}
use Rattle.haul_core.specs.Keeping.{score_of}
use Rattle.haul_core.specs.RowSteps.{AreRowsFrom, with_objects}
use Rattle.haul_core.specs.Rows.{AreRowsOf, IsRowOf, codes_of}
use Rattle.haul_core.specs.Scores.{no_score, found_score, score_in}
use Rattle.haul_core.specs.Samples.{AreLeastThree}
use Rattle.haul_core.specs.Totals.{Survey, count_in, numbers_with, total}
use Rattle.haul_core.proofs.LeastLemmas.{least_is}

with_objects_some : (o : Option Score) (t : Score) → with_objects o ≡ Some t → (o ≡ Some t) × (1 ≤ t.total)
with_objects_some None t h = absurd (cc)
with_objects_some (Some score) t h = go (cases_Bool (nat_lt 0 score.total))
  where
    go : (nat_lt 0 score.total ≡ true) ⊎ (nat_lt 0 score.total ≡ false) → (Some score ≡ Some t) × (1 ≤ t.total)
    go (inl some) =
        let same : Some score ≡ Some t = sym (ap (λ (b : Bool). cond b (Some score) None) some) ∙ h in
        let low : 0 < score.total = ltb-true 0 score.total some in
        (same, subst (λ (n : ℕ). 1 ≤ n) (ap (λ (o : Option Score). (unwrap_or o no_score).total) same) low)
    go (inr none) = let bad : None ≡ Some t = sym (ap (λ (b : Bool). cond b (Some score) None) none) ∙ h in absurd (cc)

pub rows_of_surveys : (scores : List (List ℕ × Score)) (surveys : List Survey) (rows : List Row) → AreRowsFrom scores rows
    → ((code : List ℕ) → score_in scores code ≡ score_of surveys code) → AreRowsOf surveys rows
rows_of_surveys scores surveys rows from same = record {
  in_order = from.in_order;
  each = All-weaker (λ row. with_objects (found_score scores row.code) ≡ Some (record { total = row.total; samples = row.samples })) (IsRowOf surveys)
      (λ row h. row_is row (with_objects_some (found_score scores row.code) (record { total = row.total; samples = row.samples }) h)) rows from.each;
  whole = λ code some. from.whole code (found code (found_score scores code) refl some);
}
  where
    row_is : (row : Row) → (found_score scores row.code ≡ Some (record { total = row.total; samples = row.samples })) × (1 ≤ row.total) → IsRowOf surveys row
    row_is row h =
        let told : record { total = row.total; samples = row.samples } ≡ score_of surveys row.code =
        sym (ap (λ (o : Option Score). unwrap_or o no_score) h.0) ∙ same row.code in
        record {
          some = h.1;
          total_is = ap (λ (t : Score). t.total) told;
          samples_are = subst (AreLeastThree (numbers_with surveys row.code)) (sym (ap (λ (t : Score). t.samples) told)) (least_is (numbers_with surveys row.code));
        }

    found : (code : List ℕ) (o : Option Score) → found_score scores code ≡ o → 1 ≤ total surveys code → IsSome (with_objects (found_score scores code))
    found code None e some =
        let none : 0 ≡ total surveys code = ap (λ (t : Score). t.total) (sym (ap (λ (o : Option Score). unwrap_or o no_score) e)
        ∙ same code) in absurd (omega arith)
    found code (Some t) e some =
        let is : t.total ≡ total surveys code = ap (λ (t : Score). t.total) (sym (ap (λ (o : Option Score). unwrap_or o no_score) e) ∙ same code) in
        subst (λ (o : Option Score). IsSome (with_objects o)) (sym e) (subst (λ (b : Bool). IsSome (cond b (Some t) None)) (sym (lt-ltb 0 t.total (omega arith))) refl)

-- ---- the sum of all totals

zeros : (codes : List (List ℕ)) → sum_by (λ (code : List ℕ). 0) codes ≡ 0
zeros [] = refl
zeros (c ∷ cs) = sum_by-cons (λ (code : List ℕ). 0) c cs ∙ zero-add (sum_by (λ (code : List ℕ). 0) cs) ∙ zeros cs

-- if `k` isn't one of the codes, counting `n` for each code that is `k` gives 0
unweighed : (c k : List ℕ) (n : ℕ) (codes : List (List ℕ)) → is_code c k ≡ true → AllByRecursion (λ y. eq_by_cmp (slice_cmp nat_cmp) c y ≡ false) codes
    → sum_by (λ code. cond (is_code code k) n 0) codes ≡ 0
unweighed c k n [] same apart = refl
unweighed c k n (y ∷ ys) same apart =
    let other : is_code y k ≡ false =
    (eq_by_cmp_equiv nat_list_cmp_total).symm y k ∙ sym ((eq_by_cmp_equiv nat_list_cmp_total).congr c k y same) ∙ apart.0 in
    sum_by-cons (λ code. cond (is_code code k) n 0) y ys ∙ ap (λ (b : Bool). cond b n 0 + sum_by (λ code. cond (is_code code k) n 0) ys) other
    ∙ zero-add (sum_by (λ code. cond (is_code code k) n 0) ys) ∙ unweighed c k n ys same apart.1

weighed : (k : List ℕ) (n : ℕ) (codes : List (List ℕ)) → IsDistinct (eq_by_cmp (slice_cmp nat_cmp)) codes
    → sum_by (λ code. cond (is_code code k) n 0) codes ≤ n
weighed k n [] distinct = omega arith
weighed k n (c ∷ cs) distinct = go (cases_Bool (is_code c k)) (weighed k n cs (IsDistinct-tail (eq_by_cmp (slice_cmp nat_cmp)) c cs distinct))
  where
    go : (is_code c k ≡ true) ⊎ (is_code c k ≡ false) → sum_by (λ code. cond (is_code code k) n 0) cs ≤ n
        → sum_by (λ code. cond (is_code code k) n 0) (c ∷ cs) ≤ n
    go (inl same) remainder =
        let none : sum_by (λ code. cond (is_code code k) n 0) cs ≡ 0 =
        unweighed c k n cs same (IsDistinct-head (eq_by_cmp (slice_cmp nat_cmp)) c cs distinct) in
        let whole : sum_by (λ code. cond (is_code code k) n 0) (c ∷ cs) ≡ n + sum_by (λ code. cond (is_code code k) n 0) cs =
        sum_by-cons (λ code. cond (is_code code k) n 0) c cs ∙ ap (λ (b : Bool). cond b n 0 + sum_by (λ code. cond (is_code code k) n 0) cs) same in
        omega arith
    go (inr other) remainder =
        let whole : sum_by (λ code. cond (is_code code k) n 0) (c ∷ cs) ≡ 0 + sum_by (λ code. cond (is_code code k) n 0) cs =
        sum_by-cons (λ code. cond (is_code code k) n 0) c cs ∙ ap (λ (b : Bool). cond b n 0 + sum_by (λ code. cond (is_code code k) n 0) cs) other in
        omega arith

count_first : (o : List ℕ × ℕ) (os : List (List ℕ × ℕ)) (code : List ℕ) → count_of (o ∷ os) code ≤ cond (is_code code o.0) o.1 0 + count_of os code
count_first o os code = go (is_code code o.0)
  where
    go : (b : Bool) → unwrap_or (cond b (Some o.1) (lookup (is_code code) os)) 0 ≤ cond b o.1 0 + count_of os code
    go true = omega arith
    go false = omega arith

counts_first : (o : List ℕ × ℕ) (os : List (List ℕ × ℕ)) (codes : List (List ℕ))
    → sum_by (count_of (o ∷ os)) codes ≤ sum_by (λ code. cond (is_code code o.0) o.1 0) codes + sum_by (count_of os) codes
counts_first o os [] = omega arith
counts_first o os (c ∷ cs) =
    let a : sum_by (count_of (o ∷ os)) (c ∷ cs) ≡ count_of (o ∷ os) c + sum_by (count_of (o ∷ os)) cs = sum_by-cons (count_of (o ∷ os)) c cs in
    let b : sum_by (λ code. cond (is_code code o.0) o.1 0) (c ∷ cs) ≡ cond (is_code c o.0) o.1 0 + sum_by (λ code. cond (is_code code o.0) o.1 0) cs =
    sum_by-cons (λ code. cond (is_code code o.0) o.1 0) c cs in
    let d : sum_by (count_of os) (c ∷ cs) ≡ count_of os c + sum_by (count_of os) cs = sum_by-cons (count_of os) c cs in
    let first : count_of (o ∷ os) c ≤ cond (is_code c o.0) o.1 0 + count_of os c = count_first o os c in
    let remainder : sum_by (count_of (o ∷ os)) cs ≤ sum_by (λ code. cond (is_code code o.0) o.1 0) cs + sum_by (count_of os) cs = counts_first o os cs in
    omega arith

counted_once : (codes : List (List ℕ)) (objects : List (List ℕ × ℕ)) → IsDistinct (eq_by_cmp (slice_cmp nat_cmp)) codes
    → sum_by (count_of objects) codes ≤ sum (values_of objects)
counted_once codes [] distinct = omega (arith, zeros codes)
counted_once codes (o ∷ os) distinct =
    le_sums (counts_first o os codes) (weighed o.0 o.1 codes distinct) (counted_once codes os distinct) (sum_by-cons (λ (n : ℕ). n) o.1 (values_of os))
  where
    le_sums : {x y z n s t : ℕ} → x ≤ y + z → y ≤ n → z ≤ s → t ≡ n + s → x ≤ t
    le_sums a b c e = omega arith

objects_counted : (codes : List (List ℕ)) (finding : Finding) → IsDistinct (eq_by_cmp (slice_cmp nat_cmp)) codes
    → sum_by (λ code. count_in code finding) codes ≤ objects_in finding
objects_counted codes (Settled t objects good) distinct = counted_once codes objects distinct
objects_counted codes Unsettled distinct = omega (arith, zeros codes)

totals_first : (s : Survey) (surveys : List Survey) (codes : List (List ℕ))
    → sum_by (total (s ∷ surveys)) codes ≡ sum_by (λ code. count_in code s.finding) codes + sum_by (total surveys) codes
totals_first s surveys [] = refl
totals_first s surveys (c ∷ cs) =
    let a : sum_by (total (s ∷ surveys)) (c ∷ cs) ≡ total (s ∷ surveys) c + sum_by (total (s ∷ surveys)) cs = sum_by-cons (total (s ∷ surveys)) c cs in
    let b : sum_by (λ code. count_in code s.finding) (c ∷ cs) ≡ count_in c s.finding + sum_by (λ code. count_in code s.finding) cs =
    sum_by-cons (λ code. count_in code s.finding) c cs in
    let d : sum_by (total surveys) (c ∷ cs) ≡ total surveys c + sum_by (total surveys) cs = sum_by-cons (total surveys) c cs in
    let first : total (s ∷ surveys) c ≡ count_in c s.finding + total surveys c = sum_by-cons (λ t. count_in c t.finding) s surveys in
    let remainder : sum_by (total (s ∷ surveys)) cs ≡ sum_by (λ code. count_in code s.finding) cs + sum_by (total surveys) cs = totals_first s surveys cs in
    omega arith

totals_counted : (codes : List (List ℕ)) (surveys : List Survey) → IsDistinct (eq_by_cmp (slice_cmp nat_cmp)) codes
    → sum_by (total surveys) codes ≤ sum_by (λ s. objects_in s.finding) surveys
totals_counted codes [] distinct = omega (arith, zeros codes)
totals_counted codes (s ∷ ss) distinct =
    le_sums (totals_first s ss codes) (objects_counted codes s.finding distinct) (totals_counted codes ss distinct) (sum_by-cons (λ t. objects_in t.finding) s ss)
  where
    le_sums : {x y z n r t : ℕ} → x ≡ y + z → y ≤ n → z ≤ r → t ≡ n + r → x ≤ t
    le_sums a b c e = omega arith

pub rows_summed : (surveys : List Survey) (rows : List Row) → All (IsRowOf surveys) rows → sum_by (λ row. row.total) rows ≡ sum_by (total surveys) (codes_of rows)
rows_summed surveys [] each = refl
rows_summed surveys (row ∷ rows) each =
    let first : IsRowOf surveys row = All-head (IsRowOf surveys) row rows each in
    sum_by-cons (λ (r : Row). r.total) row rows
    ∙ (λ i. first.total_is i + rows_summed surveys rows (All-tail (IsRowOf surveys) row rows each) i)
    ∙ sym (sum_by-cons (total surveys) row.code (codes_of rows))

-- if each survey has fewer than 2^64 objects, the totals of all rows add up to at most 2^64 - 1 per survey
pub sum_within : (surveys : List Survey) (rows : List Row) → AreRowsOf surveys rows → All (λ s. objects_in s.finding < 2 ^ 64) surveys
    → sum_by (λ row. row.total) rows ≤ length surveys * (2 ^ 64 - 1)
sum_within surveys rows are few =
    let distinct : IsDistinct (eq_by_cmp (slice_cmp nat_cmp)) (codes_of rows) = IsDistinct-from_sorted (slice_cmp nat_cmp) (codes_of rows) are.in_order in
    let same : sum_by (λ row. row.total) rows ≡ sum_by (total surveys) (codes_of rows) = rows_summed surveys rows are.each in
    let counted : sum_by (total surveys) (codes_of rows) ≤ sum_by (λ s. objects_in s.finding) surveys = totals_counted (codes_of rows) surveys distinct in
    let most : sum_by (λ s. objects_in s.finding) surveys ≤ length surveys * (2 ^ 64 - 1) =
    sum_by-le (λ s. objects_in s.finding) (2 ^ 64 - 1) surveys
    (All-weaker (λ s. objects_in s.finding < 2 ^ 64) (λ s. objects_in s.finding ≤ 2 ^ 64 - 1) (λ s low. omega arith) surveys few) in
    omega (arith, same, counted, most)

pub sum_small : (surveys : List Survey) (rows : List Row) → AreRowsOf surveys rows → All (λ s. objects_in s.finding < 2 ^ 64) surveys
    → length surveys + 1 ≤ 2 ^ 64
    → sum_by (λ row. row.total) rows < 2 ^ 128
sum_small surveys rows are few short = let most = sum_within surveys rows are few in omega (arith, most)
