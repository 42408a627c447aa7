-- How the rows of a census are made from the scores.
use Rattle.std.proofs.Common.{◌≡◌, ◌∙◌, ◌+◌, ◌<◌, ◌≤◌, ℕ, zero, suc, Bool, true, false, cond, nat_eq, List, [], ◌∷◌}
use Rattle.std.proofs.Common.{Option, None, Some, ap, sym, subst, refl, arith, inl, inr}
use Rattle.std.proofs.Common.{◌⊎◌, map, take, length, get_or, is_some}
use Rattle.std.specs.BTreeMap.{BTreeMap, IsOrdered}
use Rattle.std.specs.Cmp.{eq_by_cmp_equiv}
use Rattle.std.specs.Cmp.Lexicographic.{nat_list_cmp_total, nat_list_eq_equiv, pointwise, slice_cmp}
use Rattle.std.specs.List.{All, IsDistinct, list_any, slice_get}
use Rattle.std.specs.List.Sorted.{IsStrictlySortedBy}
use Rattle.std.specs.Map.{keys_of, lookup}
use Rattle.std.specs.Option.{option_or}
use Rattle.std.specs.Ordering.{nat_cmp}
use Rattle.std.proofs.lemmas.Bool.{cases_Bool, false≢true, le-ltb, lt-ltb}
use Rattle.std.proofs.lemmas.List.{get_or-map, get_or-take, get_or_default, length-map, length-take-le, take_more}
use Rattle.std.proofs.lemmas.List.Elements.{All-map}
use Rattle.std.proofs.lemmas.Map.Keys.{apart_from_distinct}
use Rattle.std.proofs.lemmas.Map.Made.{is_some-lookup}
use Rattle.std.proofs.lemmas.Map.Views.{All-found}
use Rattle.survey_core.specs.shapes.Objects.{is_code}
use Rattle.haul_core.specs.declared.book.census_rows.Row.{Row}
use Rattle.haul_core.specs.declared.book.scores.Score.{Score}
use Rattle.haul_core.specs.RowSteps.{AreRowsFrom, row_from, with_objects}
use Rattle.haul_core.specs.Rows.{AreInOrder, codes_of}
use Rattle.haul_core.specs.Scores.{found_score}
use Rattle.haul_core.proofs.ScoreLemmas.{code_apart, code_itself, code_same, is_code-same, lookup_append, lookup_none, or_none}

-- ---- the scores with objects, one after another

-- the code of a row differs from the codes of the rows before it
pub row_before : (rows : List (List ℕ × Score)) (i : ℕ) (d : List ℕ × Score) → IsDistinct (pointwise nat_eq) (keys_of rows) → i < length rows
    → found_score (take i rows) (get_or rows i d).0 ≡ None
row_before rows i d distinct low =
    lookup_none (pointwise nat_eq (get_or rows i d).0) (take i rows) (λ k e lower.
    let long : k < i = omega (arith, length-take-le i rows (omega arith)) in
    let keys : length (keys_of rows) ≡ length rows = length-map rows (λ o. o.0) in
    let apart = apart_from_distinct (pointwise nat_eq) (keys_of rows) k i d.0 distinct long (omega arith) in
    let at_k : get_or (keys_of rows) k d.0 ≡ (get_or (take i rows) k e).0 =
    get_or-map (λ o. o.0) rows k d d.0 (omega arith) ∙ ap (λ (o : List ℕ × Score). o.0) (get_or_default rows k d e (omega arith)
    ∙ sym (get_or-take i rows k e long)) in
    let at_i : get_or (keys_of rows) i d.0 ≡ (get_or rows i d).0 = get_or-map (λ o. o.0) rows i d d.0 low in
    nat_list_eq_equiv.symm (get_or rows i d).0 (get_or (take i rows) k e).0
    ∙ sym (λ j. pointwise nat_eq (at_k j) (at_i j)) ∙ apart)

pub got : {X : Type 0} (xs : List X) (i : ℕ) (x d : X) → slice_get xs i ≡ Some x → get_or xs i d ≡ x
got [] i x d h = let bad : None ≡ Some x = h in absurd (cc)
got (y ∷ ys) zero x d h = cc
got (y ∷ ys) (suc i) x d h = got ys i x d h

with_some : (score : Score) → 0 < score.total → with_objects (Some score) ≡ Some score
with_some score h = ap (λ (b : Bool). cond b (Some score) None) (lt-ltb 0 score.total h)

with_none : (score : Score) → score.total ≤ 0 → with_objects (Some score) ≡ None
with_none score h = ap (λ (b : Bool). cond b (Some score) None) (le-ltb 0 score.total h)

pub kept_more : (rows : List (List ℕ × Score)) (kept newer : List (List ℕ × Score)) (i : ℕ) (d : List ℕ × Score)
    → IsDistinct (pointwise nat_eq) (keys_of rows) → i < length rows
    → ((code : List ℕ) → lookup (is_code code) kept ≡ with_objects (found_score (take i rows) code))
    → ((code : List ℕ) → lookup (is_code code) newer ≡ cond (is_code (get_or rows i d).0 code) (with_objects (Some (get_or rows i d).1)) (lookup (is_code code) kept))
    → (code : List ℕ) → lookup (is_code code) newer ≡ with_objects (found_score (take (i + 1) rows) code)
kept_more rows kept newer i d distinct low before new code = go (cases_Bool (is_code e.0 code))
  where
    e : List ℕ × Score
    e = get_or rows i d

    found : (code : List ℕ) → found_score (take (i + 1) rows) code ≡ option_or (found_score (take i rows) code) (cond (pointwise nat_eq code e.0) (Some e.1) None)
    found code = ap (λ (rs : List (List ℕ × Score)). found_score rs code) (take_more rows i d low) ∙ lookup_append (pointwise nat_eq code) (take i rows) (e ∷ [])

    go : (is_code e.0 code ≡ true) ⊎ (is_code e.0 code ≡ false) → lookup (is_code code) newer ≡ with_objects (found_score (take (i + 1) rows) code)
    go (inl same) =
        let is : e.0 ≡ code = code_same e.0 code (sym (is_code-same e.0 code) ∙ same) in
        let hit : found_score (take (i + 1) rows) code ≡ Some e.1 =
        found code ∙ ap (λ (o : Option Score). option_or o (cond (pointwise nat_eq code e.0) (Some e.1) None))
        (subst (λ (c : List ℕ). found_score (take i rows) c ≡ None) is (row_before rows i d distinct low))
        ∙ ap (λ (b : Bool). cond b (Some e.1) None) (subst (λ (c : List ℕ). pointwise nat_eq c e.0 ≡ true) is (code_itself e.0)) in
        new code ∙ ap (λ (b : Bool). cond b (with_objects (Some e.1)) (lookup (is_code code) kept)) same ∙ ap with_objects (sym hit)
    go (inr other) =
        let apart : pointwise nat_eq code e.0 ≡ false = code_apart code e.0 (λ is. false≢true (sym other
        ∙ subst (λ (c : List ℕ). is_code e.0 c ≡ true) (sym is) ((eq_by_cmp_equiv nat_list_cmp_total).refl e.0))) in
        let miss : found_score (take (i + 1) rows) code ≡ found_score (take i rows) code =
        found code ∙ ap (λ (b : Bool). option_or (found_score (take i rows) code) (cond b (Some e.1) None)) apart ∙ or_none (found_score (take i rows) code) in
        new code ∙ ap (λ (b : Bool). cond b (with_objects (Some e.1)) (lookup (is_code code) kept)) other ∙ before code ∙ ap with_objects (sym miss)

-- if the next score's total isn't 0 and the score is inserted, the map has those of the first `i + 1` scores whose
-- totals aren't 0
pub kept_inserted : (rows kept newer : List (List ℕ × Score)) (i : ℕ) (code : List ℕ) (score put : Score)
    → IsDistinct (pointwise nat_eq) (keys_of rows) → i < length rows
    → slice_get rows i ≡ Some (code, score) → 0 < score.total → put ≡ score
    → ((q : List ℕ) → lookup (is_code q) newer ≡ cond (is_code code q) (Some put) (lookup (is_code q) kept))
    → ((q : List ℕ) → lookup (is_code q) kept ≡ with_objects (found_score (take i rows) q))
    → (q : List ℕ) → lookup (is_code q) newer ≡ with_objects (found_score (take (i + 1) rows) q)
kept_inserted rows kept newer i code score put distinct low at some same new before =
    let e : get_or rows i (code, score) ≡ (code, score) = got rows i (code, score) (code, score) at in
    kept_more rows kept newer i (code, score) distinct low before
    (subst (λ (o : List ℕ × Score). (q : List ℕ)
    → lookup (is_code q) newer ≡ cond (is_code o.0 q) (with_objects (Some o.1)) (lookup (is_code q) kept)) (sym e)
    (λ q. new q ∙ ap (λ (o : Option Score). cond (is_code code q) o (lookup (is_code q) kept)) (ap Some same ∙ sym (with_some score some))))

-- if the next score's total is 0 and the score is left out, the map has those of the first `i + 1` scores whose
-- totals aren't 0
pub kept_skipped : (rows kept : List (List ℕ × Score)) (i : ℕ) (code : List ℕ) (score : Score) → IsDistinct (pointwise nat_eq) (keys_of rows)
    → i < length rows
    → slice_get rows i ≡ Some (code, score) → score.total ≤ 0 → ((q : List ℕ) → lookup (is_code q) kept ≡ with_objects (found_score (take i rows) q))
    → (q : List ℕ) → lookup (is_code q) kept ≡ with_objects (found_score (take (i + 1) rows) q)
kept_skipped rows kept i code score distinct low at none before =
    let e : get_or rows i (code, score) ≡ (code, score) = got rows i (code, score) (code, score) at in
    let absent : found_score (take i rows) code ≡ None =
    subst (λ (o : List ℕ × Score). found_score (take i rows) o.0 ≡ None) e (row_before rows i (code, score) distinct low) in
    kept_more rows kept kept i (code, score) distinct low before
    (subst (λ (o : List ℕ × Score). (q : List ℕ) → lookup (is_code q) kept ≡ cond (is_code o.0 q) (with_objects (Some o.1)) (lookup (is_code q) kept)) (sym e)
    (λ q. go q (cases_Bool (is_code code q)) absent))
  where
    go : (q : List ℕ) → (is_code code q ≡ true) ⊎ (is_code code q ≡ false) → found_score (take i rows) code ≡ None
        → lookup (is_code q) kept ≡ cond (is_code code q) (with_objects (Some score)) (lookup (is_code q) kept)
    go q (inl same) absent =
        let is : code ≡ q = code_same code q (sym (is_code-same code q) ∙ same) in
        before q ∙ ap with_objects (subst (λ (c : List ℕ). found_score (take i rows) c ≡ None) is absent) ∙ sym (with_none score none)
        ∙ sym (ap (λ (b : Bool). cond b (with_objects (Some score)) (lookup (is_code q) kept)) same)
    go q (inr other) absent = sym (ap (λ (b : Bool). cond b (with_objects (Some score)) (lookup (is_code q) kept)) other)

-- ---- the rows

codes_from : (entries : List (List ℕ × Score)) → codes_of (map (λ entry. row_from entry.0 entry.1) entries) ≡ keys_of entries
codes_from [] = refl
codes_from (e ∷ es) = ap (λ (cs : List (List ℕ)). e.0 ∷ cs) (codes_from es)

pub in_order_from : (kept : BTreeMap (List ℕ) Score) (rows : List Row) → IsOrdered (slice_cmp nat_cmp) kept
    → rows ≡ map (λ entry. row_from entry.0 entry.1) kept.entries → AreInOrder rows
in_order_from kept rows ordered is = subst (IsStrictlySortedBy (slice_cmp nat_cmp)) (sym (ap codes_of is ∙ codes_from kept.entries)) ordered

pub rows_from : (scores : List (List ℕ × Score)) (kept : BTreeMap (List ℕ) Score) (rows : List Row) → IsOrdered (slice_cmp nat_cmp) kept
    → rows ≡ map (λ entry. row_from entry.0 entry.1) kept.entries → ((q : List ℕ) → lookup (is_code q) kept.entries ≡ with_objects (found_score scores q))
    → AreRowsFrom scores rows
rows_from scores kept rows ordered is found = record {
  in_order = in_order_from kept rows ordered is;
  each = subst (All (λ row. with_objects (found_score scores row.code) ≡ Some (record { total = row.total; samples = row.samples }))) (sym is)
      (All-map (λ row. with_objects (found_score scores row.code) ≡ Some (record {
        total = row.total;
        samples =
            row.samples;
      })) (λ entry. row_from entry.0 entry.1) kept.entries
      (λ k d low. sym (found (get_or kept.entries k d).0) ∙ All-found nat_list_cmp_total kept ordered k d low));
  whole = λ code some. subst (λ (cs : List (List ℕ)). list_any (is_code code) cs ≡ true) (sym (ap codes_of is ∙ codes_from kept.entries))
      (sym (is_some-lookup (is_code code) kept.entries) ∙ ap is_some (found code) ∙ some);
}
