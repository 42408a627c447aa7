-- How the scores of codes are found and changed. Adding blank scores doesn't change the score of any code.
use Rattle.std.proofs.Common.{◌≡◌, ◌≢◌, ◌∙◌, ◌+◌, ◌<◌, ℕ, zero, suc, Bool, true, false, cond, List, [], ◌∷◌, ◌++◌, Option, None}
use Rattle.std.proofs.Common.{Some, IsSome, ap, sym, subst, refl, arith, inl, inr, length}
use Rattle.std.proofs.Common.{take, get_or, nat_eq, unwrap_or, is_some, ◌⊎◌, Result, Ok, Err, is_ok}
use Rattle.std.specs.Result.{OnOk}
use Rattle.std.specs.Cmp.{Equal-is, both_ways, eq_by_cmp_equiv}
use Rattle.std.specs.Cmp.Lexicographic.{bytes_decides, nat_list_cmp_total, pointwise, slice_cmp}
use Rattle.std.specs.Ordering.{is_eq, nat_cmp}
use Rattle.std.specs.List.{All, position}
use Rattle.std.specs.Map.{keys_of, lookup}
use Rattle.std.specs.Option.{option_or}
use Rattle.std.proofs.lemmas.Bool.{cases_Bool, false≢true, false_from_ne_true}
use Rattle.std.proofs.lemmas.List.{append-nil, append_assoc, get_or-map, get_or-take, get_or_default, length-map, length-take-le, take_more}
use Rattle.std.proofs.lemmas.List.Quantifiers.{position-Some}
use Rattle.std.proofs.lemmas.List.Elements.{All-append, All-cons, All-head, All-more, All-nil, All-tail, All-weaker}
use Rattle.std.proofs.lemmas.Map.Keys.{Less-from_sorted}
use Rattle.std.proofs.lemmas.Map.Lookups.{exact_bytes}
use Rattle.indexmap.specs.IndexMap.{set_value_at}
use Rattle.survey_core.specs.shapes.Objects.{AreObjects, is_code}
use Rattle.haul_core.specs.declared.book.scores.Score.{Score}
use Rattle.haul_core.specs.Scores.{Extends, HasScore, added, no_score, found_score, score_in}

-- ---- equal codes pass the test `pointwise nat_eq`, and no others do

pub code_same : (a b : List ℕ) → pointwise nat_eq a b ≡ true → a ≡ b
code_same a b h = (bytes_decides a b).0 h

pub code_itself : (a : List ℕ) → pointwise nat_eq a a ≡ true
code_itself a = (bytes_decides a a).1 refl

pub code_apart : (a b : List ℕ) → (a ≡ b → ⊥) → pointwise nat_eq a b ≡ false
code_apart a b h = false_from_ne_true (pointwise nat_eq a b) (λ e. h (code_same a b e))

-- ---- a score is written at its place

pub pair_written : {X : Type 0} (scores : List (List ℕ × X)) (i : ℕ) (w : X) (code : List ℕ) → i < length (keys_of scores)
    → pointwise nat_eq code (get_or (keys_of scores) i []) ≡ true → ((k : ℕ) → k < i → pointwise nat_eq code (get_or (keys_of scores) k []) ≡ false)
    → (q : List ℕ) → lookup (pointwise nat_eq q) (set_value_at scores i w) ≡ cond (pointwise nat_eq code q) (Some w) (lookup (pointwise nat_eq q) scores)
pair_written [] i w code low hit before q = absurd (omega arith)
pair_written {X} (e ∷ scores) zero w code low hit before q = go (cases_Bool (pointwise nat_eq q e.0))
  where
    go : (pointwise nat_eq q e.0 ≡ true) ⊎ (pointwise nat_eq q e.0 ≡ false)
        → cond (pointwise nat_eq q e.0) (Some w) (lookup (pointwise nat_eq q) scores)
        ≡ cond (pointwise nat_eq code q) (Some w) (cond (pointwise nat_eq q e.0) (Some e.1) (lookup (pointwise nat_eq q) scores))
    go (inl same) =
        let own : pointwise nat_eq code q ≡ true = subst (λ (k : List ℕ). pointwise nat_eq code k ≡ true) (sym (code_same q e.0 same)) hit in
        ap (λ (b : Bool). cond b (Some w) (lookup (pointwise nat_eq q) scores)) same
        ∙ sym (ap (λ (b : Bool). cond b (Some w) (cond (pointwise nat_eq q e.0) (Some e.1) (lookup (pointwise nat_eq q) scores))) own)
    go (inr other) =
        let apart : pointwise nat_eq code q ≡ false = code_apart code q (λ same. false≢true (sym other
        ∙ subst (λ (k : List ℕ). pointwise nat_eq k e.0 ≡ true) same hit)) in
        ap (λ (b : Bool). cond b (Some w) (lookup (pointwise nat_eq q) scores)) other
        ∙ sym (ap (λ (b : Bool). cond b (Some w) (cond (pointwise nat_eq q e.0) (Some e.1) (lookup (pointwise nat_eq q) scores))) apart
        ∙ ap (λ (b : Bool). cond b (Some e.1) (lookup (pointwise nat_eq q) scores)) other)
pair_written {X} (e ∷ scores) (suc i) w code low hit before q =
    go (cases_Bool (pointwise nat_eq q e.0)) (pair_written scores i w code (omega arith) hit (λ k lower. before (suc k) (omega arith)) q)
  where
    go : (pointwise nat_eq q e.0 ≡ true) ⊎ (pointwise nat_eq q e.0 ≡ false)
        → lookup (pointwise nat_eq q) (set_value_at scores i w) ≡ cond (pointwise nat_eq code q) (Some w) (lookup (pointwise nat_eq q) scores)
        → cond (pointwise nat_eq q e.0) (Some e.1) (lookup (pointwise nat_eq q) (set_value_at scores i w))
        ≡ cond (pointwise nat_eq code q) (Some w) (cond (pointwise nat_eq q e.0) (Some e.1) (lookup (pointwise nat_eq q) scores))
    go (inl same) remainder =
        let first : pointwise nat_eq code e.0 ≡ false = before 0 (omega arith) in
        let apart : pointwise nat_eq code q ≡ false = subst (λ (k : List ℕ). pointwise nat_eq code k ≡ false) (sym (code_same q e.0 same)) first in
        ap (λ (b : Bool). cond b (Some e.1) (lookup (pointwise nat_eq q) (set_value_at scores i w))) same
        ∙ sym (ap (λ (b : Bool). cond b (Some w) (cond (pointwise nat_eq q e.0) (Some e.1) (lookup (pointwise nat_eq q) scores))) apart
        ∙ ap (λ (b : Bool). cond b (Some e.1) (lookup (pointwise nat_eq q) scores)) same)
    go (inr other) remainder =
        ap (λ (b : Bool). cond b (Some e.1) (lookup (pointwise nat_eq q) (set_value_at scores i w))) other ∙ remainder
        ∙ ap (λ (o : Option X). cond (pointwise nat_eq code q) (Some w) o) (sym (ap (λ (b : Bool). cond b (Some e.1) (lookup (pointwise nat_eq q) scores)) other))

-- ---- blank scores

pub lookup_append : {X : Type 0} (test : List ℕ → Bool) (xs ys : List (List ℕ × X)) → lookup test (xs ++ ys) ≡ option_or (lookup test xs) (lookup test ys)
lookup_append test [] ys = refl
lookup_append {X} test (x ∷ xs) ys = go (test x.0) (lookup_append test xs ys)
  where
    go : (b : Bool) → lookup test (xs ++ ys) ≡ option_or (lookup test xs) (lookup test ys)
        → cond b (Some x.1) (lookup test (xs ++ ys)) ≡ option_or (cond b (Some x.1) (lookup test xs)) (lookup test ys)
    go true e = refl
    go false e = e

blank_score : (more : List (List ℕ × Score)) (code : List ℕ) → All (λ score. score.1 ≡ no_score) more → score_in more code ≡ no_score
blank_score [] code blank = refl
blank_score (score ∷ more) code blank =
    go (pointwise nat_eq code score.0) (All-head (λ r. r.1 ≡ no_score) score more blank) (blank_score more code (All-tail (λ r. r.1 ≡ no_score) score more blank))
  where
    go : (b : Bool) → score.1 ≡ no_score → score_in more code ≡ no_score
        → unwrap_or (cond b (Some score.1) (lookup (pointwise nat_eq code) more)) no_score ≡ no_score
    go true first remainder = first
    go false first remainder = remainder

-- adding blank scores changes no score
pub score-Extends : (old new : List (List ℕ × Score)) → Extends old new → (code : List ℕ) → score_in new code ≡ score_in old code
score-Extends old new x code =
    ap (λ (scores : List (List ℕ × Score)). score_in scores code) x.is
    ∙ ap (λ (o : Option Score). unwrap_or o no_score) (lookup_append (pointwise nat_eq code) old x.more) ∙ go (found_score old code)
  where
    go : (o : Option Score) → unwrap_or (option_or o (found_score x.more code)) no_score ≡ unwrap_or o no_score
    go None = blank_score x.more code x.blank
    go (Some score) = refl

pub HasScore-Extends : (old new : List (List ℕ × Score)) → Extends old new → (code : List ℕ) → HasScore old code → HasScore new code
HasScore-Extends old new x code h =
    subst (λ (o : Option Score). IsSome o) (sym (ap (λ (scores : List (List ℕ × Score)). found_score scores code) x.is
    ∙ lookup_append (pointwise nat_eq code) old x.more))
    (go (found_score old code) h)
  where
    go : (o : Option Score) → IsSome o → IsSome (option_or o (found_score x.more code))
    go None is = absurd (false≢true is)
    go (Some score) is = refl

pub Extends-then : (a b c : List (List ℕ × Score)) → Extends a b → Extends b c → Extends a c
Extends-then a b c x y = record {
  more = x.more ++ y.more;
  is = y.is ∙ ap (λ (scores : List (List ℕ × Score)). scores ++ y.more) x.is ∙ append_assoc a x.more y.more;
  blank = All-append (λ score. score.1 ≡ no_score) x.more y.more x.blank y.blank;
}

-- a list of scores extends itself
pub Extends-none : (scores : List (List ℕ × Score)) → Extends scores scores
Extends-none scores = record { more = []; is = sym (append-nil scores); blank = All-nil (λ score. score.1 ≡ no_score) }

pub Extends-one : (old new : List (List ℕ × Score)) (code : List ℕ) (score : Score) → new ≡ old ++ (code, score) ∷ [] → score ≡ no_score → Extends old new
Extends-one old new code score e nothing = record {
  more = (code, score) ∷ [];
  is = e;
  blank = All-cons (λ score. score.1 ≡ no_score) (code, score) [] nothing (All-nil (λ score. score.1 ≡ no_score));
}

pub scores_more : (old new : List (List ℕ × Score)) (objects : List (List ℕ × ℕ)) (i : ℕ) (d : List ℕ × ℕ) → Extends old new → i < length objects
    → All (λ object. HasScore old object.0) (take i objects) → HasScore new (get_or objects i d).0 → All (λ object. HasScore new object.0) (take (i + 1) objects)
scores_more old new objects i d x low before here =
    All-more (λ object. HasScore new object.0) objects i d low
    (All-weaker (λ object. HasScore old object.0) (λ object. HasScore new object.0) (λ object h. HasScore-Extends old new x object.0 h) (take i objects) before) here

-- ---- the objects with one code are added

pub score_written : (scores : List (List ℕ × Score)) (i count number : ℕ) (before score : Score) (code : List ℕ)
    → position (pointwise nat_eq code) (keys_of scores) ≡ Some i → found_score scores code ≡ Some before → score ≡ added (Some count) number before
    → (q : List ℕ) → found_score (set_value_at scores i score) q ≡ cond (pointwise nat_eq code q) (Some (added (Some count) number (score_in scores code))) (found_score scores q)
score_written scores i count number before score code at is e q =
    let p = position-Some (pointwise nat_eq code) (keys_of scores) i [] at in
    let own : score_in scores code ≡ before = ap (λ (o : Option Score). unwrap_or o no_score) is in
    pair_written scores i score code p.0 p.1 p.2 q
    ∙ ap (λ (t : Score). cond (pointwise nat_eq code q) (Some t) (found_score scores q)) (e ∙ ap (added (Some count) number) (sym own))

module _ (old new : List (List ℕ × Score)) (code : List ℕ) (score : Score)
    (written : (q : List ℕ) → found_score new q ≡ cond (pointwise nat_eq code q) (Some score) (found_score old q)) where
  pub at_code : score_in new code ≡ score
  at_code = ap (λ (o : Option Score). unwrap_or o no_score) (written code ∙ ap (λ (b : Bool). cond b (Some score) (found_score old code)) (code_itself code))

  pub at_others : (other : List ℕ) → other ≢ code → score_in new other ≡ score_in old other
  at_others other h =
      ap (λ (o : Option Score). unwrap_or o no_score)
      (written other ∙ ap (λ (b : Bool). cond b (Some score) (found_score old other)) (code_apart code other (λ e. h (sym e))))

  pub scores_stay : (other : List ℕ) → HasScore old other → HasScore new other
  scores_stay other h = subst (λ (o : Option Score). IsSome o) (sym (written other)) (go (pointwise nat_eq code other))
    where
      go : (b : Bool) → IsSome (cond b (Some score) (found_score old other))
      go true = refl
      go false = h

pub none_from : {X : Type 0} (o : Option X) → is_some o ≡ false → o ≡ None
none_from None h = refl
none_from (Some x) h = absurd (false≢true (sym h))

-- ---- objects whose codes ascend

pub is_code-same : (a b : List ℕ) → is_code a b ≡ pointwise nat_eq a b
is_code-same a b = both_ways (is_code a b) (pointwise nat_eq a b)
    (λ e. (bytes_decides a b).1 (exact_bytes a b ((Equal-is (slice_cmp nat_cmp a b)).0 e)))
    (λ e. subst (λ (c : List ℕ). is_code a c ≡ true) (code_same a b e) ((eq_by_cmp_equiv nat_list_cmp_total).refl a))

pub lookup_none : {X : Type 0} (test : List ℕ → Bool) (xs : List (List ℕ × X)) → All (λ x. test x.0 ≡ false) xs → lookup test xs ≡ None
lookup_none test [] h = refl
lookup_none {X} test (x ∷ xs) h =
    ap (λ (b : Bool). cond b (Some x.1) (lookup test xs)) (All-head (λ e. test e.0 ≡ false) x xs h)
    ∙ lookup_none test xs (All-tail (λ e. test e.0 ≡ false) x xs h)

-- the code of an object differs from the codes of the objects before it
pub not_before : (objects : List (List ℕ × ℕ)) (i : ℕ) (d : List ℕ × ℕ) → AreObjects objects → i < length objects
    → lookup (is_code (get_or objects i d).0) (take i objects) ≡ None
not_before objects i d lawful low =
    lookup_none (is_code (get_or objects i d).0) (take i objects) (λ k e lower.
    let long : k < i = omega (arith, length-take-le i objects (omega arith)) in
    let keys : length (keys_of objects) ≡ length objects = length-map objects (λ o. o.0) in
    let apart : is_eq (slice_cmp nat_cmp (get_or (keys_of objects) k d.0) (get_or (keys_of objects) i d.0)) ≡ false =
    ap is_eq (Less-from_sorted (slice_cmp nat_cmp) (keys_of objects) k i d.0 lawful.in_order long (omega arith)) in
    let at_k : get_or (keys_of objects) k d.0 ≡ (get_or (take i objects) k e).0 =
    get_or-map (λ o. o.0) objects k d d.0 (omega arith) ∙ ap (λ (o : List ℕ × ℕ). o.0) (get_or_default objects k d e (omega arith)
    ∙ sym (get_or-take i objects k e long)) in
    let at_i : get_or (keys_of objects) i d.0 ≡ (get_or objects i d).0 = get_or-map (λ o. o.0) objects i d d.0 low in
    (eq_by_cmp_equiv nat_list_cmp_total).symm (get_or objects i d).0 (get_or (take i objects) k e).0
    ∙ sym (λ j. is_code (at_k j) (at_i j)) ∙ apart)

pub record Adding (old new : List (List ℕ × Score)) (objects : List (List ℕ × ℕ)) (number i : ℕ) : Type 0 where
  pub scores : (code : List ℕ) → score_in new code ≡ added (lookup (is_code code) (take i objects)) number (score_in old code)
  pub stay : (code : List ℕ) → HasScore old code → HasScore new code

pub adding_next : (old new : List (List ℕ × Score)) (objects : List (List ℕ × ℕ)) (number i : ℕ) (d : List ℕ × ℕ) → AreObjects objects → i < length objects
    → Adding old new objects number i → score_in new (get_or objects i d).0 ≡ score_in old (get_or objects i d).0
adding_next old new objects number i d lawful low a =
    let code : List ℕ = (get_or objects i d).0 in
    a.scores code ∙ ap (λ (o : Option ℕ). added o number (score_in old code)) (not_before objects i d lawful low)

pub or_none : {X : Type 0} (o : Option X) → option_or o None ≡ o
or_none None = refl
or_none (Some x) = refl

pub adding_more : (old new newer : List (List ℕ × Score)) (objects : List (List ℕ × ℕ)) (number i : ℕ) (d : List ℕ × ℕ) → AreObjects objects
    → i < length objects
    → Adding old new objects number i
    → score_in newer (get_or objects i d).0 ≡ added (Some (get_or objects i d).1) number (score_in new (get_or objects i d).0)
    → ((other : List ℕ) → other ≢ (get_or objects i d).0 → score_in newer other ≡ score_in new other)
    → ((other : List ℕ) → HasScore new other → HasScore newer other) → Adding old newer objects number (i + 1)
adding_more old new newer objects number i d lawful low a here others stays = record {
  scores = λ code. go code (cases_Bool (is_code code o.0));
  stay = λ code h. stays code (a.stay code h);
}
  where
    o : List ℕ × ℕ
    o = get_or objects i d

    found : (code : List ℕ) → lookup (is_code code) (take (i + 1) objects) ≡ option_or (lookup (is_code code) (take i objects)) (cond (is_code code o.0) (Some o.1) None)
    found code = ap (lookup (is_code code)) (take_more objects i d low) ∙ lookup_append (is_code code) (take i objects) (o ∷ [])

    go : (code : List ℕ) → (is_code code o.0 ≡ true) ⊎ (is_code code o.0 ≡ false)
        → score_in newer code ≡ added (lookup (is_code code) (take (i + 1) objects)) number (score_in old code)
    go code (inl same) =
        let is : code ≡ o.0 = code_same code o.0 (sym (is_code-same code o.0) ∙ same) in
        let hit : lookup (is_code o.0) (take (i + 1) objects) ≡ Some o.1 =
        found o.0 ∙ ap (λ (r : Option ℕ). option_or r (cond (is_code o.0 o.0) (Some o.1) None)) (not_before objects i d lawful low)
        ∙ ap (λ (b : Bool). cond b (Some o.1) None) ((eq_by_cmp_equiv nat_list_cmp_total).refl o.0) in
        subst (λ (c : List ℕ). score_in newer c ≡ added (lookup (is_code c) (take (i + 1) objects)) number (score_in old c)) (sym is)
        (here ∙ ap (added (Some o.1) number) (adding_next old new objects number i d lawful low a)
        ∙ ap (λ (r : Option ℕ). added r number (score_in old o.0)) (sym hit))
    go code (inr other) =
        let miss : lookup (is_code code) (take (i + 1) objects) ≡ lookup (is_code code) (take i objects) =
        found code ∙ ap (λ (b : Bool). option_or (lookup (is_code code) (take i objects)) (cond b (Some o.1) None)) other
        ∙ or_none (lookup (is_code code) (take i objects)) in
        others code (λ e. false≢true (sym other ∙ subst (λ (c : List ℕ). is_code code c ≡ true) e ((eq_by_cmp_equiv nat_list_cmp_total).refl code)))
        ∙ a.scores code ∙ ap (λ (r : Option ℕ). added r number (score_in old code)) (sym miss)

pub on_ok_at : {T E P : Type 0} (r : Result T E) → is_ok r ≡ true → OnOk r P → P
on_ok_at (Ok x) is h = h
on_ok_at (Err e) is h = absurd (false≢true is)
