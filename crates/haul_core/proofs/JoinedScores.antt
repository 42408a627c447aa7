-- Adding the scores of two hauls.
use Rattle.std.proofs.Common.{◌≡◌, ◌≢◌, ◌∙◌, ◌+◌, ◌<◌, ℕ, Bool, true, false, cond, List, [], ◌∷◌, Option, None, Some, ap, sym, subst}
use Rattle.std.proofs.Common.{inl, inr, ◌⊎◌}
use Rattle.std.proofs.Common.{take, drop, get_or, length, nat_eq, unwrap_or, add-zero}
use Rattle.std.specs.Cmp.Lexicographic.{pointwise}
use Rattle.std.specs.List.{IsDistinct, position}
use Rattle.std.specs.Map.{keys_of}
use Rattle.std.specs.Option.{option_or}
use Rattle.std.specs.Prelude.{slice_get}
use Rattle.std.proofs.lemmas.Bool.{cases_Bool, false≢true}
use Rattle.std.proofs.lemmas.List.{take-append-drop, take_more}
use Rattle.std.proofs.lemmas.List.Quantifiers.{position-Some}
use Rattle.indexmap.specs.IndexMap.{set_value_at}
use Rattle.haul_core.specs.declared.book.scores.Score.{Score}
use Rattle.haul_core.specs.Scores.{no_score, found_score, score_in, together}
use Rattle.haul_core.proofs.CensusLemmas.{got, row_before}
use Rattle.haul_core.proofs.ScoreLemmas.{code_itself, code_same, lookup_append, or_none, pair_written}

-- if a code's score is replaced by its sum with another score, the scores of the other codes don't change
pub score_set : (scores : List (List ℕ × Score)) (i : ℕ) (before score other : Score) (code : List ℕ)
    → position (pointwise nat_eq code) (keys_of scores) ≡ Some i → found_score scores code ≡ Some before → score ≡ together before other
    → (q : List ℕ) → found_score (set_value_at scores i score) q ≡ cond (pointwise nat_eq code q) (Some (together (score_in scores code) other)) (found_score scores q)
score_set scores i before score other code at is e q =
    let p = position-Some (pointwise nat_eq code) (keys_of scores) i [] at in
    let own : score_in scores code ≡ before = ap (λ (o : Option Score). unwrap_or o no_score) is in
    pair_written scores i score code p.0 p.1 p.2 q
    ∙ ap (λ (t : Score). cond (pointwise nat_eq code q) (Some t) (found_score scores q)) (e ∙ ap (λ (t : Score). together t other) (sym own))

together_none : (t : Score) → together t no_score ≡ t
together_none t = λ i. record { total = add-zero t.total i; samples = t.samples }

-- `new` is `old` with the first `i` scores of `others` added
abbrev pub Added : List (List ℕ × Score) → List (List ℕ × Score) → List (List ℕ × Score) → ℕ → Type 0
Added old new others i = (code : List ℕ) → score_in new code ≡ together (score_in old code) (score_in (take i others) code)

pub added_none : (old others : List (List ℕ × Score)) → Added old old others 0
added_none old others code = sym (together_none (score_in old code))

module _ (old new others : List (List ℕ × Score)) (i : ℕ) (code : List ℕ) (score : Score) (distinct : IsDistinct (pointwise nat_eq) (keys_of others))
    (low : i < length others) (at : slice_get others i ≡ Some (code, score)) (a : Added old new others i) where
  own : get_or others i (code, score) ≡ (code, score)
  own = got others i (code, score) (code, score) at

  absent : found_score (take i others) code ≡ None
  absent = subst (λ (o : List ℕ × Score). found_score (take i others) o.0 ≡ None) own (row_before others i (code, score) distinct low)

  found : (q : List ℕ) → found_score (take (i + 1) others) q ≡ option_or (found_score (take i others) q) (cond (pointwise nat_eq q code) (Some score) None)
  found q =
      ap (λ (scores : List (List ℕ × Score)). found_score scores q) (take_more others i (code, score) low)
      ∙ lookup_append (pointwise nat_eq q) (take i others) (get_or others i (code, score) ∷ [])
      ∙ ap (λ (o : List ℕ × Score). option_or (found_score (take i others) q) (cond (pointwise nat_eq q o.0) (Some o.1) None)) own

  -- the first `i` scores of `others` add nothing to the score of the next code
  pub next_total : score_in new code ≡ score_in old code
  next_total =
      a code ∙ ap (λ (o : Option Score). together (score_in old code) (unwrap_or o no_score)) absent ∙ together_none (score_in old code)

  found_here : found_score (take (i + 1) others) code ≡ Some score
  found_here = found code ∙ ap (λ (o : Option Score). option_or o (cond (pointwise nat_eq code code) (Some score) None)) absent
      ∙ ap (λ (b : Bool). cond b (Some score) None) (code_itself code)

  here : score_in (take (i + 1) others) code ≡ score
  here = ap (λ (o : Option Score). unwrap_or o no_score) found_here

  -- in `others`, the code has this score
  pub row_at : score_in others code ≡ score
  row_at = ap (λ (o : Option Score). unwrap_or o no_score) (ap (λ (scores : List (List ℕ × Score)). found_score scores code) (sym (take-append-drop (i + 1) others))
      ∙ lookup_append (pointwise nat_eq code) (take (i + 1) others) (drop (i + 1) others)
      ∙ ap (λ (o : Option Score). option_or o (found_score (drop (i + 1) others) code)) found_here)

  pub added_more : (newer : List (List ℕ × Score)) → score_in newer code ≡ together (score_in new code) score
      → ((other : List ℕ) → other ≢ code → score_in newer other ≡ score_in new other) → Added old newer others (i + 1)
  added_more newer written others_stay q = go (cases_Bool (pointwise nat_eq q code))
    where
      go : (pointwise nat_eq q code ≡ true) ⊎ (pointwise nat_eq q code ≡ false)
          → score_in newer q ≡ together (score_in old q) (score_in (take (i + 1) others) q)
      go (inl same) =
          subst (λ (c : List ℕ). score_in newer c ≡ together (score_in old c) (score_in (take (i + 1) others) c)) (sym (code_same q code same))
          (written ∙ (λ j. together (next_total j) (sym here j)))
      go (inr other) =
          let miss : found_score (take (i + 1) others) q ≡ found_score (take i others) q =
          found q ∙ ap (λ (b : Bool). option_or (found_score (take i others) q) (cond b (Some score) None)) other ∙ or_none (found_score (take i others) q) in
          others_stay q (λ e. false≢true (sym other ∙ subst (λ (c : List ℕ). pointwise nat_eq c code ≡ true) (sym e) (code_itself code)))
          ∙ a q ∙ ap (λ (o : Option Score). together (score_in old q) (unwrap_or o no_score)) (sym miss)
