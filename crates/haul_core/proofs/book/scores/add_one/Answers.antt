use Rattle.std.proofs.Common.{◌≡◌, ◌∙◌, sym, cond, List, ℕ, Some, nat_eq}
use Rattle.std.specs.Cmp.Lexicographic.{pointwise}
use Rattle.indexmap.specs.IndexMap.{set_value_at}
use Rattle.haul_core.specs.Scores.{added, found_score, score_in}
use Rattle.haul_core.proofs.ScoreLemmas.{at_code, at_others, scores_stay, score_written}
use Rattle.haul_core.proofs.book.scores.add_one.Goals as goal

-- in the written scores, the code's score is the earlier one with the count added, and each other code has the score
-- that it had
written : (c : goal.After-scores-1) → (q : List ℕ) → found_score (set_value_at c.args.scores.now.entries c.in-Some.index c.with-score.result) q
    ≡ cond (pointwise nat_eq c.args.code.now q) (Some (added (Some c.args.count) c.args.number (score_in c.args.scores.now.entries c.args.code.now))) (found_score c.args.scores.now.entries q)
written c = score_written c.args.scores.now.entries c.in-Some.index c.args.count c.args.number c.index.result.now c.with-score.result c.args.code.now
    (sym c.in-Some.ensures.index) (sym c.in-Some.ensures.value ∙ c.index.ensures) c.with-score.ensures

pub returns-clause-score : goal.returns-clause-score
returns-clause-score c =
    at_code c.args.scores.now.entries (set_value_at c.args.scores.now.entries c.in-Some.index c.with-score.result) c.args.code.now _ (written c)

pub returns-clause-others : goal.returns-clause-others
returns-clause-others c =
    at_others c.args.scores.now.entries (set_value_at c.args.scores.now.entries c.in-Some.index c.with-score.result) c.args.code.now _ (written c)

pub returns-clause-scores : goal.returns-clause-scores
returns-clause-scores c =
    scores_stay c.args.scores.now.entries (set_value_at c.args.scores.now.entries c.in-Some.index c.with-score.result) c.args.code.now _ (written c)
