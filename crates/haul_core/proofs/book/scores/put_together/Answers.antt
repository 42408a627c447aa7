use Rattle.std.proofs.Common.{◌≡◌, ◌∙◌, sym, cond, List, ℕ, Some, nat_eq}
use Rattle.std.specs.Cmp.Lexicographic.{pointwise}
use Rattle.indexmap.specs.IndexMap.{set_value_at}
use Rattle.haul_core.specs.Scores.{found_score, score_in, together}
use Rattle.haul_core.proofs.JoinedScores.{score_set}
use Rattle.haul_core.proofs.ScoreLemmas.{at_code, at_others}
use Rattle.haul_core.proofs.book.scores.put_together.Goals as goal

-- after the write, `score` is added to the code's score, and each other code has its score from before
written : (c : goal.After-scores-1) → (q : List ℕ) → found_score (set_value_at c.args.scores.now.entries c.in-Some.index c.joined-joined.result) q
    ≡ cond (pointwise nat_eq c.args.code.now q) (Some (together (score_in c.args.scores.now.entries c.args.code.now) c.args.score.now))
    (found_score c.args.scores.now.entries q)
written c = score_set c.args.scores.now.entries c.in-Some.index c.index.result.now c.joined-joined.result c.args.score.now c.args.code.now
    (sym c.in-Some.ensures.index) (sym c.in-Some.ensures.value ∙ c.index.ensures) c.joined-joined.ensures

pub returns-clause-score : goal.returns-clause-score
returns-clause-score c =
    at_code c.args.scores.now.entries (set_value_at c.args.scores.now.entries c.in-Some.index c.joined-joined.result) c.args.code.now _ (written c)

pub returns-clause-others : goal.returns-clause-others
returns-clause-others c =
    at_others c.args.scores.now.entries (set_value_at c.args.scores.now.entries c.in-Some.index c.joined-joined.result) c.args.code.now _ (written c)
