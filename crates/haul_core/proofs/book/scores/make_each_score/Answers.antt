use Rattle.std.proofs.Common.{ℕ, List, subst}
use Rattle.std.specs.List.{All}
use Rattle.std.proofs.lemmas.List.{take_all}
use Rattle.std.proofs.lemmas.List.Elements.{All-nil}
use Rattle.haul_core.specs.Scores.{HasScore}
use Rattle.haul_core.proofs.ScoreLemmas.{Extends-none, Extends-then, scores_more}
use Rattle.haul_core.proofs.book.scores.make_each_score.Goals as goal

pub loop-object-preserved : goal.loop-object-preserved
loop-object-preserved c = record {
  extends = Extends-then c.args.scores.now.entries c.loop-object.scores.entries c.make_score.new.scores.entries c.loop-object.invariant.extends c.make_score.ensures.extends;
  scores = scores_more c.loop-object.scores.entries c.make_score.new.scores.entries c.args.objects.now c.loop-object.object-index c.object-item.result
      c.make_score.ensures.extends c.loop-object-test.true c.loop-object.invariant.scores
      (subst (λ (object : List ℕ × ℕ). HasScore c.make_score.new.scores.entries object.0) c.object-item.is c.in_ok-make_score.ensures.score);
}

pub returns-clause-scores : goal.returns-clause-scores
returns-clause-scores c = subst (All (λ object. HasScore c.loop-object.scores.entries object.0))
    (take_all c.loop-object.object-index c.args.objects.now c.loop-object-test.false) c.loop-object.invariant.scores

pub loop-object-init : goal.loop-object-init
loop-object-init c = record { extends = Extends-none c.args.scores.now.entries; scores = All-nil (λ object. HasScore c.args.scores.now.entries object.0) }

pub returns-in_err-make_score-clause-extends : goal.returns-in_err-make_score-clause-extends
returns-in_err-make_score-clause-extends c =
    Extends-then c.args.scores.now.entries c.loop-object.scores.entries c.make_score.new.scores.entries c.loop-object.invariant.extends c.make_score.ensures.extends
