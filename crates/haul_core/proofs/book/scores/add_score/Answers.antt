use Rattle.std.proofs.Common.{◌∙◌, ◌+◌, ◌<◌, ◌^◌, ap, subst, sym}
use Rattle.haul_core.specs.declared.book.scores.Score.{Score}
use Rattle.haul_core.specs.Scores.{together}
use Rattle.haul_core.proofs.ScoreLemmas.{score-Extends}
use Rattle.haul_core.proofs.book.scores.add_score.Goals as goal

pub put_together-requires-clause-room : goal.put_together-requires-clause-room
put_together-requires-clause-room c =
    subst (λ (t : Score). t.total + c.args.score.now.total < 2 ^ 128)
    (sym (score-Extends c.args.scores.now.entries c.make_score.new.scores.entries c.make_score.ensures.extends c.args.code.now)) c.requires

pub returns-clause-score : goal.returns-clause-score
returns-clause-score c =
    c.put_together.ensures.score ∙ ap (λ (t : Score). together t c.args.score.now)
    (score-Extends c.args.scores.now.entries c.make_score.new.scores.entries c.make_score.ensures.extends c.args.code.now)

pub returns-clause-others : goal.returns-clause-others
returns-clause-others c = λ other apart.
    c.put_together.ensures.others other apart
    ∙ score-Extends c.args.scores.now.entries c.make_score.new.scores.entries c.make_score.ensures.extends other
