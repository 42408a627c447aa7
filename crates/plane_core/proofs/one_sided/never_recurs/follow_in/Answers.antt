use Rattle.plane_core.specs.windows.RuleLogic.{rule_of}
use Rattle.plane_core.proofs.lemmas.one_sided.FollowLemmas.{followed_in_crop, followed_in_rows, new_in_rows}
use Rattle.plane_core.proofs.lemmas.plane.OrderLemmas.{few_vectors}
use Rattle.plane_core.proofs.one_sided.never_recurs.follow_in.Goals as goal

pub follow-requires : goal.follow-requires
follow-requires g c = (
  few_vectors g.row.N c.requires.few,
  (
    c.requires.some,
    (
      c.requires.few,
      followed_in_crop (rule_of c.args.rule.now) g.row.N g.row.R c.crop_round-from.result c.args.made c.args.start.now c.args.now.now c.crop-first.result
          c.crop-window.result
          (record { four = c.requires.rows; lies = c.lies_in_crop.ensures c.if-not-lies_in_crop.false; is = c.crop-first.ensures })
          (record { four = c.requires.rows; lies = c.lies_in_crop-else-not-lies_in_crop.ensures c.if-not-lies_in_crop-2.false; is = c.crop-window.ensures })
          c.requires.followed,
    ),
  ),
)

pub returns-in-NeverAgain : goal.returns-in-NeverAgain
returns-in-NeverAgain g c =
    new_in_rows (rule_of c.args.rule.now) g.row.N g.row.R c.crop_round-from.result c.args.most c.args.start.now c.crop-first.result
    (record { four = c.requires.rows; lies = c.lies_in_crop.ensures c.if-not-lies_in_crop.false; is = c.crop-first.ensures }) c.in-NeverAgain.ensures

pub returns-in-Outgrown : goal.returns-in-Outgrown
returns-in-Outgrown g c =
    followed_in_rows (rule_of c.args.rule.now) g.row.N g.row.R c.crop_round-from.result c.in-Outgrown.later c.args.start.now c.uncrop.result
    c.crop-first.result c.follow.new.now
    (record { four = c.requires.rows; lies = c.lies_in_crop.ensures c.if-not-lies_in_crop.false; is = c.crop-first.ensures })
    (record { four = c.requires.rows; lies = c.uncrop.ensures.lies; is = c.uncrop.ensures.crop }) c.in-Outgrown.ensures
