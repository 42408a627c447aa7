use Rattle.plane_core.specs.windows.RuleLogic.{rule_of}
use Rattle.plane_core.proofs.lemmas.one_sided.FollowLemmas.{followed_none}
use Rattle.plane_core.proofs.one_sided.never_recurs.never_recurs.Goals as goal

pub loop-size-init : goal.loop-size-init
loop-size-init c = followed_none (rule_of c.args.rule.now) c.args.start.now
