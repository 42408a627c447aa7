use Rattle.std.proofs.Common.{◌++◌, ◌∷◌, [], codes, decimal, option_map, subst}
use Rattle.haul_core.specs.ClaimSteps.{FollowsFields, claimed, head_of}
use Rattle.haul_core.proofs.StateLemmas.{mark_bad, mark_lacks, settled_first, settled_second}
use Rattle.haul_core.proofs.report.claim.read_start.settled_in.Goals as goal

pub returns-then-head-eq1-clause-ok : goal.returns-then-head-eq1-clause-ok
returns-then-head-eq1-clause-ok c =
    settled_first c.args.line.now c.args.head c.with_state.result c.args.checkpoint (option_map (λ r. r.now) c.args.remainder) c.requires.head c.requires.checkpoint
    c.if-head-eq1.true c.requires.follows c.with_state.ensures

pub returns-in_default-clause-err : goal.returns-in_default-clause-err
returns-in_default-clause-err c =
    mark_lacks c.args.line.now c.args.head c.args.checkpoint c.end_of.result.now c.requires.head c.requires.checkpoint c.if-head-eq1.false
    (subst (λ o. FollowsFields c.args.line.now (head_of (claimed c.args.head []) ++ (codes "at=" ++ decimal c.args.checkpoint) ∷ []) (option_map (λ r. r.now) o)) c.in_default.is c.requires.follows)
    c.end_of.ensures

pub returns-in_default-mark_in-clause-err : goal.returns-in_default-mark_in-clause-err
returns-in_default-mark_in-clause-err c =
    mark_bad c.args.line.now c.args.head c.args.checkpoint c.in-Some.here.now c.cut_at.result.0.now (option_map (λ r. r.now) c.cut_at.result.1) c.requires.head
    c.requires.checkpoint c.if-head-eq1.false
    (subst (λ o. FollowsFields c.args.line.now (head_of (claimed c.args.head []) ++ (codes "at=" ++ decimal c.args.checkpoint) ∷ []) (option_map (λ r. r.now) o)) c.in-Some.is c.requires.follows)
    c.cut_at.ensures c.in_default-mark_in.ensures

pub returns-clause-ok : goal.returns-clause-ok
returns-clause-ok c =
    settled_second c.args.line.now c.args.head c.with_state-2.result c.args.checkpoint c.in-Some.here.now c.cut_at.result.0.now c.in-Some-mark_in.for_good
    (option_map (λ r. r.now) c.cut_at.result.1) c.requires.head c.requires.checkpoint c.if-head-eq1.false
    (subst (λ o. FollowsFields c.args.line.now (head_of (claimed c.args.head []) ++ (codes "at=" ++ decimal c.args.checkpoint) ∷ []) (option_map (λ r. r.now) o)) c.in-Some.is c.requires.follows)
    c.cut_at.ensures c.in-Some-mark_in.ensures.1 c.with_state-2.ensures
