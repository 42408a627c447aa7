use Rattle.std.proofs.Common.{◌∙◌, ap, arith, codes, decimal, ◌++◌, ◌∷◌, [], option_map, subst}
use Rattle.haul_core.specs.ClaimSteps.{FollowsFields, HasHead, claimed, head_of}
use Rattle.haul_core.specs.FieldSteps.{state_field}
use Rattle.haul_core.proofs.FaultyLines.{head_lacks}
use Rattle.haul_core.proofs.StateLemmas.{state_bad, state_more, unsettled_start, unsettled_over}
use Rattle.haul_core.proofs.report.claim.read_start.after_head.Goals as goal
use Rattle.haul_core.proofs.report.claim.read_start.after_head.Goals.{In-None}

pub returns-in_default-clause-err : goal.returns-in_default-clause-err
returns-in_default-clause-err c =
    head_lacks c.args.line.now 7 c.args.head c.end_of.result.now (omega arith)
    (subst (λ o. HasHead c.args.line.now 7 c.args.head (option_map (λ r. r.now) o)) c.in_default.is c.requires) c.end_of.ensures

pub returns-in_default-state_in-clause-err : goal.returns-in_default-state_in-clause-err
returns-in_default-state_in-clause-err c =
    state_bad c.args.line.now c.args.head c.in-Some.here.now c.cut_at.result.0.now (option_map (λ r. r.now) c.cut_at.result.1)
    (subst (λ o. HasHead c.args.line.now 7 c.args.head (option_map (λ r. r.now) o)) c.in-Some.is c.requires)
    c.cut_at.ensures c.in_default-state_in.ensures

pub settled_in-requires-clause-follows : goal.settled_in-requires-clause-follows
settled_in-requires-clause-follows c =
    state_more c.args.line.now c.args.head c.in-Some.here.now c.cut_at.result.0.now (codes "at=" ++ decimal c.in-Some-state.checkpoint)
    (option_map (λ r. r.now) c.cut_at.result.1)
    (subst (λ o. HasHead c.args.line.now 7 c.args.head (option_map (λ r. r.now) o)) c.in-Some.is c.requires)
    c.cut_at.ensures
    (c.in-Some-state_in.ensures.1 ∙ ap state_field c.in-Some-state.is)

-- the field `unsettled` follows the head
unsettled : (c : In-None)
    → FollowsFields c.args.line.now (head_of (claimed c.args.head []) ++ codes "unsettled" ∷ []) (option_map (λ r. r.now) c.cut_at.result.1)
unsettled c =
    state_more c.args.line.now c.args.head c.in-Some.here.now c.cut_at.result.0.now (codes "unsettled")
    (option_map (λ r. r.now) c.cut_at.result.1)
    (subst (λ o. HasHead c.args.line.now 7 c.args.head (option_map (λ r. r.now) o)) c.in-Some.is c.requires)
    c.cut_at.ensures
    (c.in-Some-state_in.ensures.1 ∙ ap state_field c.in-None.is)

pub returns-in-Some-more-clause-err : goal.returns-in-Some-more-clause-err
returns-in-Some-more-clause-err c =
    unsettled_over c.args.line.now c.args.head c.in-Some-more.there.now c.requires.head
    (subst (λ o. FollowsFields c.args.line.now (head_of (claimed c.args.head []) ++ codes "unsettled" ∷ []) (option_map (λ r. r.now) o))
    c.in-Some-more.is (unsettled (goal.at.returns-in-Some-more-clause-err c).In-None))

pub returns-in-None-more-clause-ok : goal.returns-in-None-more-clause-ok
returns-in-None-more-clause-ok c =
    unsettled_start c.args.line.now c.args.head c.requires.head
    (subst (λ o. FollowsFields c.args.line.now (head_of (claimed c.args.head []) ++ codes "unsettled" ∷ []) (option_map (λ r. r.now) o))
    c.in-None-more.is (unsettled (goal.at.returns-in-None-more-clause-ok c).In-None))
