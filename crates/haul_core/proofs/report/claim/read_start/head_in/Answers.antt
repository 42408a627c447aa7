use Rattle.std.proofs.Common.{arith, option_map, subst}
use Rattle.haul_core.specs.ClaimSteps.{HasHead}
use Rattle.haul_core.proofs.FaultyLines.{head_bad, head_lacks, head_more}
use Rattle.haul_core.proofs.report.claim.read_start.head_in.Goals as goal

pub returns-in_default-clause-err : goal.returns-in_default-clause-err
returns-in_default-clause-err c =
    head_lacks c.args.line.now c.loop-place.place c.loop-place.head c.end_of.result.now (omega arith)
    (subst (λ o. HasHead c.args.line.now c.loop-place.place c.loop-place.head (option_map (λ r. r.now) o)) c.in_default.is c.loop-place.invariant)
    c.end_of.ensures

pub returns-in_default-with_field-clause-err : goal.returns-in_default-with_field-clause-err
returns-in_default-with_field-clause-err c =
    head_bad c.args.line.now c.loop-place.place c.loop-place.head c.in-Some.here.now c.cut_at.result.0.now (option_map (λ r. r.now) c.cut_at.result.1) (omega arith)
    (subst (λ o. HasHead c.args.line.now c.loop-place.place c.loop-place.head (option_map (λ r. r.now) o)) c.in-Some.is c.loop-place.invariant)
    c.cut_at.ensures c.in_default-with_field.ensures

pub loop-place-preserved : goal.loop-place-preserved
loop-place-preserved c =
    head_more c.args.line.now c.loop-place.place c.loop-place.head c.in-Some-with_field.read c.in-Some.here.now c.cut_at.result.0.now
    (option_map (λ r. r.now) c.cut_at.result.1)
    (subst (λ o. HasHead c.args.line.now c.loop-place.place c.loop-place.head (option_map (λ r. r.now) o)) c.in-Some.is c.loop-place.invariant)
    c.cut_at.ensures c.in-Some-with_field.ensures
