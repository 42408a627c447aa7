use Rattle.std.proofs.Common.{subst, Some, ◌++◌, ◌∷◌, []}
use Rattle.std.specs.Prelude.{option_map}
use Rattle.ranges.proofs.ListLemmas.{Passed, passed_fault, passed_more}
use Rattle.ranges.proofs.range_list.fault_in.Goals as goal

pub loop-remainder-preserved : goal.loop-remainder-preserved
loop-remainder-preserved c =
    let i = c.loop-remainder.invariant in
    let p : Passed c.args.text.now i.0 (Some c.in-Some.here.now) = subst (λ o. Passed c.args.text.now i.0 (option_map (λ remainder. remainder.now) o)) c.in-Some.is i.1 in
    (i.0 ++ c.in-Ok.field-0-0 ∷ [], passed_more c.args.text.now i.0 c.in-Some.here.now c.in-Ok.field-0-0 _ p c.in-Ok.ensures.ok)

pub returns-in-Err-clause-fault : goal.returns-in-Err-clause-fault
returns-in-Err-clause-fault c =
    let i = c.loop-remainder.invariant in
    let p : Passed c.args.text.now i.0 (Some c.in-Some.here.now) = subst (λ o. Passed c.args.text.now i.0 (option_map (λ remainder. remainder.now) o)) c.in-Some.is i.1 in
    (passed_fault c.args.text.now i.0 c.in-Some.here.now c.in-Err.there.now p c.in-Err.ensures.err).0

pub returns-in-Err-clause-refused : goal.returns-in-Err-clause-refused
returns-in-Err-clause-refused c =
    let i = c.loop-remainder.invariant in
    let p : Passed c.args.text.now i.0 (Some c.in-Some.here.now) = subst (λ o. Passed c.args.text.now i.0 (option_map (λ remainder. remainder.now) o)) c.in-Some.is i.1 in
    (passed_fault c.args.text.now i.0 c.in-Some.here.now c.in-Err.there.now p c.in-Err.ensures.err).1
