use Rattle.std.proofs.Common.{rules, ◌≡◌, ◌++◌, ◌∷◌, [], Some, subst, sym}
use Rattle.std.specs.Prelude.{option_map}
use Rattle.ranges.proofs.ListLemmas.{Passed, passed_fault, passed_more}
use Rattle.ranges.proofs.range_list.ranges_in.Goals as goal

pub loop-remainder-preserved : goal.loop-remainder-preserved
loop-remainder-preserved c =
    let p : Passed c.args.text.now c.loop-remainder.ranges.items (Some c.in-Some.here.now) =
    subst (λ o. Passed c.args.text.now c.loop-remainder.ranges.items (option_map (λ remainder. remainder.now) o)) c.in-Some.is c.loop-remainder.invariant in
    let next = option_map (λ remainder. remainder.now) c.in-Ok.more in
    let pushed : c.push.new.self.items ≡ c.loop-remainder.ranges.items ++ c.in-Ok.range ∷ [] = search rules in
    subst (λ items. Passed c.args.text.now items (option_map (λ remainder. remainder.now) c.in-Ok.more)) (sym pushed)
    (passed_more c.args.text.now c.loop-remainder.ranges.items c.in-Some.here.now c.in-Ok.range _ p c.in-Ok.ensures.ok)

pub unreachable-requires : goal.unreachable-requires
unreachable-requires c =
    let p : Passed c.args.text.now c.loop-remainder.ranges.items (Some c.in-Some.here.now) =
    subst (λ o. Passed c.args.text.now c.loop-remainder.ranges.items (option_map (λ remainder. remainder.now) o)) c.in-Some.is c.loop-remainder.invariant in
    (passed_fault c.args.text.now c.loop-remainder.ranges.items c.in-Some.here.now c.in-Err.field-0.now p c.in-Err.ensures.err).1 c.requires
