use Rattle.std.proofs.Common.{◌<◌, arith, length, rules, refl}
use Rattle.ranges.proofs.UnionLemmas.{apart_more, shared_by}
use Rattle.ranges.proofs.range.Ranges.share_number.Goals as goal

pub returns-then-shares_any : goal.returns-then-shares_any
returns-then-shares_any c =
    let low : c.loop-range.range-index < length c.args.other.now = search (rules, arith) in
    (λ t. shared_by (record { first = 0; count = 0 }) c.args.self.now c.args.other.now c.loop-range.range-index low (search rules), λ s. refl)

pub loop-range-preserved : goal.loop-range-preserved
loop-range-preserved c =
    let low : c.loop-range.range-index < length c.args.other.now = search (rules, arith) in
    apart_more (record { first = 0; count = 0 }) c.args.self.now c.args.other.now c.loop-range.range-index low c.loop-range.invariant (search rules)
