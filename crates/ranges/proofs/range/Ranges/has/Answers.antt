use Rattle.std.proofs.Common.{◌≡◌, ap, leb, rules, subst, sym, ◌∙◌}
use Rattle.std.proofs.lemmas.List.Sorted.{IsPartitionPoint-from_clause, IsPartitionedBy-leb}
use Rattle.ranges.specs.declared.range.Range.{Range}
use Rattle.ranges.specs.Ranges.{AreNormal, is_in}
use Rattle.ranges.proofs.BisectionLemmas.{Begun, ascends, last_begun, none_begun}
use Rattle.ranges.proofs.range.Ranges.has.Goals as goal
use Rattle.ranges.proofs.range.Ranges.has.Goals.{After-last}

normal : (c : After-last) → AreNormal c.as_slice-ranges.result.now
normal c = subst AreNormal (sym c.as_slice-ranges.ensures.ranges) c.as_slice-ranges.ensures.normal

begun : (c : After-last) → Begun c.args.number c.as_slice-ranges.result.now c.partition_point-begun.result
begun c = IsPartitionPoint-from_clause (λ (r : Range). leb r.first c.args.number) _ _ c.partition_point-begun.ensures.partitioned
    (IsPartitionedBy-leb (λ (r : Range). r.first) _ c.args.number (ascends _ (normal c))) (λ a r q k. search rules)

same : (c : After-last) → is_in c.as_slice-ranges.result.now c.args.number ≡ is_in c.args.self.now c.args.number
same c = ap (λ rs. is_in rs c.args.number) c.as_slice-ranges.ensures.ranges

pub returns-in-Some : goal.returns-in-Some
returns-in-Some c =
    let place = (goal.at.returns-in-Some c).After-last in
    let item = c.in-Some.ensures.item in
    c.has.ensures
    ∙ last_begun c.args.number _ _ c.in-Some.range.now (normal place) (begun place) c.partition_point-begun.ensures.bound item.3.0 item.1
    ∙ same place

pub returns-in-None : goal.returns-in-None
returns-in-None c =
    let place = (goal.at.returns-in-None c).After-last in
    sym (none_begun c.args.number _ _ (begun place) c.partition_point-begun.ensures.bound c.in-None.ensures.item.3) ∙ same place
