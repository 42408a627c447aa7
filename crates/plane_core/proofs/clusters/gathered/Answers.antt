use Rattle.plane_core.proofs.lemmas.clusters.GatherLemmas.{gathered_all, gathered_patterns, gathering-start}
use Rattle.plane_core.proofs.clusters.gathered.Goals as goal

pub loop-place-init : goal.loop-place-init
loop-place-init c = gathering-start c.args.cells.now c.args.parents.now _ c.requires.forest c.requires.joined c.new-clusters.ensures.items

pub returns-clause-clusters : goal.returns-clause-clusters
returns-clause-clusters c =
    let g = c.loop-place.invariant in
    gathered_all c.args.cells.now g.forest _ _ c.loop-place.place c.requires.pattern.in_order g.is_forest g.joined c.loop-place-test.false g.passed

pub returns-clause-patterns : goal.returns-clause-patterns
returns-clause-patterns c =
    let g = c.loop-place.invariant in gathered_patterns c.args.cells.now g.forest _ _ c.loop-place.place c.requires.pattern g.passed
