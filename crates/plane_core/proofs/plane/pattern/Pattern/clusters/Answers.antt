use Rattle.std.proofs.Common.{List, subst, sym}
use Rattle.std.specs.Prelude.{IfOk}
use Rattle.plane_core.specs.declared.plane.cell.Cell.{Cell}
use Rattle.plane_core.specs.plane.Cells.{IsPattern}
use Rattle.plane_core.specs.clusters.Clusters.{AreClusters}
use Rattle.plane_core.specs.clusters.UnionFind.{IsForest}
use Rattle.plane_core.proofs.lemmas.clusters.UnionFindLemmas.{forest-roots}
use Rattle.plane_core.proofs.plane.pattern.Pattern.clusters.Goals as goal

pub join_all-requires-clause-forest : goal.join_all-requires-clause-forest
join_all-requires-clause-forest c =
    subst (IsForest c.cells-cells.result.now) (sym c.as_mut_slice-places.ensures.value)
    (forest-roots c.cells-cells.result.now c.in_ok-parents.parents.items c.in_ok-parents.ensures.count c.in_ok-parents.ensures.roots)

pub join_all-requires-clause-pattern : goal.join_all-requires-clause-pattern
join_all-requires-clause-pattern c = subst IsPattern (sym c.cells-cells.ensures.cells) c.cells-cells.ensures.pattern

pub gathered-requires-clause-pattern : goal.gathered-requires-clause-pattern
gathered-requires-clause-pattern c = subst IsPattern (sym c.cells-cells.ensures.cells) c.cells-cells.ensures.pattern

pub gathered-requires-clause-forest : goal.gathered-requires-clause-forest
gathered-requires-clause-forest c = c.join_all.ensures.forest

pub gathered-requires-clause-joined : goal.gathered-requires-clause-joined
gathered-requires-clause-joined c = c.join_all.ensures.joined

pub returns-clause-clusters : goal.returns-clause-clusters
returns-clause-clusters c =
    subst (λ (S : List Cell). IfOk c.gathered.result (λ clusters. AreClusters S clusters.items)) c.cells-cells.ensures.cells c.gathered.ensures.clusters

pub returns-clause-patterns : goal.returns-clause-patterns
returns-clause-patterns c = c.gathered.ensures.patterns
