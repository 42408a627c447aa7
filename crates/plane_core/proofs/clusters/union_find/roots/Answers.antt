use Rattle.std.proofs.Common.{◌<◌, ◌∙◌, length-set, subst, sym}
use Rattle.plane_core.proofs.lemmas.clusters.UnionFindLemmas.{roots-more}
use Rattle.plane_core.proofs.clusters.union_find.roots.Goals as goal

pub loop-place-preserved : goal.loop-place-preserved
loop-place-preserved c =
    let here = c.loop-place.place in
    let parents = c.loop-place.parents.items in
    let low = subst (λ n. here < n) (sym c.loop-place.invariant.0) c.loop-place-test.true in
    (length-set parents here here ∙ c.loop-place.invariant.0, roots-more parents here low c.loop-place.invariant.1)
