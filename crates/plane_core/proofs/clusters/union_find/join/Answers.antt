use Rattle.plane_core.proofs.lemmas.clusters.UnionFindLemmas.{joined_roots}
use Rattle.plane_core.proofs.clusters.union_find.join.Goals as goal

pub returns : goal.returns
returns c =
    let roots = joined_roots c.args.parents.now c.args.one c.args.other c.root-left.result c.root-right.result
    (record { low = c.root-left.ensures.place; joined = c.root-left.ensures.joined; linked = c.root-left.ensures.linked })
    (record { low = c.root-right.ensures.place; joined = c.root-right.ensures.joined; linked = c.root-right.ensures.linked })
    c.root-left.ensures.root c.root-right.ensures.root in
    rw (c.max-later.ensures, c.min.ensures) (record { forest = roots.forest; keeps = roots.keeps; joined = roots.joined })
