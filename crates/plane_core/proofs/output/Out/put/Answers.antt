use Rattle.std.proofs.Common.{◌++◌, take}
use Rattle.plane_core.proofs.lemmas.OutputLemmas.{Appends-append, cut}
use Rattle.plane_core.proofs.output.Out.put.Goals as goal

pub loop-remainder-preserved : goal.loop-remainder-preserved
loop-remainder-preserved g c =
    let written = c.loop-remainder.invariant.1 in (
      c.loop-remainder.invariant.0,
      (
        written.0 ++ take c.in-Ok.taken c.loop-remainder.remainder.now,
        cut _ _ _ _ written.1 c.in-Ok.ensures.bound,
        Appends-append _ _ _ _ _ written.2 c.in-Ok.ensures.bytes,
      ),
    )
