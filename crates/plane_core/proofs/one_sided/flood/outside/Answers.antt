use Rattle.std.proofs.Common.{arith}
use Rattle.plane_core.proofs.lemmas.one_sided.FloodLemmas.{in_mask, not_outside}
use Rattle.plane_core.proofs.one_sided.flood.outside.Goals as goal

pub returns : goal.returns
returns c i none one =
    let column = in_mask 4 60 i (not_outside c.args.word 1152921504606846960 i (omega arith) (omega arith) none one) in
    record { above = omega arith; below = omega arith; west = column.0; east = column.1 }
