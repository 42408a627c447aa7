use Rattle.std.proofs.Common.{◌∙◌, arith}
use Rattle.std.proofs.lemmas.List.{length-replicate}
use Rattle.plane_core.proofs.one_sided.crop.crop.Goals as goal

pub loop-r-init : goal.loop-r-init
loop-r-init g c = record { long = length-replicate g.row.R 0; made = λ q low. absurd (omega (arith, low)) }

pub returns : goal.returns
returns g c r low = c.packed.ensures r (omega (arith, low, c.requires.rows)) ∙ c.loop-r.invariant.made r (omega (arith, low, c.requires.rows, c.loop-r-test.false))
