use Rattle.plane_core.proofs.lemmas.one_sided.CropLemmas.{ArePut}
use Rattle.plane_core.proofs.one_sided.crop.uncrop.Given as goal

abbrev pub invariant-loop-r : goal.invariant-loop-r
invariant-loop-r g l = ArePut l.from l.r l.part l.rows
