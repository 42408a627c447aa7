use Rattle.std.proofs.Common.{arith}
use Rattle.plane_core.proofs.lemmas.one_sided.CropLemmas.{none_put, put_crop, put_lies, put_more}
use Rattle.plane_core.proofs.one_sided.crop.uncrop.Goals as goal

pub loop-r-init : goal.loop-r-init
loop-r-init g c = none_put c.args.from c.unpacked-part.result

pub loop-r-preserved : goal.loop-r-preserved
loop-r-preserved g c = put_more c.args.from c.loop-r.r c.unpacked-part.result c.loop-r.rows (omega (arith, c.requires.low, c.loop-r-test.true)) c.loop-r.invariant

pub returns-clause-crop : goal.returns-clause-crop
returns-clause-crop g c =
    put_crop g.row.N g.row.R c.args.from c.loop-r.r c.unpacked-part.result c.loop-r.rows c.args.window.now c.requires.rows (omega arith) c.loop-r.invariant
    c.unpacked-part.ensures

pub returns-clause-lies : goal.returns-clause-lies
returns-clause-lies g c = put_lies g.row.R c.args.from c.loop-r.r c.unpacked-part.result c.loop-r.rows c.requires.low (omega arith) c.loop-r.invariant
