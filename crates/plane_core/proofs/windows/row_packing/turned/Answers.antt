use Rattle.plane_core.proofs.lemmas.windows.RowPackingLemmas.{turned_lanes}
use Rattle.plane_core.proofs.windows.row_packing.turned.Goals as goal

pub returns : goal.returns
returns c i j low lane = turned_lanes c.args.a c.args.b c.args.c c.args.d c.fits-a.0 c.fits-b.0 c.fits-c.0 c.fits-d.0 i j low lane
