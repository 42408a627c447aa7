use Rattle.std.proofs.Common.{◌≡◌, ◌-◌, ◌≤◌, length}
use Rattle.plane_core.proofs.lemmas.windows.RowPackingLemmas.{AreUnpacked}
use Rattle.plane_core.proofs.windows.row_packing.unpack.Given as goal

abbrev pub invariant-loop-k : goal.invariant-loop-k
invariant-loop-k g l = record { long : length l.rows ≡ length l.fn.rows; most : l.k ≤ g.row.N; unpacked : AreUnpacked g.row.N l.window l.rows l.k }

abbrev pub decreases-loop-k : goal.decreases-loop-k
decreases-loop-k g l = g.row.N - l.k

abbrev pub invariant-loop-k-2 : goal.invariant-loop-k-2
invariant-loop-k-2 g l = record { long : length l.rows ≡ length l.fn.rows; most : l.k ≤ g.row.N; unpacked : AreUnpacked g.row.N l.window l.rows l.k }

abbrev pub decreases-loop-k-2 : goal.decreases-loop-k-2
decreases-loop-k-2 g l = g.row.N - l.k
