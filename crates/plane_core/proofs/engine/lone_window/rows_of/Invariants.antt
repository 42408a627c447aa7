use Rattle.std.proofs.Common.{◌≡◌, length, take}
use Rattle.plane_core.proofs.engine.lone_window.rows_of.Given as goal
use Rattle.plane_core.proofs.lemmas.Between.{ShowsRows}

abbrev pub invariant-loop-cell : goal.invariant-loop-cell
invariant-loop-cell l = record { long : length l.rows ≡ 64; shown : ShowsRows l.origin l.rows (take l.cell-index l.cells) }
