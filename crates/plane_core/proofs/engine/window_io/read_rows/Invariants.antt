use Rattle.std.proofs.Common.{◌≡◌, ◌+◌, ◌-◌, ◌*◌, ◌/◌, ◌≤◌, length}
use Rattle.plane_core.specs.engine.WindowIo.{AreRowsRead}
use Rattle.plane_core.proofs.engine.window_io.read_rows.Given as goal

abbrev pub invariant-loop-r : goal.invariant-loop-r
invariant-loop-r g l = record {
  long : length l.rows ≡ g.row.R;
  most : l.r ≤ g.row.R;
  inside : l.x / 64 * l.fn.at.rows + l.y + l.fn.at.rows + g.row.R ≤ length l.words;
  read : AreRowsRead l.fn.at l.words l.x l.y l.r l.rows;
}

abbrev pub decreases-loop-r : goal.decreases-loop-r
decreases-loop-r g l = g.row.R - l.r

abbrev pub invariant-loop-r-2 : goal.invariant-loop-r-2
invariant-loop-r-2 g l = record {
  long : length l.rows ≡ g.row.R;
  most : l.r ≤ g.row.R;
  inside : l.x / 64 * l.fn.at.rows + l.y + l.fn.at.rows + g.row.R ≤ length l.words;
  read : AreRowsRead l.fn.at l.words l.x l.y l.r l.rows;
}

abbrev pub decreases-loop-r-2 : goal.decreases-loop-r-2
decreases-loop-r-2 g l = g.row.R - l.r
