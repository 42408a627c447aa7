use Rattle.std.proofs.Common.{◌≡◌, length, map, pos, take}
use Rattle.plane_core.proofs.lemmas.Between.{ShowsRows}
use Rattle.plane_core.proofs.lemmas.engine.WindowRoundLemmas.{window_at}
use Rattle.code_core.specs.Images.{image_cell}
use Rattle.code_core.proofs.image_rows.image_rows.Given as goal

-- there are 64 rows, which show the images of the cells that the loop has passed
abbrev pub invariant-loop-cell : goal.invariant-loop-cell
invariant-loop-cell l = record {
  long : length l.rows ≡ 64;
  shown : ShowsRows (window_at (pos 0) (pos 0)) l.rows (map (image_cell l.orientation l.bounds) (take l.cell-index l.cells));
}
