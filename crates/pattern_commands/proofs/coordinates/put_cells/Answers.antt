use Rattle.std.proofs.Common.{◌++◌, ◌+◌, drop, flat_map, get_or, pos, sym}
use Rattle.plane_core.proofs.lemmas.OutputLemmas.{Writes_same, Writes_then, Writes_stops}
use Rattle.pattern_commands.specs.Coordinates.{coordinate_line}
use Rattle.pattern_commands.proofs.CoordinateLemmas.{lines_next}
use Rattle.pattern_commands.proofs.coordinates.put_cells.Goals as goal

pub loop-cell-preserved : goal.loop-cell-preserved
loop-cell-preserved g c =
    let prefix = c.loop-cell.invariant in
    let cells = c.args.cells.now in
    let i = c.loop-cell.cell-index in (
      prefix.0 ++ coordinate_line (get_or cells i (record { y = pos 0; x = pos 0 })),
      lines_next coordinate_line cells i _ (flat_map coordinate_line cells) prefix.0 c.loop-cell-test.true prefix.1,
      Writes_then prefix.2 c.in_ok-put_cell.ensures,
    )

pub returns-in_err-put_cell : goal.returns-in_err-put_cell
returns-in_err-put_cell g c =
    let prefix = c.loop-cell.invariant in
    let cells = c.args.cells.now in
    let i = c.loop-cell.cell-index in
    let more = lines_next coordinate_line cells i (record { y = pos 0; x = pos 0 }) (flat_map coordinate_line cells) prefix.0 c.loop-cell-test.true prefix.1 in
    Writes_same (sym more) (Writes_stops (flat_map coordinate_line (drop (i + 1) cells)) c.from_residual.ensures.0
    (Writes_then prefix.2 c.in_err-put_cell.ensures))
