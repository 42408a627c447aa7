use Rattle.std.proofs.Common.{◌+◌, All, List, take}
use Rattle.plane_core.specs.declared.plane.cell.Cell.{Cell}
use Rattle.plane_core.specs.engine.NextListing.{HasListedRows, IsNextWindowOf}
use Rattle.plane_core.proofs.engine.board.next_pattern.list_band.Given as goal
use Rattle.plane_core.proofs.lemmas.engine.NextListingLemmas.{HasListedRow}

abbrev pub invariant-loop-r : goal.invariant-loop-r
invariant-loop-r l = (next : List Cell) → All (IsNextWindowOf l.at l.y next) l.windows
    → HasListedRows l.at l.y l.r next l.windows l.fn.cells.items l.cells.items

abbrev pub invariant-loop-window : goal.invariant-loop-window
invariant-loop-window l = (next : List Cell) → All (IsNextWindowOf l.at l.y next) l.windows
    → HasListedRow l.at (l.y + l.r) next (take l.window-index l.windows) l.initial.cells.items l.cells.items
