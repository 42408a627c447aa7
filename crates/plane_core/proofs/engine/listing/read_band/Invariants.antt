use Rattle.std.proofs.Common.{◌*◌}
use Rattle.plane_core.specs.engine.Listing.{HasReadRows}
use Rattle.plane_core.proofs.engine.listing.read_band.Given as goal
use Rattle.plane_core.proofs.lemmas.Between.{HasReadRow}

abbrev pub invariant-loop-row : goal.invariant-loop-row
invariant-loop-row l = HasReadRows l.at l.words (8 * l.band) l.fn.cells.items → HasReadRows l.at l.words l.row l.cells.items

abbrev pub invariant-loop-word_column : goal.invariant-loop-word_column
invariant-loop-word_column l = HasReadRow l.at l.words l.row l.initial.cells.items l.word_column l.cells.items
