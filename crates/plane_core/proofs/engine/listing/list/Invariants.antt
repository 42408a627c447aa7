use Rattle.std.proofs.Common.{◌*◌}
use Rattle.plane_core.specs.engine.Listing.{HasReadRows}
use Rattle.plane_core.proofs.engine.listing.list.Given as goal

abbrev pub invariant-loop-band : goal.invariant-loop-band
invariant-loop-band l = HasReadRows l.at l.words (8 * l.band) l.cells.items
