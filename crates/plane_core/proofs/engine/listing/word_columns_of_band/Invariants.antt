use Rattle.std.proofs.Common.{◌≤◌, ◌-◌}
use Rattle.plane_core.specs.engine.Listing.{IsBandEmpty}
use Rattle.plane_core.proofs.engine.listing.word_columns_of_band.Given as goal

abbrev pub invariant-loop-from : goal.invariant-loop-from
invariant-loop-from l = record { most : l.from ≤ l.word_columns.end; empty : IsBandEmpty l.at l.words l.band 0 l.from }

abbrev pub decreases-loop-from : goal.decreases-loop-from
decreases-loop-from l = l.word_columns.end - l.from

abbrev pub invariant-loop-end : goal.invariant-loop-end
invariant-loop-end l = record {
  least : l.from ≤ l.end;
  most : l.end ≤ l.at.word_columns;
  empty : IsBandEmpty l.at l.words l.band l.end l.at.word_columns;
}

abbrev pub decreases-loop-end : goal.decreases-loop-end
decreases-loop-end l = l.end
