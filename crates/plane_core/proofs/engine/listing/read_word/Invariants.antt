use Rattle.std.proofs.Common.{◌≤◌, ◌-◌}
use Rattle.plane_core.specs.engine.Listing.{HasRead}
use Rattle.plane_core.proofs.engine.listing.read_word.Given as goal

abbrev pub invariant-loop-done : goal.invariant-loop-done
invariant-loop-done l = record {
  within : l.done ≤ 64;
  read : HasRead l.word l.first l.fn.cells.items l.done l.cells.items;
}

abbrev pub decreases-loop-done : goal.decreases-loop-done
decreases-loop-done l = 64 - l.done
