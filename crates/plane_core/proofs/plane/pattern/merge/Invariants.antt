use Rattle.std.proofs.Common.{◌+◌, ◌≤◌, length, take}
use Rattle.plane_core.proofs.lemmas.plane.MergeLemmas.{AreTogether}
use Rattle.plane_core.proofs.plane.pattern.merge.Given as goal

abbrev pub invariant-loop-j : goal.invariant-loop-j
invariant-loop-j l = record {
  first : l.i ≤ l.count;
  second : l.j ≤ length l.others;
  together : AreTogether (take l.count l.initial.cells) l.others l.cells l.i l.j;
}

abbrev pub decreases-loop-j : goal.decreases-loop-j
decreases-loop-j l = l.i + l.j
