use Rattle.std.proofs.Common.{◌<◌, ℕ, slice_index_or}
use Rattle.plane_core.specs.declared.engine.leap_window.LeapWindow.{LeapWindow}
use Rattle.plane_core.specs.engine.Leaps.{ArePutBack}
use Rattle.plane_core.specs.engine.RowSpans.{AreWidened}
use Rattle.plane_core.proofs.engine.leap.put_all.Given as goal
use Rattle.plane_core.proofs.lemmas.Between.{HoldInner}

abbrev pub invariant-loop-k : goal.invariant-loop-k
invariant-loop-k l = record {
  put : ArePutBack l.at l.windows l.held l.k l.initial.words l.words;
  kept : AreWidened l.initial.spans l.spans;
  covered : (k : ℕ) (p : LeapWindow) → k < l.k → HoldInner l.at l.spans (slice_index_or l.windows k p);
}
