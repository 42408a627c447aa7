use Prim.Native.Nat.{◌+◌, ◌*◌}
use Rattle.std.proofs.Common.{length}
use Rattle.crew_tests.proofs.tickets.+draw_in_threads+fn-draw_in_threads-others.Given as goal

abbrev pub decreases-draw_in_threads : goal.decreases-draw_in_threads
decreases-draw_in_threads g l = 2 * length l.passes.items

abbrev pub decreases-others : goal.decreases-others
decreases-others g l = 2 * length l.passes.items + 1
