use Rattle.std.proofs.Common.{◌≡◌, ◌-◌, ◌≤◌, List, false}
use Rattle.plane_core.specs.declared.plane.cell.Cell.{Cell}
use Rattle.plane_core.specs.plane.Generations.{after}
use Rattle.plane_core.specs.plane.Rules.{Numbers}
use Rattle.pattern_commands.specs.SizeSteps.{RunApart, later_sizes}
use Rattle.pattern_commands.specs.Streams.{Has, stream}
use Rattle.pattern_commands.proofs.sizes.stretch.put_board_sizes.Given as goal

-- the lines of the first `made` generations have been written, and the boards have been advanced by `made` generations
abbrev pub invariant-loop-made : goal.invariant-loop-made
invariant-loop-made g l = record {
  most : l.made ≤ l.most;
  fine : l.output.failed ≡ false;
  lines : (rule : Numbers) (cells : List Cell) → RunApart rule cells l.fn.most l.fn.boards
      → Has (stream g.W.Write.contents l.fn.output l.output) (later_sizes rule cells l.generation l.made)
      × RunApart rule (after rule cells l.made) (l.most - l.made) l.boards;
}

abbrev pub decreases-loop-made : goal.decreases-loop-made
decreases-loop-made g l = l.most - l.made
