use Rattle.std.proofs.Common.{◌≡◌, ◌-◌, ◌≤◌, false}
use Rattle.plane_core.specs.plane.Generations.{after}
use Rattle.pattern_commands.specs.SizeSteps.{later_sizes}
use Rattle.pattern_commands.specs.Streams.{Has, stream}
use Rattle.pattern_commands.proofs.sizes.put_later_sizes.Given as goal

-- the lines of the generations after `from` have been written, up to generation `generation`
abbrev pub invariant-loop-generation : goal.invariant-loop-generation
invariant-loop-generation g l = record {
  later : l.from ≤ l.generation;
  last : l.generation ≤ l.last;
  now : l.pattern ≡ after l.rule l.fn.pattern (l.generation - l.from);
  fine : l.output.failed ≡ false;
  lines : Has (stream g.W.Write.contents l.fn.output l.output) (later_sizes l.rule l.fn.pattern l.from (l.generation - l.from));
}

abbrev pub decreases-loop-generation : goal.decreases-loop-generation
decreases-loop-generation g l = l.last - l.generation
