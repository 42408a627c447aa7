use Rattle.std.proofs.Common.{◌≡◌, ◌≤◌, ◌^◌, false, length}
use Rattle.std.specs.Io.KnownBytes.{prepend_known}
use Rattle.pattern_commands.specs.Streams.{stream}
use Rattle.commands.specs.GatherSteps.{HasGatheredLines}
use Rattle.commands.proofs.gather.Gatherer.gather_lines.Given as goal

-- the first `before` lines were gathered in the haul
abbrev pub invariant-loop-before : goal.invariant-loop-before
invariant-loop-before g l = record {
  terms : l.self.haul.terms ≡ l.fn.self.haul.terms;
  fine : l.errors.failed ≡ false;
  short : l.size ≤ 2 ^ 32;
  few : length l.lines.ahead ≤ 2 ^ 16;
  gathered : HasGatheredLines (record {
    reader = g.R.Read.remaining l.fn.input;
    left = prepend_known l.lines.ahead (g.R.Read.remaining l.input);
    errors = stream g.E.Write.contents l.fn.errors l.errors;
    count = l.before;
    size = l.size;
  }) l.self.haul;
}
