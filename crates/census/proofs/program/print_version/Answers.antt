use Rattle.std.proofs.Common.{ap, sym}
use Rattle.pattern_commands.specs.Streams.{stream}
use Rattle.census.proofs.program.print_version.Goals as goal

pub returns-clause-ends : goal.returns-clause-ends
returns-clause-ends g c = (
  stream g.W.Write.contents c.new-output.result c.do_version-status.new.output,
  ap g.W.Write.contents c.new-output.ensures.writer,
  ap g.W.Write.contents (sym c.into_inner.ensures),
  c.do_version-status.ensures.ends,
)
