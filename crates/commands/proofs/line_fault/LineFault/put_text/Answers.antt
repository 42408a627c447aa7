use Rattle.std.proofs.Common.{ap, sym}
use Rattle.plane_core.proofs.lemmas.OutputLemmas.{Writes_same}
use Rattle.commands.specs.GatheredLines.{line_fault_text}
use Rattle.commands.proofs.line_fault.LineFault.put_text.Goals as goal

pub returns-in-BadLine : goal.returns-in-BadLine
returns-in-BadLine g c = Writes_same (sym (ap line_fault_text c.in-BadLine.is)) c.put_number.ensures

pub returns-in-UnknownWorker : goal.returns-in-UnknownWorker
returns-in-UnknownWorker g c = Writes_same (sym (ap line_fault_text c.in-UnknownWorker.is)) c.put_number-in-UnknownWorker.ensures

pub returns-in-OutOfRange : goal.returns-in-OutOfRange
returns-in-OutOfRange g c = Writes_same (sym (ap line_fault_text c.in-OutOfRange.is)) c.put_number-in-OutOfRange.ensures

pub returns-in-Double : goal.returns-in-Double
returns-in-Double g c = Writes_same (sym (ap line_fault_text c.in-Double.is)) c.put_double.ensures
