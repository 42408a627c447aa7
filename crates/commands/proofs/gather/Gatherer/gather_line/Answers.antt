use Rattle.std.proofs.Common.{◌+◌, None, Some, []}
use Rattle.plane_core.proofs.lemmas.OutputLemmas.{Appends-nil}
use Rattle.commands.specs.GatheredLines.{fault_line}
use Rattle.commands.proofs.GatherLemmas.{come_more, no_fault}
use Rattle.commands.proofs.gather.Gatherer.gather_line.Goals as goal

pub returns-in_ok-write_line-clause-come : goal.returns-in_ok-write_line-clause-come
returns-in_ok-write_line-clause-come g c line lines diagnostics kept count come = record {
  more = fault_line (c.args.before + 1) c.in-Some.fault;
  come =
      come_more lines line diagnostics _ _ c.args.before (Some c.in-Some.fault) count come c.in_ok-fault.ensures.terms
      (rw c.in-Some.is at c.in_ok-fault.ensures.come line come.arrivals kept come.stands);
  written = c.in_ok-write_line.ensures.whole;
}

pub returns-in_default-clause-come : goal.returns-in_default-clause-come
returns-in_default-clause-come g c line lines diagnostics kept count come =
    let none = no_fault c.in_ok-fault.field-0 c.in_default.not-Some in record {
      more = [];
      come = come_more lines line diagnostics _ _ c.args.before None count come c.in_ok-fault.ensures.terms
          (rw none at c.in_ok-fault.ensures.come line come.arrivals kept come.stands);
      written = Appends-nil _;
    }
