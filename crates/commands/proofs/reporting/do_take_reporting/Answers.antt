use Rattle.std.proofs.Common.{◌∙◌, None, [], refl, sym}
use Rattle.pattern_commands.specs.Streams.{stream}
use Rattle.commands.proofs.EndLemmas.{if_memory, if_refused}
use Rattle.commands.proofs.ReportingLemmas.{fine_if_done, reporting_prints}
use Rattle.commands.proofs.reporting.do_take_reporting.Goals as goal

pub end_command-requires : goal.end_command-requires
end_command-requires g c =
    fine_if_done c.args.plan.now c.args.workers c.args.from c.print_reporting-outcome.result _ _ (c.print_reporting-outcome.ensures.reached None [])

pub returns-clause-ends : goal.returns-clause-ends
returns-clause-ends g c reader bytes = record {
  outcome = c.print_reporting-outcome.result;
  so_far = stream g.E.Write.contents c.args.machine.now.errors c.print_reporting-outcome.new.machine.errors;
  from = refl;
  reached = c.print_reporting-outcome.ensures.reached reader bytes;
  stays = c.end_command.ensures.stays;
  last = c.end_command.ensures.last;
  status_is = c.end_command.ensures.status;
}

pub returns-clause-exact : goal.returns-clause-exact
returns-clause-exact g c done =
    reporting_prints c.args.plan.now c.args.workers c.args.from None [] c.end_command.result _ _ (returns-clause-ends g c None []) done

pub returns-clause-untouched : goal.returns-clause-untouched
returns-clause-untouched g c refused =
    if_refused c.print_reporting-outcome.result (sym c.end_command.ensures.status ∙ refused) c.print_reporting-outcome.ensures.untouched

pub returns-clause-no_memory : goal.returns-clause-no_memory
returns-clause-no_memory g c memory =
    if_memory c.print_reporting-outcome.result (sym c.end_command.ensures.status ∙ memory) c.print_reporting-outcome.ensures.no_memory
