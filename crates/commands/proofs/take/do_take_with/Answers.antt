use Rattle.std.proofs.Common.{◌∙◌, refl, sym}
use Rattle.std.proofs.KnownBytes.{Appends-nil}
use Rattle.pattern_commands.specs.Streams.{Stream, stream}
use Rattle.commands.proofs.EndLemmas.{if_memory, if_refused}
use Rattle.commands.proofs.take.do_take_with.Goals as goal

pub returns-clause-ends : goal.returns-clause-ends
returns-clause-ends g c reader bytes =
    let so_far : Stream = stream g.E.Write.contents c.args.machine.now.errors c.args.machine.now.errors in
    record {
      outcome = c.print_haul-outcome.result;
      so_far = so_far;
      from = refl;
      reached = c.print_haul-outcome.ensures.reached reader bytes so_far (Appends-nil _, c.requires.errors);
      stays = rw c.print_haul-outcome.ensures.silent at c.end_command.ensures.stays;
      last = rw c.print_haul-outcome.ensures.silent at c.end_command.ensures.last;
      status_is = c.end_command.ensures.status;
    }

pub returns-clause-untouched : goal.returns-clause-untouched
returns-clause-untouched g c refused =
    if_refused c.print_haul-outcome.result (sym c.end_command.ensures.status ∙ refused) c.print_haul-outcome.ensures.untouched

pub returns-clause-no_memory : goal.returns-clause-no_memory
returns-clause-no_memory g c memory =
    if_memory c.print_haul-outcome.result (sym c.end_command.ensures.status ∙ memory) c.print_haul-outcome.ensures.no_memory
