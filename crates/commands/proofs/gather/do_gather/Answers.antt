use Rattle.std.proofs.Common.{◌∙◌, refl, sym}
use Rattle.pattern_commands.specs.Streams.{stream}
use Rattle.commands.proofs.EndLemmas.{if_memory, if_refused}
use Rattle.commands.proofs.gather.do_gather.Goals as goal

pub returns-clause-ends : goal.returns-clause-ends
returns-clause-ends g c =
    let facts = c.open_and_gather-outcome.ensures.gathers in (
      facts.0,
      facts.1,
      record {
        outcome = c.open_and_gather-outcome.result;
        so_far = stream g.E.Write.contents c.args.errors.now c.open_and_gather-outcome.new.errors;
        from = refl;
        reached = facts.2;
        stays = c.end_command.ensures.stays;
        last = c.end_command.ensures.last;
        status_is = c.end_command.ensures.status;
      },
      c.open_and_gather-outcome.ensures.place,
    )

pub returns-clause-untouched : goal.returns-clause-untouched
returns-clause-untouched g c refused =
    if_refused c.open_and_gather-outcome.result (sym c.end_command.ensures.status ∙ refused) c.open_and_gather-outcome.ensures.untouched

pub returns-clause-no_memory : goal.returns-clause-no_memory
returns-clause-no_memory g c memory =
    if_memory c.open_and_gather-outcome.result (sym c.end_command.ensures.status ∙ memory) c.open_and_gather-outcome.ensures.no_memory
