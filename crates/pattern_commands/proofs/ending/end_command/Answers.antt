use Rattle.pattern_commands.proofs.EndLemmas.{missing_last, missing_status}
use Rattle.pattern_commands.proofs.ending.end_command.Goals as goal

pub returns-in-Ok-clause-status : goal.returns-in-Ok-clause-status
returns-in-Ok-clause-status g c = rw c.in-Ok.is (missing_status c.in-Ok.missing (rw c.in-Ok.is at c.in-Ok.missing-test.1))

pub returns-in-Ok-clause-last : goal.returns-in-Ok-clause-last
returns-in-Ok-clause-last g c =
    rw c.in-Ok.is
    (missing_last g.E.Write.contents c.args.errors.now c.put_missing.new.errors c.put_missing.result c.in-Ok.missing
    (rw c.in-Ok.is at c.in-Ok.missing-test.1) c.put_missing.ensures)
