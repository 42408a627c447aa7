use Rattle.std.proofs.Common.{◌∙◌, refl, sym}
use Rattle.census.proofs.ProgramLemmas.{ends_version, ends_without_buffer}
use Rattle.census.proofs.program.do_buffered.Goals as goal

-- the program prints the version, without a buffer
pub returns-then-asks_version : goal.returns-then-asks_version
returns-then-asks_version g c =
    let printed = c.print_version-status.ensures in
    ends_version g.W.Write.contents _ _ _ c.args.output _ _ _ _ (sym c.asks_version.ensures ∙ c.if-asks_version.true) printed.failed printed.ends.1
    printed.ends.2 printed.ends.3 refl

pub returns-in-Err : goal.returns-in-Err
returns-in-Err g c =
    ends_without_buffer g.W.Write.contents _ _ _ c.args.output _ _ (sym c.asks_version.ensures ∙ c.if-asks_version.false) c.end_command.ensures.status
    c.end_command.ensures.line refl

pub returns-in-Ok : goal.returns-in-Ok
returns-in-Ok g c = rw (← c.in-Ok.ensures.inner) c.do_and_send-status.ensures
