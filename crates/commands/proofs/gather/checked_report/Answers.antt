use Rattle.commands.proofs.gather.checked_report.Goals as goal

pub returns : goal.returns
returns c =
    let read = c.in-Ok.ensures in
    c.fault_of_check.ensures _ _ c.in-Ok.claim (record { lawful = read.lawful; spelled = read.line }) c.in-Err.ensures.fails
