use Rattle.commands.proofs.GatherLemmas.{disagreeing}
use Rattle.commands.proofs.gather.fault_of_check.Goals as goal

pub returns-in-Disagrees : goal.returns-in-Disagrees
returns-in-Disagrees c job line claim claims fails =
    disagreeing c.findings_are_determined.ensures job line claim _ claims (rw c.in-Disagrees.is at fails)
