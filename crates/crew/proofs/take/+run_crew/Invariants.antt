use Rattle.std.proofs.Common.{length}
use Rattle.crew.proofs.take.+run_crew.Given as goal

abbrev pub decreases-run_crew : goal.decreases-run_crew
decreases-run_crew g l = length l.crew.now.endpoints.senders.items
