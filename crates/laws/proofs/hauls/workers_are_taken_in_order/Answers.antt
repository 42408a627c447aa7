use Rattle.laws.proofs.PartLemmas.{taken_of_worker}
use Rattle.laws.proofs.hauls.workers_are_taken_in_order.Goals as goal

pub returns : goal.returns
returns c = taken_of_worker
