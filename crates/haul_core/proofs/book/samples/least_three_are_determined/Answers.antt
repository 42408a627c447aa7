use Rattle.haul_core.proofs.LeastLemmas.{determined}
use Rattle.haul_core.proofs.book.samples.least_three_are_determined.Goals as goal

pub returns : goal.returns
returns c = determined
