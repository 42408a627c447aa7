use Rattle.laws.proofs.CountLemmas.{counts_add_up}
use Rattle.laws.proofs.surveys.counts_add_up.Goals as goal

pub returns : goal.returns
returns c = counts_add_up
