use Rattle.laws.proofs.ForGoodLemmas.{for_good_comes_back}
use Rattle.laws.proofs.surveys.for_good_comes_back.Goals as goal

pub returns : goal.returns
returns c = for_good_comes_back
