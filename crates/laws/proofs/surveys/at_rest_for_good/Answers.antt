use Rattle.laws.proofs.ForGoodLemmas.{at_rest_for_good, empty_is_at_rest}
use Rattle.laws.proofs.surveys.at_rest_for_good.Goals as goal

pub returns-clause-empty : goal.returns-clause-empty
returns-clause-empty c = empty_is_at_rest

pub returns-clause-forever : goal.returns-clause-forever
returns-clause-forever c = at_rest_for_good
