use Rattle.laws.proofs.LimitLemmas.{settled_stay_settled, unsettled_settle_later}
use Rattle.laws.proofs.surveys.higher_limits_settle_no_less.Goals as goal

pub returns-clause-settled : goal.returns-clause-settled
returns-clause-settled c = settled_stay_settled

pub returns-clause-unsettled : goal.returns-clause-unsettled
returns-clause-unsettled c = unsettled_settle_later
