use Rattle.laws.proofs.EndLemmas.{split_work_ends}
use Rattle.laws.proofs.SplitLemmas.{split_work_is_whole}
use Rattle.laws.proofs.gathering.split_work_is_whole.Goals as goal

pub returns-clause-whole : goal.returns-clause-whole
returns-clause-whole c = split_work_is_whole

pub returns-clause-ends : goal.returns-clause-ends
returns-clause-ends c = split_work_ends
