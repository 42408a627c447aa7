use Rattle.laws.proofs.ForGoodLemmas.{findings_for_good}
use Rattle.laws.proofs.surveys.findings_for_good.Goals as goal

pub returns : goal.returns
returns c = findings_for_good
