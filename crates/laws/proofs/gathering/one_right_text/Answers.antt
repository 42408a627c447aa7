use Rattle.laws.proofs.SplitLemmas.{one_right_text}
use Rattle.laws.proofs.gathering.one_right_text.Goals as goal

pub returns : goal.returns
returns c = one_right_text
