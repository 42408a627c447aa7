use Rattle.laws.proofs.SoupLemmas.{soups_are_faithful}
use Rattle.laws.proofs.surveys.soups_are_faithful.Goals as goal

pub returns : goal.returns
returns c = soups_are_faithful
