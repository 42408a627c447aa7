use Rattle.laws.proofs.NameLemmas.{name_texts_are_faithful}
use Rattle.laws.proofs.names.name_texts_are_faithful.Goals as goal

pub returns : goal.returns
returns c = name_texts_are_faithful
