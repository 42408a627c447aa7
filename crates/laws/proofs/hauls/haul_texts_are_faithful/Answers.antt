use Rattle.laws.proofs.HaulTextLemmas.{haul_texts_are_faithful}
use Rattle.laws.proofs.ShortLemmas.{haul_censuses_are_short}
use Rattle.laws.proofs.hauls.haul_texts_are_faithful.Goals as goal

pub returns-clause-faithful : goal.returns-clause-faithful
returns-clause-faithful c = haul_texts_are_faithful

pub returns-clause-hauls : goal.returns-clause-hauls
returns-clause-hauls c = haul_censuses_are_short
