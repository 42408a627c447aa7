use Rattle.laws.proofs.BookLemmas.{first_offers_are_taken}
use Rattle.laws.proofs.hauls.first_offers_are_taken.Goals as goal

pub returns : goal.returns
returns c = first_offers_are_taken
