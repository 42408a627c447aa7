-- A haul takes each number that some eligible offer has, and takes it from the worker of the first such offer.
use Rattle.std.proofs.Common.{◌∙◌, ap}
use Rattle.std.specs.Prelude.{option_map}
use Rattle.haul_core.specs.Books.{eligible, first_of_each}
use Rattle.haul_core.specs.Reports.{Reported}
use Rattle.haul_core.proofs.BookLemmas.{find_first, worker_found}
use Rattle.commands.proofs.TakenLemmas.{taken_if_eligible}
use Rattle.laws.specs.Books.{FirstOffersAreTaken}

pub first_offers_are_taken : FirstOffersAreTaken
first_offers_are_taken terms arrivals n = record {
  taken = taken_if_eligible terms arrivals n;
  worker = worker_found n (first_of_each (eligible terms arrivals))
      ∙ ap (option_map (λ (r : Reported). r.worker)) (find_first n (eligible terms arrivals));
}
