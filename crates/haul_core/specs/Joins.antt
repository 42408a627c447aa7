-- Joining hauls: two closed hauls of one job, whose sets share no number, become one haul.
use Rattle.std.specs.Prelude.{◌≡◌, ◌++◌, true, false, List, [], ◌∷◌, map, max}
use Rattle.haul_core.specs.declared.book.arrival.Arrival.{Arrival}
use Rattle.haul_core.specs.declared.book.arrival.Arrival.TheVariants.{Closing, Offer}
use Rattle.haul_core.specs.declared.book.haul.join.JoinError.{JoinError}
use Rattle.haul_core.specs.declared.book.haul.join.JoinError.TheVariants.{Memory, Open, OtherJob, Overlap}
use Rattle.haul_core.specs.Books.{Held, Terms, eligible, first_of_each}
use Rattle.survey_core.specs.Jobs.{same_job}
use Rattle.ranges.specs.Ranges.{IsNormalForm, ShareNumber}

-- both hauls are closed
pub record AreClosed (a b : Held) : Type 0 where
  pub first : a.closed ≡ true
  pub second : b.closed ≡ true

-- the two hauls can be joined, if there is memory
pub record CanJoin (a b : Held) : Type 0 where
  pub closed : AreClosed a b
  pub job : same_job a.terms.job b.terms.job ≡ true
  pub apart : ¬ ShareNumber a.terms.ranges b.terms.ranges

-- what holds if this error is returned; if several errors fit, the first of them in this order is returned
abbrev pub Hinders : Held → Held → JoinError → Type 0
Hinders a b Open = ¬ AreClosed a b
Hinders a b OtherJob = AreClosed a b × (same_job a.terms.job b.terms.job ≡ false)
Hinders a b Overlap = AreClosed a b × (same_job a.terms.job b.terms.job ≡ true) × ShareNumber a.terms.ranges b.terms.ranges
Hinders a b (Memory error) = CanJoin a b

-- The joined haul has the job, both sets and the larger of the two numbers of workers, and is closed. It has taken what
-- the first haul took, followed by what the second took.
pub record IsJoined (a b joined : Held) : Type 0 where
  pub job : joined.terms.job ≡ a.terms.job
  pub set : IsNormalForm (a.terms.ranges ++ b.terms.ranges) joined.terms.ranges
  pub workers : joined.terms.workers ≡ max a.terms.workers b.terms.workers
  pub closed : joined.closed ≡ true
  pub taken : joined.taken ≡ a.taken ++ b.taken

-- the taken offers among these arrivals
abbrev pub taken_offers : Terms → List Arrival → List Arrival
taken_offers terms arrivals = map (λ r. Offer r) (first_of_each (eligible terms arrivals))

-- the arrivals of a joined haul: the taken offers of the first haul, the taken offers of the second, and a closing
abbrev pub joined_arrivals : Terms → List Arrival → Terms → List Arrival → List Arrival
joined_arrivals a first b second = taken_offers a first ++ (taken_offers b second ++ Closing ∷ [])
