-- The book: which reports a haul takes, whatever arrives and in whatever order.
use Rattle.std.specs.Prelude.{◌≡◌, ◌==◌, ◌&&◌, ℕ, Bool, true, false, not, List, [], ◌∷◌, filter, map, nat_le}
use Rattle.std.specs.List.{list_any}
use Rattle.survey_core.specs.declared.job.Job.{Job}
use Rattle.haul_core.specs.declared.book.arrival.Arrival.{Arrival}
use Rattle.haul_core.specs.declared.book.arrival.Arrival.TheVariants.{Closing, Offer}
use Rattle.ranges.specs.declared.range.Range.{Range}
use Rattle.survey_core.specs.Jobs.{same_job}
use Rattle.ranges.specs.Ranges.{is_in}
use Rattle.haul_core.specs.Reports.{Reported}

-- what a haul is opened for: a job, a set of soup numbers, and a number of workers
pub record Terms : Type 0 where
  pub job : Job
  pub ranges : List Range
  pub workers : ℕ

abbrev pub is_closing : Arrival → Bool
is_closing (Offer report) = false
is_closing Closing = true

-- one of the arrivals is a closing
abbrev pub has_closing : List Arrival → Bool
has_closing arrivals = list_any is_closing arrivals

-- the reports that are offered before any closing
abbrev pub offered : List Arrival → List Reported
offered [] = []
offered (Offer report ∷ more) = report ∷ offered more
offered (Closing ∷ more) = []

-- the report is for the haul's job, by one of the haul's workers, and on a soup whose number is in the haul's set
abbrev pub is_lawful : Terms → Reported → Bool
is_lawful terms r = same_job terms.job r.job && (nat_le r.worker terms.workers && is_in terms.ranges r.number)

-- the eligible offers: the reports that are lawful and are offered before any closing
abbrev pub eligible : Terms → List Arrival → List Reported
eligible terms arrivals = filter (is_lawful terms) (offered arrivals)

-- the report is of the soup with this number
abbrev pub has_number : ℕ → Reported → Bool
has_number n r = n == r.number

-- the first report of each number
abbrev pub first_of_each : List Reported → List Reported
first_of_each [] = []
first_of_each (r ∷ more) = r ∷ filter (λ s. not (has_number r.number s)) (first_of_each more)

-- the worker and the number of a report
abbrev pub entry : Reported → ℕ × ℕ
entry r = (r.worker, r.number)

-- The worker and the number of each report that is taken, in order. An offer is taken if it is eligible and no earlier
-- eligible offer has its number.
abbrev pub taken_of : Terms → List Arrival → List (ℕ × ℕ)
taken_of terms arrivals = map entry (first_of_each (eligible terms arrivals))

-- what contracts see of a haul: what it was opened for, whether it is closed, and the worker and number of each report
-- taken, in order
pub record Held : Type 0 where
  pub terms : Terms
  pub closed : Bool
  pub taken : List (ℕ × ℕ)

-- the arrivals lead to this haul: it has taken what the book takes, and is closed exactly if an arrival is a closing
pub record StandsFor (arrivals : List Arrival) (held : Held) : Type 0 where
  pub taken : held.taken ≡ taken_of held.terms arrivals
  pub closed : held.closed ≡ has_closing arrivals
