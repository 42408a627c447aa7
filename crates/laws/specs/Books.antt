-- Laws of what a haul takes: which of the reports that are offered to it, in which order, and from which workers.
use Rattle.std.specs.Prelude.{◌≡◌, ◌≤◌, ℕ, All, true, List, count_by, filter, map, nat_eq}
use Rattle.haul_core.specs.declared.book.arrival.Arrival.{Arrival}
use Rattle.haul_core.specs.Books.{Terms, eligible, entry, has_number, offered, taken_of}
use Rattle.haul_core.specs.Keeping.{numbers_in}
use Rattle.haul_core.specs.Missing.{is_taken}
use Rattle.haul_core.specs.Refusals.{first_worker}
use Rattle.haul_core.specs.Replies.{worker_in}
use Rattle.haul_core.specs.Subsequences.{IsSubsequence}
use Rattle.std.specs.List.{list_any}
use Rattle.ranges.specs.Ranges.{is_in}

-- the entries of one worker; an entry is the worker and the number of a report
abbrev pub of_worker : ℕ → List (ℕ × ℕ) → List (ℕ × ℕ)
of_worker worker entries = filter (λ t. nat_eq t.0 worker) entries

-- the entries taken from a worker: a subsequence of its offers before any closing, with distinct numbers of the set
pub record IsTakenOf (terms : Terms) (arrivals : List Arrival) (worker : ℕ) : Type 0 where
  pub part : IsSubsequence (of_worker worker (taken_of terms arrivals)) (of_worker worker (map entry (offered arrivals)))
  pub once : (n : ℕ) → count_by (nat_eq n) (numbers_in (of_worker worker (taken_of terms arrivals))) ≤ 1
  pub within : All (λ t. is_in terms.ranges t.1 ≡ true) (of_worker worker (taken_of terms arrivals))

-- whatever arrives, a haul takes from each worker some of what the worker offered, in the same order
abbrev pub WorkersAreTakenInOrder : Type 0
WorkersAreTakenInOrder = (terms : Terms) (arrivals : List Arrival) (worker : ℕ) → IsTakenOf terms arrivals worker

-- a number is taken if and only if some eligible offer has it, and then from the worker of the first such offer
pub record IsTakenByFirst (terms : Terms) (arrivals : List Arrival) (n : ℕ) : Type 0 where
  pub taken : is_taken (taken_of terms arrivals) n ≡ list_any (has_number n) (eligible terms arrivals)
  pub worker : worker_in n (taken_of terms arrivals) ≡ first_worker n (eligible terms arrivals)

-- whatever arrives, a haul takes each number that some eligible offer has, from the worker of the first such offer
abbrev pub FirstOffersAreTaken : Type 0
FirstOffersAreTaken = (terms : Terms) (arrivals : List Arrival) (n : ℕ) → IsTakenByFirst terms arrivals n
