-- How every command ends.
pub use Rattle.pattern_commands.specs.Reached.{Outcome, Reaches}
use Rattle.std.specs.Prelude.{◌≡◌, ℕ, zero, suc, true, false, List, [], Option, Ok, Err}
use Rattle.pattern_commands.specs.declared.ending.status.Status.{Status}
use Rattle.pattern_commands.specs.declared.ending.status.Status.TheVariants as statuses
use Rattle.pattern_commands.specs.Complaints.{complaint_line, missing_line, status_of}
use Rattle.pattern_commands.specs.Streams.{Stream, Has, HasLine}
use Rattle.pattern_commands.specs.Behaviours.{Behaviour}

-- the last line of standard error: the number of missing soups, or the complaint, or nothing if all was done
abbrev pub last_line : Outcome → List ℕ
last_line (Ok zero) = []
last_line (Ok (suc n)) = missing_line (suc n)
last_line (Err complaint) = complaint_line complaint

-- the status of a command with this outcome
abbrev pub status_after : Outcome → Status
status_after (Ok zero) = statuses.Done
status_after (Ok (suc n)) = statuses.Incomplete
status_after (Err complaint) = status_of complaint

-- the last line was added to standard error, or a prefix of it if a write failed
abbrev pub HasLast : Outcome → Stream → Type 0
HasLast (Ok zero) errors = Has errors [] × (errors.failed ≡ false)
HasLast (Ok (suc n)) errors = HasLine errors (missing_line (suc n))
HasLast (Err complaint) errors = HasLine errors (complaint_line complaint)

-- How a command with this behaviour ends on an input. `so_far` is standard error before the last line.
pub record Ends (behaviour : Behaviour) (reader : Option (List ℕ)) (bytes : List ℕ) (status : Status) (output errors : Stream) : Type 0 where
  pub outcome : Outcome
  pub so_far : Stream
  pub from : so_far.before ≡ errors.before
  pub reached : Reaches behaviour reader bytes outcome output so_far
  pub stays : so_far.failed ≡ true → errors.failed ≡ true
  pub last : HasLast outcome (record { before = so_far.after; after = errors.after; failed = errors.failed })
  pub status_is : status ≡ status_after outcome
