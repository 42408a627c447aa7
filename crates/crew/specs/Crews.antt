-- A crew: what its workers report, and what becomes of the haul.
use Rattle.std.specs.Prelude.{◌≡◌, ◌<◌, ◌≤◌, ◌+◌, ◌++◌, ◌⊎◌, ℕ, Bool, true, false, All, List, [], ◌∷◌, None, count_by, flat_map, map}
use Rattle.haul_core.specs.Books.{Held, StandsFor, entry, is_lawful}
use Rattle.haul_core.specs.Missing.{is_taken}
use Rattle.haul_core.specs.Refusals.{refusal_of}
use Rattle.haul_core.specs.Subsequences.{IsSubsequence}
use Rattle.haul_core.specs.Reports.{Reported}
use Rattle.haul_core.specs.declared.book.arrival.Arrival.{Arrival}
use Rattle.haul_core.specs.declared.book.arrival.Arrival.TheVariants.{Offer}
use Rattle.handover.specs.Belts.{Received}
use Rattle.crew.specs.declared.note.Note.{Note}
use Rattle.crew.specs.declared.note.Note.TheVariants.{Done, Report}

-- the report in a note, if there is one
abbrev pub report_in : Note → List Reported
report_in (Report report) = report ∷ []
report_in (Done worker) = []

-- the reports among what was received, in order
abbrev pub reports_in : List (ℕ × Note) → List Reported
reports_in got = flat_map (λ m. report_in m.1) got

-- the note says that a worker is done
abbrev pub is_done : Note → Bool
is_done (Report report) = false
is_done (Done worker) = true

-- how many of the notes say that a worker is done
abbrev pub dones : List (ℕ × Note) → ℕ
dones got = count_by (λ m. is_done m.1) got

-- nothing was received, or the last note says that a worker is done
abbrev pub EndsDone : List (ℕ × Note) → Type 0
EndsDone got = (got ≡ []) ⊎ ((prefix : List (ℕ × Note)) × (sender : ℕ) × (worker : ℕ) × (got ≡ prefix ++ (sender, Done worker) ∷ []))

-- A haul has taken these reports, in this order. Any arrivals that lead to the old state, followed by offers of these
-- reports, lead to the new state.
pub record HasAdded (reports : List Reported) (old new : Held) : Type 0 where
  pub terms : new.terms ≡ old.terms
  pub closed : new.closed ≡ old.closed
  pub taken : new.taken ≡ old.taken ++ map entry reports
  pub stands : (arrivals : List Arrival) → StandsFor arrivals old → StandsFor (arrivals ++ map Offer reports) new

-- Any arrivals that lead to the old state, followed by offers of all these reports, lead to the new state.
abbrev pub HasComeAll : List Reported → Held → Held → Type 0
HasComeAll reports old new = (arrivals : List Arrival) → StandsFor arrivals old → StandsFor (arrivals ++ map Offer reports) new

-- A haul has taken only the reports in `part`. One report among `reports` was lost, although the book would take it
-- after the reports in `before`.
pub record HasLost (reports part : List Reported) (old : Held) : Type 0 where
  pub before : List Reported
  pub report : Reported
  pub later : List Reported
  pub taken : part ≡ before ++ later
  pub some : IsSubsequence (before ++ report ∷ later) reports
  pub eligible : (arrivals : List Arrival) → StandsFor arrivals old → refusal_of old.terms (arrivals ++ map Offer before) report ≡ None

-- if the haul is open and the report is lawful, the report's soup was taken, from this report or from another
abbrev pub HasSoupOf : Held → Reported → Type 0
HasSoupOf held report = held.closed ≡ false → is_lawful held.terms report ≡ true → is_taken held.taken report.number ≡ true

-- the state of a collector: how many workers it still waits for, what it has received, and its haul
pub record Collector : Type 0 where
  pub awaited : ℕ
  pub receiver : Received Note
  pub haul : Held

-- a collector with these parts
abbrev pub collector_with : ℕ → Received Note → Held → Collector
collector_with awaited receiver haul = record { awaited = awaited; receiver = receiver; haul = haul }

-- Notes were received from the workers, and each note "done" reduces the number of awaited workers by one. If no worker
-- is awaited any more, the last note, if any, is a note "done". The haul has taken some of the reports among the notes.
-- If `answered`, it has taken all that the book takes, so `HasSoupOf` holds for each report. Otherwise one was lost.
pub record Collected (before after : Collector) (answered : Bool) : Type 0 where
  pub notes : List (ℕ × Note)
  pub belt : after.receiver.belt ≡ before.receiver.belt
  pub got : after.receiver.got ≡ before.receiver.got ++ notes
  pub senders : All (λ m. (1 ≤ m.0) × (m.0 ≤ before.receiver.belt.workers)) notes
  pub done : dones notes + after.awaited ≡ before.awaited
  pub ends : (0 < after.awaited) ⊎ EndsDone notes
  pub part : List Reported
  pub some : IsSubsequence part (reports_in notes)
  pub added : HasAdded part before.haul after.haul
  pub all : answered ≡ true → HasComeAll (reports_in notes) before.haul after.haul
  pub soups : answered ≡ true → All (HasSoupOf after.haul) (reports_in notes)
  pub lost : answered ≡ false → HasLost (reports_in notes) part before.haul

-- Notes were received, and an observer was handed the reports among them, in order: `hears` holds for these reports.
pub record HasHeard (old new : Received Note) (hears : List Reported → Type 0) : Type 0 where
  pub notes : List (ℕ × Note)
  pub got : new.got ≡ old.got ++ notes
  pub heard : hears (reports_in notes)
