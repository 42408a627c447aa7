-- The steps of `take --report-from`, once its haul is open.
use Rattle.std.specs.Prelude.{◌≡◌, ℕ, Bool, IfErr, IfOk, List, Option, Result, false}
use Rattle.haul_core.specs.Books.{Held}
use Rattle.haul_core.specs.Keeping.{numbers_in}
use Rattle.haul_core.specs.Missing.{AreAll, IsComplete}
use Rattle.plane_core.specs.Outputs.{Output}
use Rattle.crew.specs.Takes.{HasHeardCrew}
use Rattle.pattern_commands.specs.declared.ending.complaint.Complaint.{Complaint}
use Rattle.pattern_commands.specs.declared.ending.complaint.Complaint.TheVariants.{Refused, Memory, ReadFailed, TooLong, WriteFailed}
use Rattle.commands.specs.LateReports.{PutsReports}

-- a complaint after which no haul is printed: memory ran out (then no write of a line has failed), or a write failed
abbrev pub StopsReporting : Bool → Complaint → Type 0
StopsReporting failed (Memory error) = failed ≡ false
StopsReporting failed (WriteFailed error) = Unit {0}
StopsReporting failed (Refused refusal) = ⊥
StopsReporting failed (ReadFailed error) = ⊥
StopsReporting failed TooLong = ⊥

-- a crew has taken soups of a haul, and `PutsReports` holds for the reports of its workers
abbrev pub HasPutBy : {V : Type 0} → (V → Option (List ℕ)) → (workers from : ℕ) → (opened held : Held) → (old new : Output V) → Type 0
HasPutBy contents workers from opened held old new =
    HasHeardCrew (λ worker number. Unit {0}) workers opened held (PutsReports contents from old new)

-- A crew has taken soups of a haul, and `PutsReports` holds for the reports of its workers. If nothing stopped the
-- crew, the haul is complete, and no write has failed.
pub record HasReportedBy {V : Type 0} (contents : V → Option (List ℕ)) (workers from : ℕ) (opened held : Held) (old new : Output V)
    (taken : Result (Unit {0}) Complaint) : Type 0 where
  pub heard : HasPutBy contents workers from opened held old new
  pub whole : IfOk taken (λ _. (new.failed ≡ false) × IsComplete held.terms.ranges held.taken × AreAll held.terms.ranges (numbers_in held.taken))
  pub stops : IfErr taken (StopsReporting new.failed)
