-- Report lines: what each of them says, and its effect on a haul.
use Rattle.std.specs.Prelude.{◌≡◌, ◌<◌, ◌≤◌, ◌⊎◌, ◌^◌, ◌++◌, ℕ, suc, true, false, List, [], ◌∷◌, Option, None, Some, Result, Ok, Err, codes, decimal, length, take}
use Rattle.survey_core.specs.declared.finding.Finding.{Finding}
use Rattle.survey_core.specs.declared.job.Job.{Job}
use Rattle.haul_core.specs.declared.book.arrival.Arrival.{Arrival}
use Rattle.haul_core.specs.declared.book.arrival.Arrival.TheVariants.{Offer}
use Rattle.haul_core.specs.declared.book.refused.OfferError.{OfferError}
use Rattle.haul_core.specs.declared.book.refused.OfferError.TheVariants as offer_error
use Rattle.haul_core.specs.Books.{Terms}
use Rattle.haul_core.specs.Refusals.{refusal_of}
use Rattle.haul_core.specs.ClaimChecks.{Agrees, IsConfirmed, IsFoundFor}
use Rattle.haul_core.specs.Claims.{IsFirstFaultOf}
use Rattle.survey_core.specs.Jobs.{same_job}
use Rattle.haul_core.specs.ReportLines.{claim_line}
use Rattle.haul_core.specs.LawfulClaims.{Claimed, IsClaim}
use Rattle.haul_core.specs.Reports.{Reported}
use Rattle.commands.specs.declared.line_fault.LineFault.{LineFault}
use Rattle.commands.specs.declared.line_fault.LineFault.TheVariants.{BadLine, OtherJob, Disagrees, UnknownWorker, OutOfRange, Double}

-- the line is the text of this claim, which is lawful
pub record Claims (line : List ℕ) (claim : Claimed) : Type 0 where
  pub lawful : IsClaim claim
  pub spelled : claim_line claim ≡ line

-- the claim is wrong: it agrees with no finding of its soup
abbrev pub IsWrong : Claimed → Type 0
IsWrong claim = (finding : Finding) → IsFoundFor claim finding → ¬ Agrees claim finding

-- A line is a report of the job, or it has a fault: it doesn't spell a claim, its claim is of another job, or its claim
-- is wrong.
abbrev pub IsChecked : Job → List ℕ → Result Reported LineFault → Type 0
IsChecked job line (Ok report) = (claim : Claimed) × Claims line claim × IsConfirmed claim job report
IsChecked job line (Err (BadLine place)) = IsFirstFaultOf line place
IsChecked job line (Err OtherJob) = (claim : Claimed) × Claims line claim × (same_job claim.job job ≡ false)
IsChecked job line (Err Disagrees) = (claim : Claimed) × Claims line claim × (same_job claim.job job ≡ true) × IsWrong claim
IsChecked job line (Err _) = ⊥

-- A line that is longer than 2^24 bytes, and begins with this prefix of 2^24 bytes, is bad at this place: the first
-- fault of the prefix, or 2^24 if the prefix is a claim's line.
abbrev pub IsPrefixFault : List ℕ → ℕ → Type 0
IsPrefixFault prefix place = IsFirstFaultOf prefix place ⊎ ((claim : Claimed) × Claims prefix claim × (place ≡ 2 ^ 24))

-- A line of up to 2^24 bytes is examined completely. A longer one is bad, and only its first 2^24 bytes are examined.
pub data IsExamined (job : Job) (line : List ℕ) : Result Reported LineFault → Type 0 where
  Whole : {outcome : Result Reported LineFault} → length line ≤ 2 ^ 24 → IsChecked job line outcome → IsExamined job line outcome
  Prefix : (place : ℕ) → 2 ^ 24 < length line → IsPrefixFault (take (2 ^ 24) line) place → IsExamined job line (Err (BadLine place))

-- The fault of a report's line if the haul refuses the report for one of these three reasons, and otherwise `None`. The
-- only other reasons are a closed haul, a report of another job, and out of memory.
abbrev pub offer_fault : Reported → Option OfferError → Option LineFault
offer_fault report (Some offer_error.UnknownWorker) = Some (UnknownWorker report.worker)
offer_fault report (Some offer_error.OutOfRange) = Some (OutOfRange report.number)
offer_fault report (Some (offer_error.Double worker)) = Some (Double report.number worker)
offer_fault report _ = None

-- The effect of a line on a haul that has had these arrivals before: the arrival that the line causes, if any, and the
-- fault that is reported about the line, if any.
pub data ComesOf (terms : Terms) (before : List Arrival) (line : List ℕ) : List Arrival → Option LineFault → Type 0 where
  Faulty : (fault : LineFault) → IsExamined terms.job line (Err fault) → ComesOf terms before line [] (Some fault)
  Offered : (report : Reported) → IsExamined terms.job line (Ok report)
      → ComesOf terms before line (Offer report ∷ []) (offer_fault report (refusal_of terms before report))

-- the text of a fault
abbrev pub line_fault_text : LineFault → List ℕ
line_fault_text (BadLine place) = codes "bad line at " ++ decimal place
line_fault_text OtherJob = codes "other job"
line_fault_text Disagrees = codes "disagrees"
line_fault_text (UnknownWorker worker) = codes "unknown worker " ++ decimal worker
line_fault_text (OutOfRange number) = codes "out of range " ++ decimal number
line_fault_text (Double number worker) = codes "double of " ++ decimal number ++ (codes " by " ++ decimal worker)

-- the diagnostic about line `number`, counted from 1
abbrev pub fault_line : ℕ → LineFault → List ℕ
fault_line number fault = codes "line " ++ decimal number ++ (codes ": " ++ (line_fault_text fault ++ codes "\n"))

-- the diagnostic about a line, if it has a fault
abbrev pub fault_lines : ℕ → Option LineFault → List ℕ
fault_lines number None = []
fault_lines number (Some fault) = fault_line number fault

-- The arrivals that lines cause, one after another, in a haul that is empty at first, and the diagnostics about the
-- lines.
pub data Gathered (terms : Terms) : List (List ℕ) → List Arrival → List ℕ → Type 0 where
  Start : Gathered terms [] [] []
  Next : (lines : List (List ℕ)) (before : List Arrival) (diagnostics : List ℕ) (line : List ℕ) (arrived : List Arrival) (fault : Option LineFault)
      → Gathered terms lines before diagnostics → ComesOf terms before line arrived fault
      → Gathered terms (lines ++ line ∷ []) (before ++ arrived) (diagnostics ++ fault_lines (suc (length lines)) fault)
