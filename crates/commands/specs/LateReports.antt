-- The report lines of late soups. A soup is late if it is unsettled, or its checkpoint is a given generation or later.
use Rattle.std.specs.Prelude.{◌≡◌, ℕ, All, Bool, List, [], Option, false, flat_map, if◌then◌else◌, nat_le, true}
use Rattle.std.specs.Io.KnownBytes.{Appends}
use Rattle.plane_core.specs.Outputs.{AppendsPrefix, Output}
use Rattle.survey_core.specs.declared.finding.Finding.{Finding}
use Rattle.survey_core.specs.declared.finding.Finding.TheVariants.{Settled, Unsettled}
use Rattle.haul_core.specs.ReportLines.{report_text}
use Rattle.haul_core.specs.Reports.{IsReport, Reported}

-- the soup is unsettled, or its checkpoint is `from` or later
abbrev pub is_late : ℕ → Finding → Bool
is_late from (Settled checkpoint objects for_good) = nat_le from checkpoint
is_late from Unsettled = true

-- the line of a report, if its soup is late
abbrev pub late_line : ℕ → Reported → List ℕ
late_line from report = if is_late from report.finding then report_text report else []

-- the lines of the reports whose soups are late, in the order of the reports
abbrev pub late_lines : ℕ → List Reported → List ℕ
late_lines from reports = flat_map (late_line from) reports

-- These reports are right, and the report lines of late soups were written to a writer: all of these lines if no write
-- failed, and otherwise a prefix of their text. Nothing is written after a failed write.
pub record PutsReports {V : Type 0} (contents : V → Option (List ℕ)) (from : ℕ) (old new : Output V) (reports : List Reported) : Type 0 where
  pub right : All IsReport reports
  pub whole : new.failed ≡ false → (old.failed ≡ false) × Appends (contents old.writer) (contents new.writer) (late_lines from reports)
  pub prefix : AppendsPrefix (contents old.writer) (contents new.writer) (late_lines from reports)
  pub stays : old.failed ≡ true → new ≡ old
