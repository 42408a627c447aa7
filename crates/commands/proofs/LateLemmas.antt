-- What is written for a single report (`PutsReports`): its line, if its soup is late and no write has failed.
use Rattle.std.proofs.Common.{◌≡◌, ◌∙◌, ◌∷◌, ℕ, All, Bool, List, [], Ok, Err, Option, Result, ap, append-nil, false, refl, subst, sym, true, true≢false}
use Rattle.std.specs.Prelude.{if◌then◌else◌}
use Rattle.std.specs.Io.KnownBytes.{Appends}
use Rattle.std.proofs.KnownBytes.{Appends-nil}
use Rattle.std.proofs.lemmas.List.Elements.{All-cons, All-nil}
use Rattle.plane_core.specs.Outputs.{AppendsPrefix, Output, Writes}
use Rattle.haul_core.specs.ReportLines.{report_text}
use Rattle.haul_core.specs.Reports.{IsReport, Reported}
use Rattle.commands.specs.LateReports.{PutsReports, is_late, late_lines}

module _ {V : Type 0} (contents : V → Option (List ℕ)) (from : ℕ) (report : Reported) (right : IsReport report) where
  all_right : All IsReport (report ∷ [])
  all_right = All-cons IsReport report [] right (All-nil IsReport)

  lines_are : (b : Bool) → is_late from report.finding ≡ b → late_lines from (report ∷ []) ≡ (if b then report_text report else [])
  lines_are b is = append-nil _ ∙ ap (λ (c : Bool). if c then report_text report else []) is

  -- if the report's soup isn't late, nothing is written
  pub put_early : (s : Output V) → is_late from report.finding ≡ false → PutsReports contents from s s (report ∷ [])
  put_early s early = record {
    right = all_right;
    whole = λ fine. (fine, subst (Appends (contents s.writer) (contents s.writer)) (sym (lines_are false early)) (Appends-nil _));
    prefix = ([], _, refl, Appends-nil _);
    stays = λ failed. refl;
  }

  -- after a failed write, nothing is written for a report
  pub put_after_failure : (s : Output V) → s.failed ≡ true → PutsReports contents from s s (report ∷ [])
  put_after_failure s failed = record {
    right = all_right;
    whole = λ fine. absurd (true≢false (sym failed ∙ fine));
    prefix = ([], _, refl, Appends-nil _);
    stays = λ again. refl;
  }

  -- if the report's soup is late, the report's line is written, or a prefix of the line if the write fails
  pub put_late : {E : Type 0} (s t : Output V) (result : Result (Unit {0}) E) → is_late from report.finding ≡ true → s.failed ≡ false
      → Writes contents s t result (report_text report) → PutsReports contents from s t (report ∷ [])
  put_late s t (Ok done) late fine put = record {
    right = all_right;
    whole = λ still. (fine, all);
    prefix = (_, [], sym (append-nil _), all);
    stays = λ failed. absurd (true≢false (sym failed ∙ fine));
  }
    where
      all : Appends (contents s.writer) (contents t.writer) (late_lines from (report ∷ []))
      all = subst (Appends (contents s.writer) (contents t.writer)) (sym (lines_are true late)) put.whole
  put_late s t (Err e) late fine put = record {
    right = all_right;
    whole = λ still. absurd (true≢false (sym put.remembers ∙ still));
    prefix = subst (AppendsPrefix (contents s.writer) (contents t.writer)) (sym (lines_are true late)) put.prefix;
    stays = λ failed. absurd (true≢false (sym failed ∙ fine));
  }
