-- What `run` finds: the pattern after a number of generations.
use Rattle.std.proofs.Common.{◌≡◌, ◌∙◌, ℕ, IfErr, IfOk, is_ok, List, Option, Result, Ok, Err, ap, refl, sym}
use Rattle.memory.specs.Witness.{out_of_memory}
use Rattle.plane_core.specs.declared.plane.cell.Cell.{Cell}
use Rattle.plane_core.specs.plane.Generations.{after}
use Rattle.plane_core.specs.plane.Rules.{Numbers}
use Rattle.requests.specs.declared.form.PatternForm.{PatternForm}
use Rattle.pattern_commands.specs.declared.ending.complaint.Complaint.{Complaint}
use Rattle.pattern_commands.specs.declared.ending.complaint.Complaint.TheVariants.{Memory}
use Rattle.pattern_commands.specs.Answers.{only}
use Rattle.pattern_commands.specs.Found.{HasFound, answer_with, ruled_pattern}
use Rattle.pattern_commands.specs.Inputs.{rule_named}
use Rattle.pattern_commands.specs.PatternText.{pattern_text}
use Rattle.pattern_commands.specs.Run.{run_answer}
use Rattle.pattern_commands.proofs.FoundLemmas.{answer_from, answer_from_is, found_err, found_memory, found_ok}

module _ {V : Type 0} (text : List ℕ) (n : ℕ) (remaining : V → Option (List ℕ)) (old new : V) where
  abbrev ruled : List ℕ → Result (Numbers × List Cell) Complaint → Type 0
  ruled bytes found = ruled_pattern text bytes ≡ found

  abbrev write : PatternForm → Numbers → List Cell → List ℕ
  write form rule cells = pattern_text form (after rule cells n)

  abbrev later : List ℕ → Result (List Cell) Complaint → Type 0
  later bytes found = (form : PatternForm) → only (run_answer form text n bytes) (answer_with (pattern_text form) found)

  -- the rule or the input was refused, or the input couldn't be read
  pub found_no_generation : (complaint : Complaint) → HasFound (is_ok (rule_named text)) ruled remaining old new (Err complaint)
      → HasFound (is_ok (rule_named text)) later remaining old new (Err complaint)
  found_no_generation complaint found =
      found_err _ ruled later remaining old new complaint (λ bytes other is form. answer_from_is (write form) text bytes ∙ ap (answer_from (write form)) is) found

  -- the pattern was run, or memory ran out
  pub found_generation : (rule : Numbers) (cells : List Cell) (found : Result (List Cell) Complaint)
      → HasFound (is_ok (rule_named text)) ruled remaining old new (Ok (rule, cells)) → IfOk found (λ now. now ≡ after rule cells n)
      → IfErr found (λ complaint. complaint ≡ Memory out_of_memory) → HasFound (is_ok (rule_named text)) later remaining old new found
  found_generation rule cells (Ok now) read is failed =
      found_ok _ ruled later remaining old new (rule, cells) now
      (λ bytes so form. answer_from_is (write form) text bytes ∙ ap (answer_from (write form)) so ∙ ap (λ some. Ok (pattern_text form some)) (sym is)) read
  found_generation rule cells (Err complaint) read is failed =
      rw failed (found_memory _ ruled later remaining old new (rule, cells) out_of_memory read)
