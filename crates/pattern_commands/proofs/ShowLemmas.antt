-- What `show` answers.
use Rattle.std.proofs.Common.{◌≡◌, ◌↔◌, ℕ, false, List, [], Result, Ok, Err, IsOk, refl}
use Rattle.std.specs.Result.{IsErrOf}
use Rattle.memory.specs.Witness.{out_of_memory}
use Rattle.plane_core.specs.declared.plane.cell.Cell.{Cell}
use Rattle.requests.specs.declared.form.PatternForm.{PatternForm}
use Rattle.code_core.specs.declared.reader.WechslerError.{WechslerError}
use Rattle.code_core.specs.declared.reader.WechslerError.TheVariants.{Fault, Memory}
use Rattle.code_core.specs.declared.reader.WechslerFault.{WechslerFault}
use Rattle.code_core.specs.declared.reader.WechslerFault.TheVariants.{TooLong, BadByte, ShortRun, Empty}
use Rattle.code_core.specs.Reading.{wechsler_read}
use Rattle.pattern_commands.specs.declared.ending.complaint.Complaint.{Complaint}
use Rattle.pattern_commands.specs.Answers.{only}
use Rattle.pattern_commands.specs.Found.{Finds, answer_with}
use Rattle.pattern_commands.specs.PatternText.{pattern_text}
use Rattle.pattern_commands.specs.Show.{reader_complaint, show_answer, text_in, wechsler_complaint}

show_answer-fault : (form : PatternForm) (code text : List ℕ) (fault : WechslerFault) → text_in code ≡ Ok text → wechsler_read text ≡ Err fault
    → show_answer form code ≡ Err (wechsler_complaint fault)
show_answer-fault form code text fault is read = rw (is, read) refl

-- if reading the code's text ran out of memory, the text has no fault, so the right answer is a pattern
show_answer-faultless : (form : PatternForm) (code text : List ℕ) → text_in code ≡ Ok text
    → ((fault : WechslerFault) → IsErrOf {T = List Cell} (Err (Memory out_of_memory)) (Fault fault) ↔ (wechsler_read text ≡ Err fault)) → IsOk (show_answer form code)
show_answer-faultless form code text is faults = go (wechsler_read text) refl
  where
    go : (read : Result (List Cell) WechslerFault) → wechsler_read text ≡ read → IsOk (show_answer form code)
    go (Ok cells) e = rw (is, e) refl
    go (Err fault) e = let bad = (faults fault).1 e in cc

faultless_refused : (form : PatternForm) (code : List ℕ) (complaint : Complaint) → IsOk (show_answer form code) → show_answer form code ≡ Err complaint → ⊥
faultless_refused form code complaint ok refused = let bad : IsOk {T = List ℕ} (Err complaint) = rw refused at ok in cc

-- if reading the text of a code failed, `show` may end with the complaint about the error
pub finds_fault : (form : PatternForm) (code text : List ℕ) (error : WechslerError) → text_in code ≡ Ok text
    → ((fault : WechslerFault) → IsErrOf {T = List Cell} (Err error) (Fault fault) ↔ (wechsler_read text ≡ Err fault))
    → Finds {A = List Cell} false (λ found. only (show_answer form code) (answer_with (pattern_text form) found)) (Err (reader_complaint error))
finds_fault form code text (Fault TooLong) is faults = show_answer-fault form code text TooLong is ((faults TooLong).0 refl)
finds_fault form code text (Fault (BadByte place)) is faults = show_answer-fault form code text (BadByte place) is ((faults (BadByte place)).0 refl)
finds_fault form code text (Fault (ShortRun place)) is faults = show_answer-fault form code text (ShortRun place) is ((faults (ShortRun place)).0 refl)
finds_fault form code text (Fault Empty) is faults = show_answer-fault form code text Empty is ((faults Empty).0 refl)
finds_fault form code text (Memory error) is faults =
    λ unread complaint refused. absurd (faultless_refused form code complaint (show_answer-faultless form code text is faults) refused)
