-- How `run --sizes` ends.
use Rattle.std.proofs.Common.{◌≡◌, ◌∙◌, ◌+◌, ◌-◌, ℕ, is_ok, IsErr, List, [], Option, Result, Ok, Err, ap, false, refl, subst, sym}
use Rattle.plane_core.specs.declared.plane.cell.Cell.{Cell}
use Rattle.plane_core.specs.plane.Rules.{Numbers}
use Rattle.pattern_commands.specs.declared.ending.complaint.Complaint.{Complaint}
use Rattle.pattern_commands.specs.declared.ending.complaint.Complaint.TheVariants.{Refused, Memory, ReadFailed, TooLong, WriteFailed}
use Rattle.pattern_commands.specs.declared.ending.status.Status.{Status}
use Rattle.pattern_commands.specs.declared.ending.status.Status.TheVariants as statuses
use Rattle.pattern_commands.specs.Answers.{IsInput, only, output_text}
use Rattle.pattern_commands.specs.Complaints.{complaint_line, status_of}
use Rattle.pattern_commands.specs.Ends.{Ends, HasLast, status_after}
use Rattle.pattern_commands.specs.Found.{Finds, HasFound, ruled_pattern}
use Rattle.pattern_commands.specs.Inputs.{rule_named}
use Rattle.pattern_commands.specs.SizeSteps.{PutsLines}
use Rattle.pattern_commands.specs.Sizes.{sizes_answer, sizes_behaviour, sizes_text}
use Rattle.pattern_commands.specs.Streams.{Stream, Has, HasLine, HasPrefix}
use Rattle.pattern_commands.specs.TextSteps.{ReachesText, TextOutcome, none_missing}
use Rattle.pattern_commands.proofs.FoundLemmas.{answer_from, answer_from_is, not_ok}
use Rattle.pattern_commands.proofs.TextLemmas.{text_ends}

module _ {V : Type 0} (text : List ℕ) (from last : ℕ) (remaining : V → Option (List ℕ)) (old new : V) (output errors : Stream) (status : Status) where
  abbrev ruled : List ℕ → Result (Numbers × List Cell) Complaint → Type 0
  ruled bytes found = ruled_pattern text bytes ≡ found

  -- the lines that `run --sizes` writes for a pattern: the sizes of generations `from` to `last`
  abbrev write : Numbers → List Cell → List ℕ
  write rule cells = sizes_text rule cells from (last + 1 - from)

  answer : (bytes : List ℕ) (found : Result (Numbers × List Cell) Complaint) → ruled bytes found → sizes_answer text from last bytes ≡ answer_from write found
  answer bytes found is = answer_from_is write text bytes ∙ ap (answer_from write) is

  reaches_unread : (bytes : List ℕ) (complaint : Complaint) → Finds (is_ok (rule_named text)) (ruled bytes) (Err complaint)
      → (is_ok (rule_named text) ≡ false → (status_of complaint ≡ statuses.Refused) × (new ≡ old)) → Has output []
      → ReachesText (is_ok (rule_named text)) false (only (sizes_answer text from last bytes)) (Err complaint) output
  reaches_unread bytes (Refused refusal) is refused nothing = (answer bytes (Err (Refused refusal)) is, nothing)
  reaches_unread bytes (Memory error) is refused nothing =
      (λ unread. let bad = (refused unread).0 in cc, λ other so. ([], output_text other, refl, nothing))
  reaches_unread bytes (ReadFailed error) is refused nothing = (is, nothing)
  reaches_unread bytes TooLong is refused nothing = (is.0, answer bytes (Err TooLong) is.1, nothing)
  reaches_unread bytes (WriteFailed error) is refused nothing = absurd is

  -- if the rule or the input was refused or couldn't be read, nothing is written but the complaint
  pub sizes_unread : (complaint : Complaint) → HasFound (is_ok (rule_named text)) ruled remaining old new (Err complaint) → Has output []
      → status ≡ status_of complaint → HasLine errors (complaint_line complaint)
      → (bytes : List ℕ) × IsInput (remaining old) bytes × Ends (sizes_behaviour text from last) (remaining old) bytes status output errors
  sizes_unread complaint found nothing ended line = (
    found.bytes,
    found.input,
    text_ends (is_ok (rule_named text)) false (λ bytes. only (sizes_answer text from last bytes)) (remaining old) found.bytes (Err complaint) status output errors
        (reaches_unread found.bytes complaint found.is found.refused nothing) ended line,
  )

  reaches_sizes : (bytes lines : List ℕ) (outcome : TextOutcome) → sizes_answer text from last bytes ≡ Ok lines
      → (is_ok (rule_named text) ≡ false → ⊥) → PutsLines (λ _. lines) lines outcome output
      → ReachesText (is_ok (rule_named text)) false (only (sizes_answer text from last bytes)) outcome output
  reaches_sizes bytes lines (Ok _) is read puts = ((lines, is, puts.0), puts.1)
  reaches_sizes bytes lines (Err (Memory error)) is read puts =
      (λ unread. absurd (read unread), λ other so. subst (λ some. HasPrefix output (output_text some)) (sym is ∙ so) puts)
  reaches_sizes bytes lines (Err (WriteFailed error)) is read puts = (
    (λ complaint so. let bad = sym is ∙ so in cc, λ other so. subst (λ some. HasPrefix output (output_text some)) (sym is ∙ so) puts.0),
    puts.1,
  )
  reaches_sizes bytes lines (Err (ReadFailed error)) is read puts = absurd puts
  reaches_sizes bytes lines (Err TooLong) is read puts = absurd puts
  reaches_sizes bytes lines (Err (Refused refusal)) is read puts = absurd puts

  module _ (rule : Numbers) (cells : List Cell) (found : HasFound (is_ok (rule_named text)) ruled remaining old new (Ok (rule, cells))) where
    -- a command that writes the lines of the pattern ends as its behaviour says
    pub sizes_end : (outcome : TextOutcome) → PutsLines (λ _. write rule cells) (write rule cells) outcome output
        → status ≡ status_after (none_missing outcome) → HasLast (none_missing outcome) errors
        → (bytes : List ℕ) × IsInput (remaining old) bytes × Ends (sizes_behaviour text from last) (remaining old) bytes status output errors
    sizes_end outcome puts ended line = (
      found.bytes,
      found.input,
      text_ends (is_ok (rule_named text)) false (λ bytes. only (sizes_answer text from last bytes)) (remaining old) found.bytes outcome status output errors
          (reaches_sizes found.bytes (write rule cells) outcome (answer found.bytes (Ok (rule, cells)) found.is) (λ unread. (found.refused unread).0) puts)
          ended line,
    )

    -- if a pattern was read, the rule isn't refused
    pub rule_kept : IsErr (rule_named text) → ⊥
    rule_kept refused = (found.refused (not_ok (rule_named text) refused)).0

  -- a command that has begun to write its lines refuses nothing
  pub sizes_refuse_nothing : (lines : List ℕ) (outcome : TextOutcome) → PutsLines (λ _. lines) lines outcome output
      → status ≡ status_after (none_missing outcome) → status ≡ statuses.Refused → ⊥
  sizes_refuse_nothing lines (Ok _) puts ended refused = let bad = sym ended ∙ refused in cc
  sizes_refuse_nothing lines (Err (Memory error)) puts ended refused = let bad = sym ended ∙ refused in cc
  sizes_refuse_nothing lines (Err (WriteFailed error)) puts ended refused = let bad = sym ended ∙ refused in cc
  sizes_refuse_nothing lines (Err (ReadFailed error)) puts ended refused = puts
  sizes_refuse_nothing lines (Err TooLong) puts ended refused = puts
  sizes_refuse_nothing lines (Err (Refused refusal)) puts ended refused = puts
