-- Steps of the commands for a single pattern: what a command finds before it writes anything, and how it ends then.
use Rattle.std.specs.Prelude.{◌≡◌, ◌+◌, ◌^◌, ◌⊎◌, ℕ, Bool, true, false, List, [], Option, Result, Ok, Err, IsErrAnd}
use Rattle.plane_core.specs.declared.output.WriteError.{WriteError as Fault}
use Rattle.plane_core.specs.declared.plane.cell.Cell.{Cell}
use Rattle.plane_core.specs.Outputs.{Output}
use Rattle.plane_core.specs.plane.Rules.{Numbers}
use Rattle.pattern_commands.specs.declared.ending.complaint.Complaint.{Complaint}
use Rattle.pattern_commands.specs.declared.ending.complaint.Complaint.TheVariants.{Refused, Memory, ReadFailed, TooLong, WriteFailed}
use Rattle.pattern_commands.specs.declared.ending.status.Status.{Status}
use Rattle.pattern_commands.specs.declared.ending.status.Status.TheVariants as statuses
use Rattle.pattern_commands.specs.Answers.{Answer, IsInput, NeedsMemory, given}
use Rattle.pattern_commands.specs.Complaints.{complaint_line, status_of, write_failed_line}
use Rattle.pattern_commands.specs.Inputs.{HasReadAtMost, pattern_of, rule_named}
use Rattle.pattern_commands.specs.Streams.{Stream, Has, HasLine, HasPrefix, stream}

-- the answer of a command that writes the text of what it found
abbrev pub answer_with : {A : Type 0} → (A → List ℕ) → Result A Complaint → Answer
answer_with text (Ok x) = Ok (text x)
answer_with text (Err complaint) = Err complaint

-- What a command may have found before it writes anything: a value, a refusal or `TooLong`, which has to be right; or
-- that memory ran out or a read failed. `reads`: the command reads its input.
abbrev pub Finds : {A : Type 0} → Bool → (Result A Complaint → Type 0) → Result A Complaint → Type 0
Finds reads right (Ok x) = right (Ok x)
Finds reads right (Err (Refused refusal)) = right (Err (Refused refusal))
Finds reads right (Err (Memory error)) = reads ≡ false → (complaint : Complaint) → right (Err complaint) → NeedsMemory complaint
Finds reads right (Err (ReadFailed error)) = reads ≡ true
Finds reads right (Err TooLong) = (reads ≡ true) × right (Err TooLong)
Finds reads right (Err (WriteFailed error)) = ⊥

-- What a command has found from its input. `old` and `new` are the reader before and after, and `remaining` is what a
-- reader has left, if that is known. If the command doesn't read its input, it has found a refusal.
pub record HasFound {A V : Type 0} (reads : Bool) (right : List ℕ → Result A Complaint → Type 0) (remaining : V → Option (List ℕ)) (old new : V) (found : Result A Complaint) : Type 0 where
  pub bytes : List ℕ
  pub input : IsInput (remaining old) bytes
  pub is : Finds reads (right bytes) found
  pub refused : reads ≡ false → IsErrAnd found (λ complaint. status_of complaint ≡ statuses.Refused) × (new ≡ old)
  pub little : HasReadAtMost (2 ^ 24 + 2 ^ 16) (remaining old) (remaining new)

-- the rule of a rule text, and the pattern of an input; or the complaint about one of them (the rule is checked first)
abbrev pub ruled_pattern : List ℕ → List ℕ → Result (Numbers × List Cell) Complaint
ruled_pattern text bytes = given (rule_named text) (λ rule. given (pattern_of bytes) (λ cells. Ok (rule, cells)))

-- How a command ends that writes the text of what it found, or the line of a complaint.
abbrev pub EndsFound : {A V : Type 0} → (A → List ℕ) → Result A Complaint → Status → (V → Option (List ℕ)) → Output V → Output V → Stream → Type 0
EndsFound text (Ok x) status contents old new errors =
    ((status ≡ statuses.Done) × Has (stream contents old new) (text x) × (new.failed ≡ false) × Has errors [] × (errors.failed ≡ false))
    ⊎ ((error : Fault) × (status ≡ statuses.Failed) × HasPrefix (stream contents old new) (text x) × (new.failed ≡ true) × HasLine errors write_failed_line)
EndsFound text (Err complaint) status contents old new errors =
    (status ≡ status_of complaint) × (new ≡ old) × HasLine errors (complaint_line complaint)
