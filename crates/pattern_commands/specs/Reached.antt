-- What a command leaves on its streams before the last line of standard error.
use Rattle.std.specs.Prelude.{◌≡◌, ◌⊎◌, ℕ, Bool, true, false, List, [], Option, Result, Ok, Err}
use Rattle.pattern_commands.specs.declared.ending.complaint.Complaint.{Complaint}
use Rattle.pattern_commands.specs.declared.ending.complaint.Complaint.TheVariants.{Refused, Memory, ReadFailed, TooLong, WriteFailed}
use Rattle.pattern_commands.specs.Streams.{Stream, Has, HasPrefix}
use Rattle.pattern_commands.specs.Behaviours.{Made, Makes, NeedsMemoryAlone, Behaviour, text_made}

-- the number of missing soups after a command, or its complaint
abbrev pub Outcome : Type 0
Outcome = Result ℕ Complaint

-- what was produced was written to both streams completely, and this many soups are missing
pub record IsPrinted (right : Makes) (missing : ℕ) (output errors : Stream) : Type 0 where
  pub made : Made
  pub is : right (Ok made)
  pub missing_is : missing ≡ made.missing
  pub text : Has output made.text
  pub written : output.failed ≡ false
  pub diagnostics : Has errors made.diagnostics
  pub fine : errors.failed ≡ false

-- nothing was written to either stream
pub record IsSilent (output errors : Stream) : Type 0 where
  pub nothing : Has output []
  pub silent : Has errors []
  pub fine : errors.failed ≡ false

-- The input wasn't read to its end: nothing was written to standard output, and standard error has the diagnostics
-- about the beginning of the input.
pub record IsCutOff (behaviour : Behaviour) (reader : Option (List ℕ)) (output errors : Stream) : Type 0 where
  pub reads : behaviour.reads ≡ true
  pub begun : behaviour.begins reader errors.before errors.after
  pub nothing : Has output []
  pub fine : errors.failed ≡ false

-- what standard output has if memory ran out: nothing if the text is complete before it is written, and otherwise a
-- prefix of each right text
abbrev pub LeavesPart : Bool → Makes → Stream → Type 0
LeavesPart true right output = Has output []
LeavesPart false right output = (answer : Result Made Complaint) → right answer → HasPrefix output (text_made answer)

-- memory ran out, either before the input was read or while it was processed
pub record HasRunOutOfMemory (behaviour : Behaviour) (reader : Option (List ℕ)) (bytes : List ℕ) (output errors : Stream) : Type 0 where
  pub hides : behaviour.refuses ≡ false → NeedsMemoryAlone (behaviour.right bytes)
  pub left : LeavesPart behaviour.whole (behaviour.right bytes) output
  pub diagnostics : Has errors [] ⊎ behaviour.begins reader errors.before errors.after
  pub fine : errors.failed ≡ false

-- What was written if a write of the text failed. If the text is made completely before it is written: a prefix of it,
-- and all diagnostics. If it is written while it is made: a prefix of each right text, and no diagnostics. In this
-- second case, no complaint is right.
abbrev pub WritesBeginning : Bool → Makes → Stream → Stream → Type 0
WritesBeginning true right output errors = (made : Made) × right (Ok made) × HasPrefix output made.text × Has errors made.diagnostics
WritesBeginning false right output errors = ((complaint : Complaint) → right (Err complaint) → ⊥)
    × ((made : Made) → right (Ok made) → HasPrefix output made.text) × Has errors []

-- a write to standard output failed
pub record IsCutShort (behaviour : Behaviour) (bytes : List ℕ) (output errors : Stream) : Type 0 where
  pub left : WritesBeginning behaviour.whole (behaviour.right bytes) output errors
  pub cut : output.failed ≡ true
  pub fine : errors.failed ≡ false

-- the diagnostics were not written completely, and nothing was written to standard output
pub record LacksDiagnostics (behaviour : Behaviour) (output errors : Stream) : Type 0 where
  pub cut : behaviour.breaks_off errors
  pub nothing : Has output []

-- What the streams have before the last line of standard error, for each outcome. A refusal has to be right, and so
-- does the complaint that the input is too long.
abbrev pub Reaches : Behaviour → Option (List ℕ) → List ℕ → Outcome → Stream → Stream → Type 0
Reaches behaviour reader bytes (Ok missing) output errors = IsPrinted (behaviour.right bytes) missing output errors
Reaches behaviour reader bytes (Err (Refused refusal)) output errors = behaviour.right bytes (Err (Refused refusal)) × IsSilent output errors
Reaches behaviour reader bytes (Err (Memory error)) output errors = HasRunOutOfMemory behaviour reader bytes output errors
Reaches behaviour reader bytes (Err (ReadFailed error)) output errors = IsCutOff behaviour reader output errors
Reaches behaviour reader bytes (Err TooLong) output errors = behaviour.right bytes (Err TooLong) × IsCutOff behaviour reader output errors
Reaches behaviour reader bytes (Err (WriteFailed error)) output errors = IsCutShort behaviour bytes output errors ⊎ LacksDiagnostics behaviour output errors
