-- What commands produce, and what they may do to their streams.
use Rattle.std.specs.Prelude.{◌≡◌, ℕ, Bool, List, [], Option, Result, Ok, Err}
use Rattle.std.specs.Io.KnownBytes.{Appends}
use Rattle.pattern_commands.specs.declared.ending.complaint.Complaint.{Complaint}
use Rattle.pattern_commands.specs.Answers.{NeedsMemory, Right}
use Rattle.pattern_commands.specs.Streams.{Stream}

-- what a command produces: a text for standard output, lines for standard error (diagnostics about its input, or report
-- lines), and the number of missing soups
pub record Made : Type 0 where
  pub text : List ℕ
  pub diagnostics : List ℕ
  pub missing : ℕ

-- a property of what a command produces, or of its complaint
abbrev pub Makes : Type 1
Makes = Result Made Complaint → Type 0

-- the text for standard output, which is empty if there is a complaint
abbrev pub text_made : Result Made Complaint → List ℕ
text_made (Ok made) = made.text
text_made (Err complaint) = []

-- only complaints that need memory are right, so a command that runs out of memory hides no other complaint
abbrev pub NeedsMemoryAlone : Makes → Type 0
NeedsMemoryAlone right = (complaint : Complaint) → right (Err complaint) → NeedsMemory complaint

-- The behaviour of a command: what is right for an input, and what the command may do besides.
pub record Behaviour : Type 1 where
  -- what may be produced from an input
  pub right : List ℕ → Makes
  -- the command reads its input
  pub reads : Bool
  -- the input itself may be refused
  pub refuses : Bool
  -- the text is complete before its first byte is written
  pub whole : Bool
  -- what the command may have added to standard error before it ended early
  pub begins : (reader before after : Option (List ℕ)) → Type 0
  -- the states that standard error may be in if the diagnostics were not written completely
  pub breaks_off : Stream → Type 0

-- what is right for a command that makes only a text: a right answer, without diagnostics and without missing soups
abbrev pub alone : Right → Makes
alone right (Ok made) = right (Ok made.text) × (made.diagnostics ≡ []) × (made.missing ≡ 0)
alone right (Err complaint) = right (Err complaint)

-- a command without diagnostics: nothing is written to standard error before the last line
abbrev pub silent_behaviour : (reads whole : Bool) → (List ℕ → Makes) → Behaviour
silent_behaviour reads whole right = record {
  right = right;
  reads = reads;
  refuses = reads;
  whole = whole;
  begins = λ reader before after. Appends before after [];
  breaks_off = λ errors. ⊥;
}

-- a command that writes only a text
abbrev pub text_behaviour : (reads whole : Bool) → (List ℕ → Right) → Behaviour
text_behaviour reads whole right = silent_behaviour reads whole (λ bytes. alone (right bytes))
