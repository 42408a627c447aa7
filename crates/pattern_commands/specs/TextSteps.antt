-- Steps of the commands that print only a text.
use Rattle.std.specs.Prelude.{◌≡◌, Bool, true, false, ℕ, List, [], Result, Ok, Err}
use Rattle.pattern_commands.specs.declared.ending.complaint.Complaint.{Complaint}
use Rattle.pattern_commands.specs.declared.ending.complaint.Complaint.TheVariants.{Refused, Memory, ReadFailed, TooLong, WriteFailed}
use Rattle.pattern_commands.specs.Answers.{Answer, NeedsMemory, Right, output_text}
use Rattle.pattern_commands.specs.Reached.{Outcome}
use Rattle.pattern_commands.specs.Streams.{Stream, Has, HasPrefix}

-- the outcome of a command that writes only a text
abbrev pub TextOutcome : Type 0
TextOutcome = Result (Unit {0}) Complaint

-- the outcome with the number of missing soups, which is 0 for a command that writes only a text
abbrev pub none_missing : TextOutcome → Outcome
none_missing (Ok _) = Ok 0
none_missing (Err complaint) = Err complaint

-- the text of a right answer was added, and nothing else
abbrev pub HasRight : Right → Stream → Type 0
HasRight right output = (text : List ℕ) × right (Ok text) × Has output text

-- a prefix of the text of a right answer was added, and nothing else
abbrev pub HasPrefixOfRight : Right → Stream → Type 0
HasPrefixOfRight right output = (text : List ℕ) × right (Ok text) × HasPrefix output text

-- how much of a text was written when a write failed, depending on whether the text was complete before any write
abbrev pub LeavesTextPrefix : Bool → Right → Stream → Type 0
LeavesTextPrefix true right output = HasPrefixOfRight right output
LeavesTextPrefix false right output =
    ((complaint : Complaint) → right (Err complaint) → ⊥) × ((text : List ℕ) → right (Ok text) → HasPrefix output text)

-- how much of a text was written when memory ran out, depending on whether the text was complete before any write
abbrev pub LeavesTextPart : Bool → Right → Stream → Type 0
LeavesTextPart true right output = Has output []
LeavesTextPart false right output = (answer : Answer) → right answer → HasPrefix output (output_text answer)

-- What a command that writes only a text has added to standard output, for each outcome. `reads`: the command reads its
-- input. `whole`: the text is complete before any write.
abbrev pub ReachesText : Bool → Bool → Right → TextOutcome → Stream → Type 0
ReachesText reads whole right (Ok _) output = HasRight right output × (output.failed ≡ false)
ReachesText reads whole right (Err (Memory error)) output =
    (reads ≡ false → (complaint : Complaint) → right (Err complaint) → NeedsMemory complaint) × LeavesTextPart whole right output
ReachesText reads whole right (Err (ReadFailed error)) output = (reads ≡ true) × Has output []
ReachesText reads whole right (Err TooLong) output = (reads ≡ true) × right (Err TooLong) × Has output []
ReachesText reads whole right (Err (WriteFailed error)) output = LeavesTextPrefix whole right output × (output.failed ≡ true)
ReachesText reads whole right (Err (Refused refusal)) output = right (Err (Refused refusal)) × Has output []
