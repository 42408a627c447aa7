-- Answers: what a command writes to standard output, or the complaint with which it ends.
use Rattle.std.specs.Prelude.{◌≡◌, ℕ, List, [], Option, Result, Ok, Err, IfSome}
use Rattle.std.specs.Result.{result_unwrap_or}
use Rattle.pattern_commands.specs.declared.ending.complaint.Complaint.{Complaint}
use Rattle.pattern_commands.specs.declared.ending.complaint.Complaint.TheVariants.{Refused, TooLong}
use Rattle.pattern_commands.specs.declared.ending.refusal.Refusal.TheVariants.{RangeTooLarge, RangesOverlap}

-- the answer of a command that prints only a text: the text that it writes to standard output if memory lasts and no
-- stream fails, or its complaint
abbrev pub Answer : Type 0
Answer = Result (List ℕ) Complaint

-- the text for standard output, which is empty if there is a complaint
abbrev pub output_text : Answer → List ℕ
output_text answer = result_unwrap_or answer []

-- the next step takes the value of the step before; if that step ended with a complaint, the complaint is the result
abbrev pub given : {A B : Type 0} → Result A Complaint → (A → Result B Complaint) → Result B Complaint
given (Ok x) next = next x
given (Err complaint) next = Err complaint

-- the bytes are what the reader has left, if that is known; otherwise they may be any bytes
abbrev pub IsInput : Option (List ℕ) → List ℕ → Type 0
IsInput reader bytes = IfSome reader (λ left. bytes ≡ left)

-- a property of answers: which of them are right for a request
abbrev pub Right : Type 1
Right = Answer → Type 0

-- only this answer is right
abbrev pub only : Answer → Right
only answer other = answer ≡ other

-- the right answers after a step: if the step ended with a value, the answers that are right for the value; if it ended
-- with a complaint, only this complaint
abbrev pub IsRightGiven : {A : Type 0} → Result A Complaint → (A → Right) → Right
IsRightGiven (Ok x) next = next x
IsRightGiven (Err complaint) next = only (Err complaint)

-- The complaints that can't be found without memory: ranges have to be kept before they can be checked, and an input
-- before it can be parsed.
abbrev pub NeedsMemory : Complaint → Type 0
NeedsMemory (Refused RangeTooLarge) = Unit {0}
NeedsMemory (Refused RangesOverlap) = Unit {0}
NeedsMemory TooLong = Unit {0}
NeedsMemory _ = ⊥
