-- What the rule texts and inputs of commands mean, and the complaints about them.
use Rattle.std.specs.Prelude.{◌≡◌, ◌≤◌, ℕ, ◌^◌, true, List, length, nat_le, Option, Result, Ok, Err, if◌then◌else◌}
use Rattle.std.specs.Io.KnownBytes.{Consumes}
use Rattle.std.specs.Result.{result_map_both}
use Rattle.plane_core.specs.declared.plane.cell.Cell.{Cell}
use Rattle.plane_core.specs.declared.plane.rule.RuleFault.{RuleFault}
use Rattle.plane_core.specs.declared.plane.rule.RuleFault.TheVariants as rule_error
use Rattle.plane_core.specs.declared.plaintext.PlaintextFault.{PlaintextFault}
use Rattle.plane_core.specs.declared.plaintext.PlaintextFault.TheVariants as fault
use Rattle.plane_core.specs.declared.plaintext.PlaintextError.{PlaintextError}
use Rattle.plane_core.specs.declared.plaintext.PlaintextError.TheVariants as error
use Rattle.plane_core.specs.plane.Rules.{Numbers}
use Rattle.plane_core.specs.plane.Rules.{rule_read}
use Rattle.plane_core.specs.plane.Generations.{lies_within}
use Rattle.plane_core.specs.Plaintext.{pattern}
use Rattle.ranges.specs.declared.range_list.ListError.{ListError}
use Rattle.ranges.specs.declared.range_list.ListError.TheVariants as list_error
use Rattle.pattern_commands.specs.declared.ending.complaint.Complaint.{Complaint}
use Rattle.pattern_commands.specs.declared.ending.complaint.Complaint.TheVariants.{Refused, Memory, ReadFailed, TooLong, WriteFailed}
use Rattle.pattern_commands.specs.declared.ending.refusal.Refusal.TheVariants.{BadByte, PatternTooLarge, BadRule, BirthZero, BadList}
use Rattle.pattern_commands.specs.declared.input.InputError.{InputError}
use Rattle.pattern_commands.specs.declared.input.InputError.TheVariants as input_error

-- the complaint about a rule text
abbrev pub rule_complaint : RuleFault → Complaint
rule_complaint (rule_error.BadRule place) = Refused (BadRule place)
rule_complaint rule_error.BirthZero = Refused BirthZero

-- the complaint about a plaintext pattern
abbrev pub pattern_complaint : PlaintextFault → Complaint
pattern_complaint (fault.BadByte line column) = Refused (BadByte line column)
pattern_complaint fault.TooLarge = Refused PatternTooLarge

-- the complaint if a call that reads a plaintext pattern fails with this error
abbrev pub plaintext_complaint : PlaintextError → Complaint
plaintext_complaint (error.Fault why) = pattern_complaint why
plaintext_complaint (error.Memory refused) = Memory refused

-- the complaint if a call that reads a range list fails with this error
abbrev pub list_complaint : ListError → Complaint
list_complaint (list_error.BadList place) = Refused (BadList place)
list_complaint (list_error.Memory refused) = Memory refused

-- the complaint if a call that reads an input fails with this error
abbrev pub input_complaint : InputError → Complaint
input_complaint (input_error.Unreadable failed) = ReadFailed failed
input_complaint input_error.TooLong = TooLong
input_complaint (input_error.Memory refused) = Memory refused

-- the rule with this text, or the complaint about the text
abbrev pub rule_named : List ℕ → Result Numbers Complaint
rule_named text = result_map_both (λ rule. rule) rule_complaint (rule_read text)

-- the pattern of an input, or why there is none; an input of more than 2^24 bytes is too long
abbrev pub pattern_of : List ℕ → Result (List Cell) Complaint
pattern_of bytes = if nat_le (length bytes) (2 ^ 24)
    then result_map_both (λ cells. cells) pattern_complaint (pattern bytes)
    else Err TooLong

-- the cells are within 999 columns and rows of the origin, as in all patterns that are read
abbrev pub LiesWithin999 : List Cell → Type 0
LiesWithin999 cells = lies_within 999 cells ≡ true

-- A call that reads a value returns the right `answer`: the value, a refusal, or that the text is too long. If memory
-- runs out or a read fails, the call may return the complaint about this instead.
abbrev pub Reads : {A : Type 0} → Result A Complaint → Result A Complaint → Type 0
Reads answer (Ok x) = answer ≡ Ok x
Reads answer (Err (Refused refusal)) = answer ≡ Err (Refused refusal)
Reads answer (Err TooLong) = answer ≡ Err TooLong
Reads answer (Err (Memory error)) = Unit {0}
Reads answer (Err (ReadFailed error)) = Unit {0}
Reads answer (Err (WriteFailed error)) = ⊥

-- at most `most` bytes were read; `old` and `new` are what the reader had left before and after, if that is known
abbrev pub HasReadAtMost : ℕ → (old new : Option (List ℕ)) → Type 0
HasReadAtMost most old new = (bytes : List ℕ) × Consumes old new bytes × (length bytes ≤ most)
