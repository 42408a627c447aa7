-- What the last line of standard error says, and the status for each complaint.
use Rattle.std.specs.Prelude.{ℕ, ◌++◌, List, codes, decimal}
use Rattle.pattern_commands.specs.declared.ending.complaint.Complaint.{Complaint}
use Rattle.pattern_commands.specs.declared.ending.complaint.Complaint.TheVariants.{Refused, Memory, ReadFailed, TooLong, WriteFailed}
use Rattle.pattern_commands.specs.declared.ending.error_line.ErrorText.{ErrorText}
use Rattle.pattern_commands.specs.declared.ending.error_line.ErrorText.TheVariants.{Missing}
use Rattle.pattern_commands.specs.declared.ending.error_line.ErrorText.TheVariants as text
use Rattle.pattern_commands.specs.declared.ending.refusal.Refusal.{Refusal}
use Rattle.pattern_commands.specs.declared.ending.refusal.Refusal.TheVariants.{BadByte, PatternTooLarge, BadRule, BirthZero, NotACode, CodeTooLong, CodeBadByte}
use Rattle.pattern_commands.specs.declared.ending.refusal.Refusal.TheVariants.{CodeShortRun, CodeEmpty, SeedTooLong, SeedBadByte, HorizonBelowPeriod}
use Rattle.pattern_commands.specs.declared.ending.refusal.Refusal.TheVariants.{BadList, RangeTooLarge, RangesOverlap}
use Rattle.pattern_commands.specs.declared.ending.status.Status.{Status}
use Rattle.pattern_commands.specs.declared.ending.status.Status.TheVariants as status

-- the last line of standard error: `census: `, its text, and a line feed
abbrev pub error_line : List ℕ → List ℕ
error_line text = codes "census: " ++ (text ++ codes "\n")

-- the text of a refusal
abbrev pub refusal_text : Refusal → List ℕ
refusal_text (BadByte line column) = codes "bad byte at line " ++ decimal line ++ (codes " column " ++ decimal column)
refusal_text PatternTooLarge = codes "pattern larger than 1000 by 1000"
refusal_text (BadRule place) = codes "bad rule at " ++ decimal place
refusal_text BirthZero = codes "birth on zero neighbours"
refusal_text NotACode = codes "not a code"
refusal_text CodeTooLong = codes "code too long"
refusal_text (CodeBadByte place) = codes "bad byte in code at " ++ decimal place
refusal_text (CodeShortRun place) = codes "short run in code at " ++ decimal place
refusal_text CodeEmpty = codes "code without a live cell"
refusal_text SeedTooLong = codes "seed longer than 64 bytes"
refusal_text (SeedBadByte place) = codes "bad byte in seed at " ++ decimal place
refusal_text HorizonBelowPeriod = codes "horizon below period"
refusal_text (BadList place) = codes "bad range list at " ++ decimal place
refusal_text RangeTooLarge = codes "range too large"
refusal_text RangesOverlap = codes "ranges overlap"

-- the text of a complaint: an input that is too long is reported as a failed read
abbrev pub complaint_text : Complaint → List ℕ
complaint_text (Refused refusal) = refusal_text refusal
complaint_text (Memory error) = codes "out of memory"
complaint_text (ReadFailed error) = codes "read failed"
complaint_text TooLong = codes "read failed"
complaint_text (WriteFailed error) = codes "write failed"

-- the line of a complaint
abbrev pub complaint_line : Complaint → List ℕ
complaint_line complaint = error_line (complaint_text complaint)

-- the line of a failed write
abbrev pub write_failed_line : List ℕ
write_failed_line = error_line (codes "write failed")

-- the text of a last line on standard error
abbrev pub text_of_error : ErrorText → List ℕ
text_of_error (text.Complaint complaint) = complaint_text complaint
text_of_error (Missing missing) = codes "incomplete, " ++ decimal missing ++ codes " missing"

-- the line about the number of missing soups
abbrev pub missing_line : ℕ → List ℕ
missing_line missing = error_line (text_of_error (Missing missing))

-- the status of a command that ends with a complaint
abbrev pub status_of : Complaint → Status
status_of (Refused refusal) = status.Refused
status_of (Memory error) = status.Memory
status_of (ReadFailed error) = status.Failed
status_of TooLong = status.Failed
status_of (WriteFailed error) = status.Failed
