-- How the program ends: it has done what its arguments ask for, or it complains.
use Rattle.std.specs.Prelude.{◌≡◌, ◌++◌, ◌⊎◌, ℕ, true, false, List, Option, None, Some, Ok, ⊤, codes}
use Rattle.std.specs.Io.KnownBytes.{Appends}
use Rattle.pattern_commands.specs.declared.ending.status.Status.{Status}
use Rattle.pattern_commands.specs.declared.ending.status.Status.TheVariants.{Failed}
use Rattle.pattern_commands.specs.Answers.{IsInput}
use Rattle.pattern_commands.specs.Complaints.{write_failed_line}
use Rattle.pattern_commands.specs.Ends.{last_line}
use Rattle.pattern_commands.specs.Status.{exit_code, has_printed}
use Rattle.pattern_commands.specs.Streams.{Stream, HasLine}
use Rattle.pattern_commands.specs.Behaviours.{Made}
use Rattle.arguments.specs.declared.request.Request.{Request}
use Rattle.arguments.specs.Requests.{Text, asked_by}
use Rattle.census.specs.Requests.{DoesArguments, right_for}

-- the line on standard error if the arguments are not text
abbrev pub not_text_line : List ℕ
not_text_line = codes "census: the words are not UTF-8\n"

-- the bytes of a writer after the program has ended; if there was no memory for the writer's buffer, the writer isn't
-- returned and its bytes are unchanged
abbrev pub left_by : {V : Type 0} → (V → Option (List ℕ)) → V → Option V → Option (List ℕ)
left_by contents old None = contents old
left_by contents old (Some new) = contents new

-- a stream from the moment at which `earlier` ends to the moment at which `later` ends
abbrev pub since : Stream → Stream → Stream
since earlier later = record { before = earlier.after; after = later.after; failed = later.failed }

-- a text was added, and then a line, or a prefix of the line if a write failed
pub record HasTextAndLine (errors : Stream) (text line : List ℕ) : Type 0 where
  pub so_far : Option (List ℕ)
  pub whole : Appends errors.before so_far text
  pub last : HasLine (record { before = so_far; after = errors.after; failed = errors.failed }) line

-- What the arguments ask for was done: the text is right for the request and this input, and was added to the writer
-- completely. `missing` is the number of missing soups, which is 0 except for `gather`. Standard error has the
-- diagnostics of `gather` about lines and missing soups, or the report lines of `take` about late soups.
pub record IsDone (arguments : List Text) (reader before after : Option (List ℕ)) (errors : Stream) (missing : ℕ) : Type 0 where
  pub request : Request
  pub asked : asked_by arguments ≡ Some request
  pub bytes : List ℕ
  pub input : IsInput reader bytes
  pub made : Made
  pub right : right_for request bytes (Ok made)
  pub missing_is : missing ≡ made.missing
  pub written : Appends before after made.text
  pub diagnostics : HasTextAndLine errors made.diagnostics (last_line (Ok missing))

-- the bytes that the writer got are a prefix of those that were written to its buffer
abbrev pub IsPrefixOf : (written sent : Option (List ℕ)) → Type 0
IsPrefixOf None sent = ⊤
IsPrefixOf (Some xs) None = ⊥
IsPrefixOf (Some xs) (Some ys) = (remainder : List ℕ) × (ys ++ remainder ≡ xs)

-- after the diagnostics of a command, standard error has the line that says that a write failed, unless a write to
-- standard error had failed before
pub record HasWriteFailedLine (diagnostics errors : Stream) : Type 0 where
  pub line : diagnostics.failed ≡ false → HasLine (since diagnostics errors) write_failed_line
  pub stays : diagnostics.failed ≡ true → errors.failed ≡ true

-- the command ended with a complaint, and the program has the complaint's exit code; or the command printed its text,
-- but flushing the text failed
abbrev pub EndsBadly : Status → ℕ → Stream → Stream → Type 0
EndsBadly status number diagnostics errors =
    ((has_printed status ≡ false) × (number ≡ exit_code status) × (errors ≡ diagnostics))
    ⊎ ((has_printed status ≡ true) × (number ≡ exit_code Failed) × (errors.before ≡ diagnostics.before) × HasWriteFailedLine diagnostics errors)

-- The program ends with a complaint. The command that the arguments ask for has ended, or there was no memory to read
-- the arguments or for a buffer. `written` is what the command wrote to the buffer, and `diagnostics` what it wrote to
-- standard error. The writer below the buffer has got a prefix of `written`.
pub record Complains (arguments : List Text) (reader : Option (List ℕ)) (number : ℕ) (before after : Option (List ℕ)) (errors : Stream) : Type 0 where
  pub status : Status
  pub written : Stream
  pub diagnostics : Stream
  pub does : DoesArguments arguments reader status written diagnostics
  pub from : written.before ≡ before
  pub sent : IsPrefixOf written.after after
  pub ends : EndsBadly status number diagnostics errors
