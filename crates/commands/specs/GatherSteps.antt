-- How report lines are gathered, one line at a time.
use Rattle.std.specs.Prelude.{◌≡◌, ◌≤◌, ◌^◌, ℕ, true, false, List, Option, length}
use Rattle.std.specs.Io.KnownBytes.{Consumes, prepend_known}
use Rattle.plane_core.specs.Outputs.{Output}
use Rattle.haul_core.specs.Books.{Held, Terms}
use Rattle.pattern_commands.specs.declared.ending.complaint.Complaint.{Complaint}
use Rattle.pattern_commands.specs.declared.ending.complaint.Complaint.TheVariants.{Refused, Memory, ReadFailed, TooLong, WriteFailed}
use Rattle.pattern_commands.specs.Answers.{IsInput}
use Rattle.pattern_commands.specs.Streams.{Stream, Has}
use Rattle.commands.specs.declared.lines.LineEnd.{LineEnd}
use Rattle.commands.specs.declared.lines.LineEnd.TheVariants.{Feed, Input}
use Rattle.commands.specs.Lines.{IsLongerThan, input_lines}
use Rattle.commands.specs.LinesSoFar.{AreAllEnded, AreEnded, HasBegunUpTo, HasCome, most_ahead}

-- The state of gathering: the input at the start and what is left of it, standard error since the start, and how many
-- lines and bytes were read.
pub record Passage : Type 0 where
  pub reader : Option (List ℕ)
  pub left : Option (List ℕ)
  pub errors : Stream
  pub count : ℕ
  pub size : ℕ

-- The lines that were read were gathered in the haul, and standard error has the diagnostics about them.
pub record HasGatheredLines (passage : Passage) (held : Held) : Type 0 where
  pub read : List ℕ
  pub lines : List (List ℕ)
  pub diagnostics : List ℕ
  pub consumed : Consumes passage.reader passage.left read
  pub ended : AreEnded read lines
  pub count_is : passage.count ≡ length lines
  pub size_is : passage.size ≡ length read
  pub come : HasCome lines held diagnostics
  pub written : Has passage.errors diagnostics

-- All lines of an input with this many bytes were gathered in the haul, and standard error has the diagnostics about
-- them.
pub record HasGatheredAll (reader left : Option (List ℕ)) (errors : Stream) (size : ℕ) (held : Held) : Type 0 where
  pub bytes : List ℕ
  pub input : IsInput reader bytes
  pub consumed : Consumes reader left bytes
  pub size_is : size ≡ length bytes
  pub diagnostics : List ℕ
  pub come : HasCome (input_lines bytes) held diagnostics
  pub written : Has errors diagnostics

-- all lines up to this line end were gathered: if it is a line feed, more lines may follow, and if it is the end of the
-- input, all lines were gathered
abbrev pub HasGatheredTo : Passage → Held → LineEnd → Type 0
HasGatheredTo passage held Feed = HasGatheredLines passage held
HasGatheredTo passage held Input = HasGatheredAll passage.reader passage.left passage.errors passage.size held

-- all lines of an input of at most 2^32 bytes were gathered; if the bytes of the input are known, `ahead` is empty
pub record HasGatheredShort (reader left : Option (List ℕ)) (errors : Stream) (held : Held) : Type 0 where
  pub size : ℕ
  pub short : size ≤ 2 ^ 32
  pub ahead : List ℕ
  pub few : length ahead ≤ 2 ^ 16
  pub all : HasGatheredAll reader (prepend_known ahead left) errors size held

-- if the bytes of the input are known, there are more than 2^32 of them
abbrev pub IsTooLong : Option (List ℕ) → Type 0
IsTooLong reader = IsLongerThan (2 ^ 32) reader

-- What holds if gathering ended with a complaint at a place of the input, and `left` is the input from there on:
-- standard error has the diagnostics about the lines gathered before the place, or a write to standard error failed.
abbrev pub EndsLines : Terms → (reader left : Option (List ℕ)) → Stream → Complaint → Type 0
EndsLines terms reader left errors (Memory error) =
    HasBegunUpTo terms reader left errors.before errors.after × (errors.failed ≡ false)
EndsLines terms reader left errors (ReadFailed error) =
    (begun : HasBegunUpTo terms reader left errors.before errors.after) × (errors.failed ≡ false) × AreAllEnded begun.read begun.lines
EndsLines terms reader left errors TooLong =
    HasBegunUpTo terms reader left errors.before errors.after × (errors.failed ≡ false) × IsTooLong reader
EndsLines terms reader left errors (WriteFailed error) = errors.failed ≡ true
EndsLines terms reader left errors (Refused refusal) = ⊥

-- `EndsLines` holds for the place where gathering ended, but the bytes `ahead` after that place have been read as well
pub record EndsLinesAt (terms : Terms) (reader left : Option (List ℕ)) (errors : Stream) (complaint : Complaint) : Type 0 where
  pub ahead : List ℕ
  pub few : length ahead ≤ most_ahead complaint
  pub ends : EndsLines terms reader (prepend_known ahead left) errors complaint

-- what holds if a line was read, but gathering it ended with a complaint: nothing was written, or a write failed
abbrev pub EndsLine : {V : Type 0} → Output V → Output V → Complaint → Type 0
EndsLine old new (Memory error) = new ≡ old
EndsLine old new (ReadFailed error) = ⊥
EndsLine old new TooLong = ⊥
EndsLine old new (WriteFailed error) = new.failed ≡ true
EndsLine old new (Refused refusal) = ⊥

-- what holds if reading and gathering the next line ended with a complaint: what `EndsLine` says, or nothing was
-- written because a read failed or the input has more than `room` bytes left
abbrev pub EndsNext : {V : Type 0} → ℕ → Option (List ℕ) → Output V → Output V → Complaint → Type 0
EndsNext room left old new (ReadFailed error) = new ≡ old
EndsNext room left old new TooLong = (new ≡ old) × IsLongerThan room left
EndsNext room left old new complaint = EndsLine old new complaint
