-- The lines of an input, and how a line is read.
use Rattle.std.specs.Prelude.{◌≡◌, ◌≢◌, ◌<◌, ◌≤◌, ◌==◌, ◌+◌, ◌^◌, ◌++◌, ℕ, List, [], ◌∷◌, All, IfSome, Option, None, Some, length, take, if◌then◌else◌}
use Rattle.std.specs.Io.KnownBytes.{Consumes, IsAtEnd}
use Rattle.pattern_commands.specs.declared.ending.complaint.Complaint.{Complaint}
use Rattle.pattern_commands.specs.declared.ending.complaint.Complaint.TheVariants.{ReadFailed}
use Rattle.commands.specs.declared.lines.LineEnd.{LineEnd}
use Rattle.commands.specs.declared.lines.LineEnd.TheVariants.{Feed, Input}
use Rattle.commands.specs.declared.lines.LineRead.{LineRead}
use Rattle.commands.specs.declared.lines.Piece.{Piece}

-- these lines, with a byte added at the beginning of the first line; if there are no lines, the byte is the only line
abbrev pub begun_with : ℕ → List (List ℕ) → List (List ℕ)
begun_with byte [] = (byte ∷ []) ∷ []
begun_with byte (line ∷ more) = (byte ∷ line) ∷ more

-- the lines of an input: a line feed (10) ends each line, but the last line may lack it
abbrev pub input_lines : List ℕ → List (List ℕ)
input_lines [] = []
input_lines (byte ∷ more) = if byte == 10 then [] ∷ input_lines more else begun_with byte (input_lines more)

-- no line feed is among the bytes
abbrev pub IsOneLine : List ℕ → Type 0
IsOneLine line = All (λ byte. byte ≢ 10) line

-- the bytes that end a line
abbrev pub end_bytes : LineEnd → List ℕ
end_bytes Feed = 10 ∷ []
end_bytes Input = []

-- the bytes of a line, including what ends it
abbrev pub with_end : LineEnd → List ℕ → List ℕ
with_end end line = line ++ end_bytes end

-- if the bytes of the input are known, none of them is left
abbrev pub IsSpent : Option (List ℕ) → Option (List ℕ) → Type 0
IsSpent old new = IfSome old (λ _. IsAtEnd new)

-- if the bytes that the reader has left are known, there are more than `most` of them
abbrev pub IsLongerThan : ℕ → Option (List ℕ) → Type 0
IsLongerThan most reader = IfSome reader (λ bytes. most < length bytes)

-- A line of at most `room` bytes, including its line feed, was read, and its first 2^24 + 1 bytes are kept. If no line
-- feed ends the line, the input is at its end.
pub record HasReadLine (room : ℕ) (old new : Option (List ℕ)) (kept : List ℕ) (read : LineRead) : Type 0 where
  pub line : List ℕ
  pub kept_is : kept ≡ take (2 ^ 24 + 1) line
  pub one : IsOneLine line
  pub consumed : Consumes old new (with_end read.end line)
  pub size_is : read.size ≡ length (with_end read.end line)
  pub short : read.size ≤ room
  pub last : read.end ≡ Input → IsSpent old new

-- the bytes of the line end that follows a piece of a line: none if the line goes on after the piece
abbrev pub piece_end : Option LineEnd → List ℕ
piece_end None = []
piece_end (Some end) = end_bytes end

-- the part of a line at the beginning of these bytes: all bytes before the first line feed, or all if there is none
pub record IsPieceOf (bytes : List ℕ) (read : Piece) : Type 0 where
  pub within : read.length ≤ length bytes
  pub bound : read.size ≤ length bytes
  pub one : IsOneLine (take read.length bytes)
  pub ended : take read.size bytes ≡ take read.length bytes ++ piece_end read.end
  pub last : read.end ≡ Some Input → bytes ≡ []
  pub whole : read.end ≡ None → read.size ≡ length bytes
  pub some : read.end ≡ None → 0 < read.size

-- this part of a line was read, and then the line feed if the line ends with one here
pub record HasPiece (old new : Option (List ℕ)) (piece : List ℕ) (read : Piece) : Type 0 where
  pub one : IsOneLine piece
  pub consumed : Consumes old new (piece ++ piece_end read.end)
  pub size_is : read.size ≡ length (piece ++ piece_end read.end)
  pub last : read.end ≡ Some Input → IsSpent old new
  pub some : read.end ≡ None → 0 < read.size

-- what may end the part of a line that was read before a complaint: nothing if a read failed, and otherwise anything
abbrev pub MayEnd : Complaint → Option LineEnd → Type 0
MayEnd (ReadFailed error) end = end ≡ None
MayEnd _ end = Unit {0}

-- at most one line of an input, or a part of one, was read before a complaint
pub record HasReadPart (old new : Option (List ℕ)) (complaint : Complaint) : Type 0 where
  pub line : List ℕ
  pub end : Option LineEnd
  pub one : IsOneLine line
  pub consumed : Consumes old new (line ++ piece_end end)
  pub cut : MayEnd complaint end
