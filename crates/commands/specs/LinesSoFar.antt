-- The lines of an input that have been gathered so far.
use Rattle.std.specs.Prelude.{◌≡◌, ◌≤◌, ◌^◌, ◌++◌, ℕ, List, All, IfSome, Option, flat_map, length}
use Rattle.std.specs.Io.KnownBytes.{Appends, Consumes}
use Rattle.haul_core.specs.declared.book.arrival.Arrival.{Arrival}
use Rattle.haul_core.specs.Books.{Held, StandsFor, Terms}
use Rattle.pattern_commands.specs.declared.ending.complaint.Complaint.{Complaint}
use Rattle.pattern_commands.specs.declared.ending.complaint.Complaint.TheVariants.{ReadFailed}
use Rattle.pattern_commands.specs.Streams.{Stream, Has}
use Rattle.commands.specs.declared.lines.LineEnd.TheVariants.{Feed}
use Rattle.commands.specs.GatheredLines.{Gathered}
use Rattle.commands.specs.Lines.{IsOneLine, input_lines, with_end}

-- the bytes are these lines, each ended by a line feed
pub record AreEnded (bytes : List ℕ) (lines : List (List ℕ)) : Type 0 where
  pub spelled : bytes ≡ flat_map (with_end Feed) lines
  pub whole : All IsOneLine lines

-- the bytes are these lines, each ended by a line feed, and then a part of a line, which may be empty
pub record AreAllEnded (bytes : List ℕ) (lines : List (List ℕ)) : Type 0 where
  pub prefix : List ℕ
  pub part : List ℕ
  pub split : bytes ≡ prefix ++ part
  pub ended : AreEnded prefix lines
  pub one : IsOneLine part

-- the lines were gathered in the haul, with these diagnostics
pub record HasCome (lines : List (List ℕ)) (held : Held) (diagnostics : List ℕ) : Type 0 where
  pub arrivals : List Arrival
  pub gathered : Gathered held.terms lines arrivals diagnostics
  pub stands : StandsFor arrivals held

-- The lines were gathered in the haul. The diagnostics about them are `diagnostics`, followed by `more`, which was
-- written to standard error.
pub record HasComeBy (lines : List (List ℕ)) (held : Held) (diagnostics : List ℕ) (errors : Stream) : Type 0 where
  pub more : List ℕ
  pub come : HasCome lines held (diagnostics ++ more)
  pub written : Has errors more

-- A part of an input was read, from its beginning. The lines of this part were gathered, except perhaps the last, at
-- which gathering ended. Standard error has the diagnostics about the gathered lines.
pub record HasBegunUpTo (terms : Terms) (reader left before after : Option (List ℕ)) : Type 0 where
  pub read : List ℕ
  pub consumed : Consumes reader left read
  pub lines : List (List ℕ)
  pub last : List (List ℕ)
  pub all : input_lines read ≡ lines ++ last
  pub one : length last ≤ 1
  pub first : IfSome reader (λ bytes. (more : List (List ℕ)) × (input_lines bytes ≡ lines ++ more))
  pub arrivals : List Arrival
  pub diagnostics : List ℕ
  pub gathered : Gathered terms lines arrivals diagnostics
  pub written : Appends before after diagnostics

-- `HasBegunUpTo` holds for some place up to which the input was read
abbrev pub HasBegun : Terms → (reader before after : Option (List ℕ)) → Type 0
HasBegun terms reader before after = (left : Option (List ℕ)) × HasBegunUpTo terms reader left before after

-- how many bytes may have been read, at most, beyond the place where gathering ended with this complaint
abbrev pub most_ahead : Complaint → ℕ
most_ahead (ReadFailed error) = 0
most_ahead _ = 2 ^ 16
