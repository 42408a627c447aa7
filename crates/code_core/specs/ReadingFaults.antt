-- The place of a text's first fault, the messages of faults, and the law that the text of a pattern can be read back.
use Rattle.std.specs.Prelude.{◌≡◌, ◌+◌, ◌<◌, ◌++◌, ℕ, false, List, codes, decimal, length, take, Some, Ok, slice_index}
use Rattle.plane_core.specs.declared.plane.cell.Cell.{Cell}
use Rattle.plane_core.specs.plane.Bounds.{at_corner}
use Rattle.plane_core.specs.plane.Cells.{InOrder}
use Rattle.code_core.specs.declared.reader.Token.{Token}
use Rattle.code_core.specs.declared.reader.WechslerFault.{WechslerFault}
use Rattle.code_core.specs.declared.reader.WechslerFault.TheVariants.{TooLong, BadByte, ShortRun, Empty}
use Rattle.code_core.specs.Texts.{text}
use Rattle.code_core.specs.Tokens.{Spells, is_character}
use Rattle.code_core.specs.Reading.{wechsler_read}

-- the byte at the place is bad: tokens spell the bytes before it, and it isn't a character
pub record IsBadByte (text : List ℕ) (place : ℕ) : Type 0 where
  pub tokens : List Token
  pub before : Spells tokens (take place text)
  pub within : place < length text
  pub bad : is_character (slice_index text place) ≡ false

-- the run at the place has no length: tokens spell the bytes before it, and no character follows its `y` (121)
pub record IsShortRun (text : List ℕ) (place : ℕ) : Type 0 where
  pub tokens : List Token
  pub before : Spells tokens (take place text)
  pub within : place < length text
  pub run : slice_index text place ≡ 121
  pub short : place + 1 < length text → is_character (slice_index text (place + 1)) ≡ false

-- the message of a fault
abbrev pub wechsler_fault_text : WechslerFault → List ℕ
wechsler_fault_text TooLong = codes "text longer than 10000 bytes"
wechsler_fault_text (BadByte place) = codes "bad byte at " ++ decimal place
wechsler_fault_text (ShortRun place) = codes "run without a length at " ++ decimal place
wechsler_fault_text Empty = codes "no live cell"

-- the text of each pattern is read back as the pattern, moved to the corner
abbrev pub TextsAreRead : Type 0
TextsAreRead = (cells : List Cell) (t : List ℕ) → InOrder cells → text cells ≡ Some t → wechsler_read t ≡ Ok (at_corner cells)
