-- The pattern of a plaintext file, and the file that is written for a pattern (LifeWiki, "Plaintext").
use Rattle.std.specs.Prelude.{◌==◌, ℕ, zero, suc, ℤ, pos, ◌+◌, ◌+ℤ◌, ◌<◌, Bool, not, ◌&&◌, ◌||◌, List, [], ◌∷◌}
use Rattle.std.specs.Prelude.{◌++◌, Option, None, Some, Result, Ok, Err, codes, decimal, map, filter, nat_lt, if◌then◌else◌}
use Rattle.std.specs.List.{slice_get, filter_map, flat_map}
use Rattle.plane_core.specs.declared.plane.cell.Cell.{Cell}
use Rattle.plane_core.specs.declared.plane.bounds.Bounds.{Bounds}
use Rattle.plane_core.specs.declared.plaintext.PlaintextFault.{PlaintextFault}
use Rattle.plane_core.specs.declared.plaintext.PlaintextFault.TheVariants.{BadByte, TooLarge}
use Rattle.plane_core.specs.plane.Cells.{cell_at, distance, has}
use Rattle.plane_core.specs.plane.Bounds.{box_of}
use Rattle.plane_core.specs.PlaintextPlaces.{dot, letter_o, star, line_feed, side_limit, Place, places}

-- the byte is a live cell: `O` or `*`
abbrev pub is_live : ℕ → Bool
is_live b = b == letter_o || b == star

-- the byte is a cell: `.`, which is dead, or a live cell
abbrev pub is_cell : ℕ → Bool
is_cell b = b == dot || is_live b

-- the fault at a place, if there is one: a byte that isn't a cell, or otherwise a column or a row past the 1,000th
unfoldable pub fault_at : Place → Option PlaintextFault
fault_at p = if not (is_cell p.byte) then Some (BadByte p.line (p.x + 1))
    else (if nat_lt p.x side_limit && nat_lt p.y side_limit then None else Some TooLarge)

-- the message of a fault
abbrev pub fault_text : PlaintextFault → List ℕ
fault_text (BadByte line column) = codes "bad byte at line " ++ decimal line ++ codes " column " ++ decimal column
fault_text TooLarge = codes "pattern larger than 1000 by 1000"

-- the fault at the first of these places that has one
unfoldable pub first_fault : List Place → Option PlaintextFault
first_fault ps = slice_get (filter_map fault_at ps) 0

-- the live cells at these places
unfoldable pub live_cells : List Place → List Cell
live_cells ps = map (λ p. cell_at (pos p.x) (pos p.y)) (filter (λ p. is_live p.byte) ps)

-- the fault, or the cells if there is none
abbrev pub cells_unless : Option PlaintextFault → List Cell → Result (List Cell) PlaintextFault
cells_unless None cells = Ok cells
cells_unless (Some fault) cells = Err fault

-- the pattern of a text: its live cells, or its first fault
abbrev pub pattern : List ℕ → Result (List Cell) PlaintextFault
pattern text = cells_unless (first_fault (places text)) (live_cells (places text))

-- n successive numbers, from a on
abbrev pub run : ℤ → ℕ → List ℤ
run a zero = []
run a (suc n) = a ∷ run (a +ℤ pos 1) n

-- the numbers from a to b, both included
abbrev pub span : ℤ → ℤ → List ℤ
span a b = run a (suc (distance a b))

-- the byte that is written for a cell
abbrev pub byte_of : Bool → ℕ
byte_of live = if live then letter_o else dot

-- the text of row y: a byte for each column of the box, from the left, and then a line feed
unfoldable pub row_text : List Cell → Bounds → ℤ → List ℕ
row_text cells b y = map (λ x. byte_of (has cells (cell_at x y))) (span b.left b.right) ++ line_feed ∷ []

-- the text of all rows of the box, from the top
unfoldable pub box_text : Option Bounds → List Cell → List ℕ
box_text None cells = []
box_text (Some b) cells = flat_map (row_text cells b) (span b.top b.bottom)

-- the plaintext of a pattern: the rows of its smallest box
unfoldable pub plain : List Cell → List ℕ
plain cells = box_text (box_of cells) cells

-- the box is at most 1,000 wide and 1,000 high
pub record FitsThousandSquare (b : Bounds) : Type 0 where
  pub width : distance b.left b.right < side_limit
  pub height : distance b.top b.bottom < side_limit
