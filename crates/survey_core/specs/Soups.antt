-- Soups: 16 by 16 cells from the 256 bits of a SHA-256 digest (FIPS 180-4).
use Rattle.std.specs.Prelude.{◌≡◌, ◌<◌, ◌==◌, ◌+◌, ◌-◌, ◌*◌, ◌/◌, ◌%◌, ◌^◌, ◌++◌, ℕ, pos, Bool, List, decimal, filter, map, slice_index}
use Rattle.std.specs.List.{range_with_len}
use Rattle.plane_core.specs.declared.plane.cell.Cell.{Cell}
use Rattle.plane_core.specs.declared.plane.bounds.Bounds.{Bounds}
use Rattle.plane_core.specs.plane.Cells.{cell_at, has, set_of}
use Rattle.sha2.specs.Sha256.{sha256}

-- the digest's bit for column x of row y is set: bit 7 - x mod 8 of byte 2y + x div 8 (bit 7 is the most significant)
abbrev pub is_set : List ℕ → ℕ → ℕ → Bool
is_set digest x y = (slice_index digest (2 * y + x / 8) / 2 ^ (7 - x % 8)) % 2 == 1

-- the cell at a place of the square; places are counted row by row, from 0 to 255
abbrev pub square_cell : ℕ → Cell
square_cell place = cell_at (pos (place % 16)) (pos (place / 16))

-- the cell at this place is alive
unfoldable pub is_alive_at : List ℕ → ℕ → Bool
is_alive_at digest place = is_set digest (place % 16) (place / 16)

-- the live cells at the first n places
unfoldable pub live_in_square : List ℕ → ℕ → List Cell
live_in_square digest n = map square_cell (filter (is_alive_at digest) (range_with_len 0 n))

-- the soup of a digest: the cells of the square, columns 0 to 15 of rows 0 to 15, whose bit is set
abbrev pub soup_of : List ℕ → List Cell
soup_of digest = set_of (live_in_square digest 256)

-- the soup of this seed and number: the hashed message is the seed's bytes, followed by the number in decimal
abbrev pub soup : List ℕ → ℕ → List Cell
soup seed number = soup_of (sha256 (seed ++ decimal number))

-- where every soup lies: columns 0 to 15 of rows 0 to 15
abbrev pub square : Bounds
square = record { left = pos 0; top = pos 0; right = pos 15; bottom = pos 15 }

-- the soup cell by cell: the cell in column x of row y is alive if and only if its bit is set
abbrev pub SoupsByCells : Type 0
SoupsByCells = (seed : List ℕ) (number x y : ℕ) → x < 16 → y < 16
    → has (soup seed number) (cell_at (pos x) (pos y)) ≡ is_set (sha256 (seed ++ decimal number)) x y
