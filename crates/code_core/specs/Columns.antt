-- The values of columns of five cells, and the cells that the tokens of an extended Wechsler text stand for.
use Rattle.std.specs.Prelude.{◌≡◌, ◌==◌, ◌+◌, ◌*◌, ◌/◌, ◌%◌, ◌^◌, ℕ, pos, Bool, List, [], ◌∷◌, ◌++◌, Some, map, filter, if◌then◌else◌}
use Rattle.std.specs.List.{range_with_len}
use Rattle.plane_core.specs.declared.plane.cell.Cell.{Cell}
use Rattle.plane_core.specs.declared.plane.bounds.Bounds.{Bounds}
use Rattle.plane_core.specs.plane.Bounds.{box_of}
use Rattle.plane_core.specs.plane.Cells.{cell_at, has, set_of}
use Rattle.plane_core.specs.windows.Rows.{ShowsInAllRows}
use Rattle.code_core.specs.declared.reader.Token.{Token}
use Rattle.code_core.specs.declared.reader.Token.TheVariants.{Column, Gap, NextStrip}

-- the value of a column, whose cells are read as binary digits: the first counts 1, the next 2, then 4
abbrev pub value_of : List Bool → ℕ
value_of [] = 0
value_of (live ∷ more) = (if live then 1 else 0) + 2 * value_of more

-- the cell that counts 2^i is alive in a column with this value
abbrev pub is_lit : ℕ → ℕ → Bool
is_lit value i = (value / 2 ^ i) % 2 == 1

-- the five rows of strip k, from row 5k on
abbrev pub strip_rows : ℕ → List ℕ
strip_rows k = range_with_len (5 * k) 5

-- the value of column x of strip k, where the top cell counts 1
unfoldable pub column : List Cell → ℕ → ℕ → ℕ
column cells k x = value_of (map (λ y. has cells (cell_at (pos x) (pos y))) (strip_rows k))

-- the live cells of column x of strip k, if this column has the given value
unfoldable pub lit_cells : ℕ → ℕ → ℕ → List Cell
lit_cells k x value = map (λ i. cell_at (pos x) (pos (5 * k + i))) (filter (is_lit value) (range_with_len 0 5))

-- the cells of some tokens, the first of which begins at column x of strip k
unfoldable pub cells_from : ℕ → ℕ → List Token → List Cell
cells_from k x [] = []
cells_from k x (Column value ∷ tokens) = lit_cells k x value ++ cells_from k (x + 1) tokens
cells_from k x (Gap n ∷ tokens) = cells_from k (x + n) tokens
cells_from k x (NextStrip ∷ tokens) = cells_from (k + 1) 0 tokens

-- the pattern of some tokens, with the top left cell of its first strip at (0, 0)
abbrev pub token_cells : List Token → List Cell
token_cells tokens = set_of (cells_from 0 0 tokens)

-- the pattern has this box, and the bits of `rows` are its cells, counted from the corner of the box
pub record IsBoxed (b : Bounds) (rows : List ℕ) (cells : List Cell) : Type 0 where
  pub boxed : box_of cells ≡ Some b
  pub shown : ShowsInAllRows b.left b.top rows cells
