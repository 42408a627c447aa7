-- The places of a plaintext pattern file: the bytes of its rows (LifeWiki, "Plaintext").
use Rattle.std.specs.Prelude.{◌==◌, ℕ, Bool, false, not, List, [], ◌∷◌, map, filter}
use Rattle.std.specs.List.{slice_index, slice_index_or, slice_split, flat_map, enumerate_from}
use Rattle.std.specs.Str.Lines.{strip_carriage_return}

-- a dead cell: `.`
abbrev pub dot : ℕ
dot = 46

-- a live cell: `O`
abbrev pub letter_o : ℕ
letter_o = 79

-- another byte for a live cell: `*`
abbrev pub star : ℕ
star = 42

-- the first byte of a comment: `!`
abbrev pub exclamation_mark : ℕ
exclamation_mark = 33

-- the end of a line
abbrev pub line_feed : ℕ
line_feed = 10

-- cells, dead or alive, may be only in the first 1,000 columns and the first 1,000 rows: this project's limit
abbrev pub side_limit : ℕ
side_limit = 1000

-- the lines of a text, each without a carriage return at its end; an empty line follows a final line feed
unfoldable pub lines_of : List ℕ → List (List ℕ)
lines_of text = map strip_carriage_return (slice_split (λ b. b == line_feed) text)

-- the line is a comment: it begins with `!`
abbrev pub is_comment : List ℕ → Bool
is_comment [] = false
is_comment (b ∷ bs) = b == exclamation_mark

-- the rows: the lines that aren't comments, each with its line number, counted from 1
unfoldable pub rows_of : List ℕ → List (ℕ × List ℕ)
rows_of text = filter (λ line. not (is_comment line.1)) (enumerate_from 1 (lines_of text))

-- a place: a byte of a row, the number of its line, and the y and x of its cell
pub record Place : Type 0 where
  pub line : ℕ
  pub y : ℕ
  pub x : ℕ
  pub byte : ℕ

-- the places of row y from the left
abbrev pub places_of_row : ℕ × (ℕ × List ℕ) → List Place
places_of_row (y, row) = map (λ at. record { line = row.0; y = y; x = at.0; byte = at.1 }) (enumerate_from 0 row.1)

-- the places of a text: each byte of each row, in order
unfoldable pub places : List ℕ → List Place
places text = flat_map places_of_row (enumerate_from 0 (rows_of text))

-- the byte at column x of row y, or 0 if there is none
abbrev pub byte_at : List ℕ → ℕ → ℕ → ℕ
byte_at text x y = slice_index (slice_index_or (map (λ row. row.1) (rows_of text)) y []) x
