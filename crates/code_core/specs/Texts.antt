-- The text of a pattern in extended Wechsler format (LifeWiki, "Apgcode").
use Rattle.std.specs.Prelude.{◌≡◌, ◌≤◌, length, ◌+◌, ◌/◌, ℕ, zero, suc, Bool, true, ◌&&◌, List, [], ◌∷◌, ◌++◌, Option, None, Some, map, flat_map}
use Rattle.std.specs.Prelude.{nat_lt, if◌then◌else◌}
use Rattle.std.specs.List.{list_all, range_with_len}
use Rattle.plane_core.specs.declared.plane.cell.Cell.{Cell}
use Rattle.plane_core.specs.declared.plane.bounds.Bounds.{Bounds}
use Rattle.plane_core.specs.plane.Bounds.{at_corner, box_of}
use Rattle.plane_core.specs.plane.Cells.{InOrder, distance}
use Rattle.code_core.specs.declared.reader.Token.{Token}
use Rattle.code_core.specs.declared.reader.Token.TheVariants.{Column, Gap, NextStrip}
use Rattle.code_core.specs.Columns.{token_cells, column}
use Rattle.code_core.specs.Tokens.{Spells, is_character, spelling}

-- The tokens of a strip, with a column of this value added before them. An empty column lengthens the gap that follows
-- it, is a new gap if another token follows, and is left out if no token follows.
abbrev pub before : ℕ → List Token → List Token
before zero [] = []
before zero (Gap n ∷ tokens) = Gap (n + 1) ∷ tokens
before zero (token ∷ tokens) = Gap 1 ∷ token ∷ tokens
before (suc value) tokens = Column (suc value) ∷ tokens

-- the tokens of a strip whose columns have these values
unfoldable pub strip_tokens : List ℕ → List Token
strip_tokens [] = []
strip_tokens (value ∷ values) = before value (strip_tokens values)

-- the values of the first `width` columns of strip k, from the left
abbrev pub strip : List Cell → ℕ → ℕ → List ℕ
strip cells width k = map (column cells k) (range_with_len 0 width)

-- the tokens of all strips from the top, with `NextStrip` between two strips
abbrev pub joined_strips : List (List Token) → List Token
joined_strips [] = []
joined_strips (tokens ∷ []) = tokens
joined_strips (tokens ∷ more ∷ strips) = tokens ++ NextStrip ∷ joined_strips (more ∷ strips)

-- the tokens of a pattern at the corner, whose last column is `right` and whose last row is `bottom`: one strip for
-- every five rows
unfoldable pub tokens_of : List Cell → ℕ → ℕ → List Token
tokens_of cells right bottom = joined_strips (map (λ k. strip_tokens (strip cells (right + 1) k)) (range_with_len 0 (bottom / 5 + 1)))

-- the box is at most 40 columns by 40 rows: a larger object has no text (LifeWiki, "Apgcode")
abbrev pub fits_forty_square : Bounds → Bool
fits_forty_square b = nat_lt (distance b.left b.right) 40 && nat_lt (distance b.top b.bottom) 40

-- the text of a pattern whose box is given; `None` if there is no box or the box is too large
abbrev pub boxed_text : List Cell → Option Bounds → Option (List ℕ)
boxed_text cells None = None
boxed_text cells (Some b) =
    if fits_forty_square b
    then Some (flat_map spelling (tokens_of (at_corner cells) (distance b.left b.right) (distance b.top b.bottom)))
    else None

-- the text of a pattern, wherever it is; `None` if it is empty or its box has more than 40 columns or rows
unfoldable pub text : List Cell → Option (List ℕ)
text cells = boxed_text cells (box_of cells)

-- the first token is a `Column`
abbrev pub BeginsWithColumn : List Token → Type 0
BeginsWithColumn [] = ⊥
BeginsWithColumn (Gap n ∷ tokens) = ⊥
BeginsWithColumn (Column value ∷ tokens) = Unit {0}
BeginsWithColumn (NextStrip ∷ tokens) = ⊥

-- every gap is followed by a column with a live cell: no run of empty columns is in two pieces, and none ends a strip
abbrev pub GapsAreWhole : List Token → Type 0
GapsAreWhole [] = Unit {0}
GapsAreWhole (Gap n ∷ tokens) = BeginsWithColumn tokens × GapsAreWhole tokens
GapsAreWhole (Column value ∷ tokens) = GapsAreWhole tokens
GapsAreWhole (NextStrip ∷ tokens) = GapsAreWhole tokens

-- each text of a pattern is spelled by tokens whose gaps are whole, and whose cells are the pattern, moved to the
-- corner
abbrev pub TextsSpellPatterns : Type 0
TextsSpellPatterns = (cells : List Cell) (t : List ℕ) → InOrder cells → text cells ≡ Some t
    → (tokens : List Token) × Spells tokens t × GapsAreWhole tokens × (token_cells tokens ≡ at_corner cells)

-- a text has at most 327 bytes (40 for each of eight strips, and the seven `z`s between them), each of which is `0` to
-- `9` or `a` to `z`
pub record HasTextShape (t : List ℕ) : Type 0 where
  pub short : length t ≤ 327
  pub characters : list_all is_character t ≡ true

-- the text of each pattern has this shape
abbrev pub TextsHaveTheirShape : Type 0
TextsHaveTheirShape = (cells : List Cell) (t : List ℕ) → text cells ≡ Some t → HasTextShape t
