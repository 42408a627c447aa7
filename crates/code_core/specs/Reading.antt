-- The pattern of a text in extended Wechsler format (LifeWiki, "Apgcode").
use Rattle.std.specs.Prelude.{◌≡◌, ◌==◌, ◌+◌, ◌-◌, ℕ, not, List, [], ◌∷◌, length, Result, Ok, Err, nat_lt}
use Rattle.std.specs.Prelude.{if◌then◌else◌}
use Rattle.plane_core.specs.declared.plane.cell.Cell.{Cell}
use Rattle.code_core.specs.declared.reader.Token.{Token}
use Rattle.code_core.specs.declared.reader.Token.TheVariants.{Column, Gap, NextStrip}
use Rattle.code_core.specs.declared.reader.WechslerFault.{WechslerFault}
use Rattle.code_core.specs.declared.reader.WechslerFault.TheVariants.{TooLong, BadByte, ShortRun, Empty}
use Rattle.code_core.specs.Columns.{token_cells}
use Rattle.code_core.specs.Texts.{text}
use Rattle.code_core.specs.Tokens.{Spells, is_character}

-- the value of a character: 0 to 9 for `0` to `9`, then 10 to 35 for `a` to `z`
unfoldable pub character_value : ℕ → ℕ
character_value b = if nat_lt b 58 then b - 48 else b - 87

-- the token of a character other than `y`: `0` (48), `w` (119) and `x` (120) are runs of 1, 2 and 3 empty columns, `z`
-- (122) begins the next strip, and any other character is a column
unfoldable pub single : ℕ → Token
single b =
    if b == 48 then Gap 1
    else if b == 119 then Gap 2
    else if b == 120 then Gap 3
    else if b == 122 then NextStrip
    else Column (character_value b)

-- the token of `y` and the character c after it: a run of 4 to 39 empty columns
abbrev pub long_gap : ℕ → Token
long_gap c = Gap (character_value c + 4)

-- these tokens with one more before them, or the fault that was found instead of them
abbrev pub with_token : Token → Result (List Token) WechslerFault → Result (List Token) WechslerFault
with_token token (Ok tokens) = Ok (token ∷ tokens)
with_token token (Err fault) = Err fault

-- the tokens of the rest of a text, which begins at this place, or the first fault in it: a byte that isn't `0` to `9`
-- or `a` to `z`, or a `y` (121) with none of these after it
unfoldable pub tokens_at : ℕ → List ℕ → Result (List Token) WechslerFault
tokens_at place [] = Ok []
tokens_at place (b ∷ []) =
    if not (is_character b) then Err (BadByte place)
    else if b == 121 then Err (ShortRun place)
    else Ok (single b ∷ [])
tokens_at place (b ∷ c ∷ remainder) =
    if not (is_character b) then Err (BadByte place)
    else if not (b == 121) then with_token (single b) (tokens_at (place + 1) (c ∷ remainder))
    else if is_character c then with_token (long_gap c) (tokens_at (place + 2) remainder)
    else Err (ShortRun place)

-- the pattern, or the fault `Empty` if it has no live cell
abbrev pub unless_empty : List Cell → Result (List Cell) WechslerFault
unless_empty [] = Err Empty
unless_empty (c ∷ cs) = Ok (c ∷ cs)

-- the pattern of the tokens, or a fault
abbrev pub pattern_of_tokens : Result (List Token) WechslerFault → Result (List Cell) WechslerFault
pattern_of_tokens (Ok tokens) = unless_empty (token_cells tokens)
pattern_of_tokens (Err fault) = Err fault

-- the pattern of a text, or its fault
abbrev pub wechsler_pattern : List ℕ → Result (List Cell) WechslerFault
wechsler_pattern text = pattern_of_tokens (tokens_at 0 text)

-- The pattern of a text, or its fault, which is `TooLong` for more than 10,000 bytes. This limit is the project's own,
-- far above the 327 bytes of the longest text of a pattern.
abbrev pub wechsler_read : List ℕ → Result (List Cell) WechslerFault
wechsler_read text = if nat_lt 10000 (length text) then Err TooLong else wechsler_pattern text

-- the text describes the pattern: some tokens spell the text, and their cells are the pattern
pub record Says (text : List ℕ) (cells : List Cell) : Type 0 where
  pub tokens : List Token
  pub spells : Spells tokens text
  pub pattern : cells ≡ token_cells tokens
