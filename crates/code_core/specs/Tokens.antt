-- The pieces of a text in extended Wechsler format (LifeWiki, "Apgcode").
use Rattle.std.specs.Prelude.{◌≡◌, ◌==◌, ◌+◌, ◌-◌, ◌≤◌, ℕ, Bool, ◌||◌, List, [], ◌∷◌, ◌++◌, All, codes, flat_map, nat_lt, if◌then◌else◌}
use Rattle.std.specs.Char.{is_ascii_digit, is_ascii_lowercase}
use Rattle.code_core.specs.declared.reader.Token.{Token}
use Rattle.code_core.specs.declared.reader.Token.TheVariants.{Column, Gap, NextStrip}

-- the byte is a character of a text: `0` to `9` or `a` to `z`
unfoldable pub is_character : ℕ → Bool
is_character b = is_ascii_digit b || is_ascii_lowercase b

-- the character of a value: `0` to `9` (48 to 57) for 0 to 9, then `a` to `z` (97 to 122) for 10 to 35
unfoldable pub character : ℕ → ℕ
character value = if nat_lt value 10 then 48 + value else 87 + value

-- the text of a run of n empty columns: `0`, `w` and `x` for n = 1 to 3, and for n = 4 to 39, `y` followed by the
-- character of n - 4
unfoldable pub gap_text : ℕ → List ℕ
gap_text n =
    if n == 1 then codes "0"
    else if n == 2 then codes "w"
    else if n == 3 then codes "x"
    else codes "y" ++ character (n - 4) ∷ []

-- the character that begins a run of this length: `0` (48), `w` (119), `x` (120) or `y` (121)
abbrev pub gap_start : ℕ → ℕ
gap_start n = if n == 1 then 48 else if n == 2 then 119 else if n == 3 then 120 else 121

-- the text of a token, where `z` begins the next strip
abbrev pub spelling : Token → List ℕ
spelling (Column value) = character value ∷ []
spelling (Gap n) = gap_text n
spelling NextStrip = codes "z"

-- a token is a column with a live cell, a run of 1 to 39 empty columns, or the beginning of the next strip
abbrev pub IsToken : Token → Type 0
IsToken (Column value) = (1 ≤ value) × (value ≤ 31)
IsToken (Gap n) = (1 ≤ n) × (n ≤ 39)
IsToken NextStrip = Unit {0}

-- the tokens spell the text: it consists of their texts, one after another
pub record Spells (tokens : List Token) (text : List ℕ) : Type 0 where
  pub each : All IsToken tokens
  pub spelled : flat_map spelling tokens ≡ text
