-- How a reader goes through a text, token by token (LifeWiki, "Apgcode").
use Rattle.std.specs.Prelude.{◌≡◌, ℕ, Bool, false, true, List, [], ◌∷◌, ◌++◌, Option, None, Some, if◌then◌else◌}
use Rattle.code_core.specs.declared.reader.Token.{Token}
use Rattle.code_core.specs.declared.reader.Token.TheVariants.{Column, Gap, NextStrip}
use Rattle.code_core.specs.declared.reader.WechslerFault.{WechslerFault}
use Rattle.code_core.specs.declared.reader.WechslerFault.TheVariants.{BadByte, ShortRun}
use Rattle.code_core.specs.Tokens.{spelling, IsToken, is_character}

-- the text begins with the token, and then the remainder follows
pub record Begins (text : List ℕ) (token : Token) (remainder : List ℕ) : Type 0 where
  pub is_token : IsToken token
  pub spelled : text ≡ spelling token ++ remainder

-- the text begins with a character
abbrev pub has_character : List ℕ → Bool
has_character [] = false
has_character (c ∷ remainder) = is_character c

-- no token begins the text: it is empty, or begins with a byte that isn't a character, or with a `y` (121) with no
-- character after it
abbrev pub IsStuck : List ℕ → Type 0
IsStuck [] = Unit {0}
IsStuck (b ∷ remainder) = is_character b ≡ true → (b ≡ 121) × (has_character remainder ≡ false)

-- the fault at a place where no token begins: `ShortRun` if a character is there (it is a `y` without a length),
-- `BadByte` if another byte is there, and `None` at the end of the text
abbrev pub fault_without_token : ℕ → List ℕ → Option WechslerFault
fault_without_token place [] = None
fault_without_token place (b ∷ remainder) = Some (if is_character b then ShortRun place else BadByte place)

-- the token is a `Column`
abbrev pub is_column : Token → Bool
is_column (Column value) = true
is_column (Gap n) = false
is_column NextStrip = false
