-- Apgcodes as texts: how an apgcode is written, and how its kind and its number are read (LifeWiki, "Apgcode").
use Rattle.std.specs.Prelude.{◌≡◌, ◌==◌, ◌≤◌, ◌&&◌, ◌||◌, ℕ, Bool, true, List, [], ◌++◌, Option, None, Some, codes, decimal, drop, length, nat_eq}
use Rattle.std.specs.Prelude.{nat_le, slice_index, take_while, if◌then◌else◌}
use Rattle.std.specs.List.{list_all, starts_with}
use Rattle.std.specs.Str.Parse.{digits_value}
use Rattle.code_core.specs.declared.apgcode.Kind.{Kind}
use Rattle.code_core.specs.declared.apgcode.Kind.TheVariants.{Still, Oscillator, Ship}
use Rattle.code_core.specs.Tokens.{is_character}

-- the letter of a kind
abbrev pub letter : Kind → List ℕ
letter Still = codes "s"
letter Oscillator = codes "p"
letter Ship = codes "q"

-- how an apgcode begins: with `x` if the object has a text, and with `ov_` if it is too large for one
abbrev pub opening : Option (List ℕ) → List ℕ
opening None = codes "ov_"
opening (Some t) = codes "x"

-- how an apgcode ends: with `_` and the text of the object, if it has one
abbrev pub ending : Option (List ℕ) → List ℕ
ending None = []
ending (Some t) = codes "_" ++ t

-- the apgcode of an object of this kind, with this number and text
unfoldable pub code_text : Kind → ℕ → Option (List ℕ) → List ℕ
code_text kind number text = opening text ++ (letter kind ++ (decimal number ++ ending text))

-- an apgcode from the letter of its kind on, without the `x` or `ov_` before this letter
abbrev pub from_letter : List ℕ → List ℕ
from_letter code = if starts_with nat_eq code (codes "ov_") then drop 3 code else drop 1 code

-- the kind that a letter stands for: `s` (115) is a still life, `p` (112) an oscillator, and any other letter, such as
-- `q`, a spaceship
abbrev pub kind_of_letter : ℕ → Kind
kind_of_letter letter = if letter == 115 then Still else if letter == 112 then Oscillator else Ship

-- the kind of an apgcode, by its letter
unfoldable pub kind_in : List ℕ → Kind
kind_in code = kind_of_letter (slice_index (from_letter code) 0)

-- the byte is a digit, `0` (48) to `9` (57)
abbrev pub is_digit : ℕ → Bool
is_digit b = nat_le 48 b && nat_le b 57

-- the number in an apgcode, whose digits follow the letter
unfoldable pub number_in : List ℕ → ℕ
number_in code = digits_value 10 (take_while is_digit (drop 1 (from_letter code)))

-- the byte may be in an apgcode: `0` to `9`, `a` to `z` and `_` (95)
abbrev pub is_code_byte : ℕ → Bool
is_code_byte b = is_character b || b == 95

-- An apgcode has 1 to 400 bytes, each one of `0` to `9`, `a` to `z` and `_`. The limit of 400 is this project's own: an
-- object's text has at most 327 bytes, and the rest of its apgcode fewer than 30 if the number in it fits in 64 bits.
pub record HasCodeShape (code : List ℕ) : Type 0 where
  pub some : 1 ≤ length code
  pub short : length code ≤ 400
  pub bytes : list_all is_code_byte code ≡ true
