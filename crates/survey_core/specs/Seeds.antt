-- Seeds: the texts from which soups are made.
use Rattle.std.specs.Prelude.{◌≡◌, ◌≤◌, ◌&&◌, ℕ, Bool, true, not, List, length, position, Option, None, Some, Result, Ok, Err, nat_le, nat_lt, if◌then◌else◌}
use Rattle.std.specs.List.{list_all}
use Rattle.survey_core.specs.declared.seed.SeedFault.{SeedFault}
use Rattle.survey_core.specs.declared.seed.SeedFault.TheVariants.{BadByte, TooLong}

-- the most bytes of a seed: this project's choice
abbrev pub most_bytes : ℕ
most_bytes = 64

-- `!` (33) to `~` (126): the visible ASCII characters
abbrev pub is_visible : ℕ → Bool
is_visible b = nat_le 33 b && nat_le b 126

abbrev pub is_invisible : ℕ → Bool
is_invisible b = not (is_visible b)

-- a seed is a text of at most 64 bytes, each one visible; it may be empty
pub record IsSeed (bytes : List ℕ) : Type 0 where
  pub short : length bytes ≤ most_bytes
  pub visible : list_all is_visible bytes ≡ true

-- the seed, or an error at the place of the first byte that isn't visible, if there is one
abbrev pub seed_with_fault : List ℕ → Option ℕ → Result (List ℕ) SeedFault
seed_with_fault text None = Ok text
seed_with_fault text (Some place) = Err (BadByte place)

-- the seed with this text, or the text's fault: first its length is checked, and then its bytes from the left
abbrev pub seed_read : List ℕ → Result (List ℕ) SeedFault
seed_read text = if nat_lt most_bytes (length text) then Err TooLong else seed_with_fault text (position is_invisible text)
