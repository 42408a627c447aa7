-- Words of 64 cells of a row: bit i of a word is 1 if the cell in its column i is alive. Columns count from the left,
-- from 0.
use Rattle.std.specs.Prelude.{◌==◌, ◌+◌, ℕ, zero, suc, Bool, true, false, [], ◌∷◌, if◌then◌else◌}
use Rattle.std.specs.Int.{bit_at}
use Rattle.plane_core.specs.plane.Rules.{Numbers}

-- 1 for a live cell, 0 for a dead one
abbrev pub one_if : Bool → ℕ
one_if b = if b then 1 else 0

-- the bit of the cell to the left of column i; if i is 0, that is the last cell of the previous word
abbrev pub west_of : ℕ → ℕ → ℕ → ℕ
west_of before here zero = bit_at before 63
west_of before here (suc i) = bit_at here i

-- the bit of the cell to the right of column i; if i is 63, that is the first cell of the next word
abbrev pub east_of : ℕ → ℕ → ℕ → ℕ
east_of here after i = if i == 63 then bit_at after 0 else bit_at here (i + 1)

-- Conway's Life: birth for 3 neighbours, survival for 2 or 3
abbrev pub life : Numbers
life = record {
  births = false ∷ false ∷ true ∷ false ∷ false ∷ false ∷ false ∷ false ∷ [];
  survivals = false ∷ false ∷ true ∷ true ∷ false ∷ false ∷ false ∷ false ∷ false ∷ [];
}
