-- Where two windows of n vectors differ.
use Rattle.std.specs.Prelude.{◌≡◌, ◌+◌, ◌*◌, ◌<◌, ◌≤◌, ℕ, List}
use Rattle.std.specs.Int.{bit_at}
use Rattle.plane_core.specs.declared.engine.difference_box.DifferenceMask.{DifferenceMask}
use Rattle.plane_core.specs.windows.Windows.{row_at}

-- the two windows have the same bit in column i of row r
abbrev pub IsSameBit : ℕ → List (List ℕ) → List (List ℕ) → ℕ → ℕ → Type 0
IsSameBit n one other r i = bit_at (row_at n one r) i ≡ bit_at (row_at n other r) i

-- if the two windows differ in an inner cell, `change` marks the cell's column and its row
pub record DiffersOnlyIn (n : ℕ) (change : DifferenceMask) (one other : List (List ℕ)) : Type 0 where
  pub columns : (r i : ℕ) → 4 ≤ r → r + 4 < 4 * n → 4 ≤ i → i < 60 → bit_at change.columns i ≡ 0 → IsSameBit n one other r i
  pub rows : (r i : ℕ) → 4 ≤ r → r + 4 < 4 * n → 4 ≤ i → i < 60 → bit_at change.rows r ≡ 0 → IsSameBit n one other r i
