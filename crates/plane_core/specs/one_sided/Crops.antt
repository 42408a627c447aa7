-- Some rows of a window of 64 rows, as a smaller window.
use Rattle.std.specs.Prelude.{◌≡◌, ◌+◌, ◌*◌, ◌<◌, ◌≤◌, ℕ, List, slice_index}
use Rattle.plane_core.specs.windows.Windows.{row_at}

-- the smaller window, of n vectors, consists of the 4 n rows from row `from` on
abbrev pub IsCrop : ℕ → ℕ → List ℕ → List (List ℕ) → Type 0
IsCrop n from rows part = (r : ℕ) → r < 4 * n → row_at n part r ≡ slice_index rows (from + r)

-- the rows from `from` to before `from + many` are in the window of 64 rows, and contain all live cells of the window
pub record LiesInCrop (many from : ℕ) (rows : List ℕ) : Type 0 where
  pub low : from + many ≤ 64
  pub above : (r : ℕ) → r < from → slice_index rows r ≡ 0
  pub below : (r : ℕ) → from + many ≤ r → r < 64 → slice_index rows r ≡ 0
