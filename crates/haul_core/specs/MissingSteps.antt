-- A test for a missing number: no worker is recorded for it.
use Rattle.std.specs.Prelude.{ℕ, Bool, not, List, nat_eq}
use Rattle.std.specs.Map.{lookup}
use Rattle.std.specs.Option.{is_some}

-- no worker has reported the soup with this number
abbrev pub has_no_worker : List (ℕ × ℕ) → ℕ → Bool
has_no_worker workers n = not (is_some (lookup (nat_eq n) workers))
