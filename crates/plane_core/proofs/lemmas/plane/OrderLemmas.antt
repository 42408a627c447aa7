-- Simple facts about the order of numbers, which have names so that a proof needn't search for them.
use Rattle.std.proofs.Common.{◌≡◌, ◌≢◌, ◌+◌, ◌-◌, ◌*◌, ◌<◌, ◌≤◌, Fits, ℕ, arith, w64}

pub below_too : (a b m : ℕ) → a < b → b ≤ m → a < m
below_too a b m low most = omega (arith, low, most)

pub not_both : (a b : ℕ) → a < b → b ≤ a → ⊥
not_both a b low high = omega (arith, low, high)

pub none_below : (a b : ℕ) → b ≡ 0 → a < b → ⊥
none_below a b none low = omega (arith, none, low)

pub itself : (a : ℕ) → a ≤ a
itself a = omega arith

pub some_of : (n : ℕ) → n ≢ 0 → 0 < n
some_of n some = omega (arith, some)

pub last_low : (n : ℕ) → 0 < n → n - 1 < n
last_low n some = omega (arith, some)

pub past_too : (k m : ℕ) → k ≤ m → k ≤ m + 1
past_too k m past = omega (arith, past)

pub fits_next : (n m : ℕ) → n < m → Fits w64 m → Fits w64 (n + 1)
fits_next n m low fits = let h = fits.fits in record { fits = omega (arith, low, h) }

pub at_end : (k n : ℕ) → k ≤ n → n ≤ k → k ≡ n
at_end k n low high = omega (arith, low, high)

pub last_next : (n : ℕ) → 0 < n → n - 1 + 1 ≡ n
last_next n some = omega (arith, some)

pub below_same : (k n m : ℕ) → k < n → m ≡ n → k < m
below_same k n m low same = omega (arith, low, same)

-- ---- windows of 10 to 16 vectors

pub few_vectors : (n : ℕ) → n ≤ 16 → n * 32 < 9223372036854775808
few_vectors n few = omega (arith, few)

pub ten_are_some : (n : ℕ) → 10 ≤ n → 0 < n
ten_are_some n some = omega (arith, some)

pub first_row_low : (n : ℕ) → 0 < n → 0 < 4 * n
first_row_low n some = omega (arith, some)

pub last_row_low : (n : ℕ) → 0 < n → 4 * n - 1 < 4 * n
last_row_low n some = omega (arith, some)

pub inner_low : (r n depth : ℕ) → r < 4 * n - depth → r < 4 * n
inner_low r n depth low = omega (arith, low)

pub rows_deep : (n depth : ℕ) → 10 ≤ n → depth < 20 → depth ≤ 4 * n
rows_deep n depth some low = omega (arith, some, low)

pub columns_deep : (depth : ℕ) → depth < 20 → depth < 32
columns_deep depth low = omega (arith, low)
