-- Tickets: numbers that threads draw, each once.
use Rattle.std.specs.Prelude.{◌≡◌, ◌≤◌, ℕ, Bool, true, false, List, [], ◌∷◌, ◌++◌, count_by, flat_map, nat_eq, nat_lt, if◌then◌else◌}
use Rattle.atomic_table.specs.Seated.{TableId}

-- a series of tickets: its identity, how many numbers it has, and how many passes
pub record Series : Type 0 where
  pub name : TableId
  pub count : ℕ
  pub passes : ℕ

-- what contracts see of a pass: its series, the numbers that it drew, in order, and whether a draw returned `None`
pub record Drawn : Type 0 where
  pub series : Series
  pub numbers : List ℕ
  pub heard_none : Bool

-- a pass that has drawn nothing
abbrev pub fresh : Series → Drawn
fresh series = record { series = series; numbers = []; heard_none = false }

-- the pass after it drew n
abbrev pub with_drawn : ℕ → Drawn → Drawn
with_drawn n pass = record { series = pass.series; numbers = pass.numbers ++ n ∷ []; heard_none = pass.heard_none }

-- the pass after a draw returned `None`
abbrev pub with_none : Drawn → Drawn
with_none pass = record { series = pass.series; numbers = pass.numbers; heard_none = true }

-- all numbers that the passes drew
abbrev pub drawn_by_all : List Drawn → List ℕ
drawn_by_all passes = flat_map (λ p. p.numbers) passes

-- how many of the passes got `None` from a draw
abbrev pub how_many_heard : List Drawn → ℕ
how_many_heard passes = count_by (λ p. p.heard_none) passes

-- 1 for a number below m, and 0 for any other
abbrev pub once_below : ℕ → ℕ → ℕ
once_below m n = if nat_lt n m then 1 else 0

-- some of the numbers below m, each at most once
abbrev pub AreSomeBelow : ℕ → List ℕ → Type 0
AreSomeBelow m numbers = (n : ℕ) → count_by (nat_eq n) numbers ≤ once_below m n

-- all numbers below m, each once, in any order
abbrev pub AreAllBelow : ℕ → List ℕ → Type 0
AreAllBelow m numbers = (n : ℕ) → count_by (nat_eq n) numbers ≡ once_below m n

-- the number of passes is from 1 to 16, as is the number of a haul's workers
abbrev pub AreFew : ℕ → Type 0
AreFew passes = (1 ≤ passes) × (passes ≤ 16)
