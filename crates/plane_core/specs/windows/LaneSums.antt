-- Vectors of four words, one in each lane, and sums of live cells, with a vector for each binary digit.
use Rattle.std.specs.Prelude.{◌≡◌, ◌==◌, ◌+◌, ◌*◌, ◌<◌, ℕ, List, slice_index}
use Rattle.std.specs.Int.{bit_at}
use Rattle.plane_core.specs.declared.windows.lane_sums.RowSums.{RowSums}
use Rattle.plane_core.specs.declared.windows.lane_sums.Sum.{Sum}
use Rattle.plane_core.specs.declared.windows.lane_sums.Total.{Total}
use Rattle.plane_core.specs.plane.Rules.{Numbers}
use Rattle.plane_core.specs.plane.Generations.{lives_by}
use Rattle.plane_core.specs.windows.Words.{one_if, west_of, east_of}

-- bit i of the word in lane j
abbrev pub bit_of : List ℕ → ℕ → ℕ → ℕ
bit_of v j i = bit_at (slice_index v j) i

-- the sum at bit i of lane j: a number with two binary digits
abbrev pub sum_of : Sum → ℕ → ℕ → ℕ
sum_of s j i = bit_of s.ones j i + 2 * bit_of s.twos j i

-- the total at bit i of lane j: a number with four binary digits
abbrev pub total_of : Total → ℕ → ℕ → ℕ
total_of t j i = bit_of t.ones j i + 2 * bit_of t.twos j i + 4 * bit_of t.fours j i + 8 * bit_of t.eights j i

-- the number of live cells in columns i - 1, i and i + 1 of a row that consists of one word
abbrev pub row_sum : ℕ → ℕ → ℕ
row_sum word i = west_of 0 word i + bit_at word i + east_of word 0 i

-- at each cell, the sum `all` is the sum `beside` plus the cell itself
abbrev pub AreBeside : RowSums → List ℕ → Type 0
AreBeside row now = (j i : ℕ) → j < 4 → sum_of row.all j i ≡ sum_of row.beside j i + bit_of now j i

-- `next` has the cells that are alive one generation later. The number of live cells in a cell's neighbourhood,
-- including the cell, is the total of three sums: of the row above the cell, of its own row and of the row below it.
abbrev pub AnswersRows : Numbers → Sum → Sum → Sum → List ℕ → List ℕ → Type 0
AnswersRows rule up here down now next =
    (j i : ℕ) → j < 4 → i < 64 → bit_of next j i ≡ one_if (lives_by rule (sum_of up j i + sum_of here j i + sum_of down j i) (bit_of now j i == 1))
