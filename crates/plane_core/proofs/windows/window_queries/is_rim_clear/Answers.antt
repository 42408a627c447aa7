use Rattle.std.proofs.Common.{◌≡◌, ◌*◌, ◌/◌, ◌^◌, ◌<◌, ℕ, IsTrue, List, arith, bit_and, inl, inr, nat_eq}
use Rattle.std.proofs.lemmas.Grind.{common_steps}
use Rattle.std.specs.Int.{bit_at}
use Rattle.std.proofs.lemmas.Nat.Bits.{bit_at-lt}
use Rattle.plane_core.specs.windows.LonePatterns.{IsColumns}
use Rattle.plane_core.specs.windows.Windows.{row_at}
use Rattle.plane_core.proofs.lemmas.plane.CaseLemmas.{same_or_not}
use Rattle.std.proofs.lemmas.Bool.{false≢true}
use Rattle.plane_core.proofs.lemmas.plane.OrderLemmas.{few_vectors, first_row_low, last_row_low}
use Rattle.plane_core.proofs.windows.window_queries.is_rim_clear.Goals as goal

-- if bit i of w, the word of the columns that have a live cell, is 0, no row has a live cell in column i
dark : (n : ℕ) (x : List (List ℕ)) (w i r : ℕ) → IsColumns n x w → bit_at w i ≡ 0 → r < 4 * n → bit_at (row_at n x r) i ≡ 0
dark n x w i r columns none low = elim (same_or_not (bit_at (row_at n x r) i) 1) [
  | inl one ↦ absurd (let k = columns.all r i low one in omega arith)
  | inr apart ↦ omega (arith, apart, bit_at-lt (row_at n x r) i)
]

-- the code tests the first and the last column: if the test of a column gives 0, the bit of this column is 0
first_dark : (w : ℕ) → bit_and w 1 ≡ 0 → bit_at w 0 ≡ 0
first_dark w none = grind (arith, common_steps)

last_dark : (w : ℕ) → IsTrue (nat_eq (w / 2 ^ 63) 0) → bit_at w 63 ≡ 0
last_dark w none = grind (arith, common_steps)

pub returns : goal.returns
returns g c = λ clear.
    let first : bit_at c.args.columns 0 ≡ 0 = first_dark c.args.columns c.if-columns-ne0.false in
    let last : bit_at c.args.columns 63 ≡ 0 = last_dark c.args.columns clear in
    record {
      top = omega (arith, c.row.ensures, c.if-row-ne0.false);
      bottom = omega (arith, c.row-2.ensures, c.if-row-ne0-2.false);
      left = λ r low. dark g.row.N c.args.window.now c.args.columns 0 r c.requires.columns first low;
      right = λ r low. dark g.row.N c.args.window.now c.args.columns 63 r c.requires.columns last low;
    }

pub row-requires : goal.row-requires
row-requires g c = (few_vectors g.row.N c.requires.few, (c.requires.some, first_row_low g.row.N c.requires.some))

pub returns-then-row-ne0 : goal.returns-then-row-ne0
returns-then-row-ne0 g c = λ e. absurd (false≢true e)

pub overflow_sub-row : goal.overflow_sub-row
overflow_sub-row g c = first_row_low g.row.N c.requires.some

pub row-requires-2 : goal.row-requires-2
row-requires-2 g c = (few_vectors g.row.N c.requires.few, (c.requires.some, last_row_low g.row.N c.requires.some))

pub returns-then-row-ne0-2 : goal.returns-then-row-ne0-2
returns-then-row-ne0-2 g c = λ e. absurd (false≢true e)
