-- Which cells a pattern has after it is moved, in particular to the corner (0, 0).
use Rattle.std.proofs.Common.{◌≡◌, ◌==◌, ℕ, ℤ, zero, suc, pos, neg_ℤ, ◌+ℤ◌, ◌<◌, ◌||◌, Bool, List, [], ◌∷◌, Some, arith, refl, ap, sym, ◌∙◌, if◌then◌else◌, slice_index}
use Rattle.std.specs.Int.{bit_at}
use Rattle.std.proofs.lemmas.Nat.Bits.{bit_at-lt}
use Rattle.std.proofs.lemmas.Int.{ints}
use Rattle.plane_core.specs.declared.plane.bounds.Bounds.{Bounds}
use Rattle.plane_core.specs.declared.plane.cell.Cell.{Cell}
use Rattle.plane_core.specs.plane.Bounds.{at_corner, box_of, cornered, shifted}
use Rattle.plane_core.specs.plane.Cells.{cell_at, has, moved_by}
use Rattle.plane_core.specs.windows.Rows.{bit_in}
use Rattle.plane_core.proofs.lemmas.plane.CellLemmas.{cell_cmp-moved}
use Rattle.code_core.specs.Columns.{IsBoxed}
use Rattle.std.specs.Ordering.{is_eq}

-- a moved pattern has a moved cell if and only if the pattern has the cell
pub has-shifted : (dx dy : ℤ) (cells : List Cell) (c : Cell) → has (shifted dx dy cells) (moved_by dx dy c) ≡ has cells c
has-shifted dx dy [] c = refl
has-shifted dx dy (d ∷ ds) c = λ i. is_eq (cell_cmp-moved dx dy c d i) || has-shifted dx dy ds c i

-- the cells of a pattern, counted from the corner of its box, are the cells of the pattern moved to the corner
pub has-at_corner : (cells : List Cell) (b : Bounds) (x y : ℕ) → box_of cells ≡ Some b
    → has cells (cell_at (b.left +ℤ pos x) (b.top +ℤ pos y)) ≡ has (at_corner cells) (cell_at (pos x) (pos y))
has-at_corner cells b x y e =
    let there : cell_at (pos x) (pos y) ≡ moved_by (neg_ℤ b.left) (neg_ℤ b.top) (cell_at (b.left +ℤ pos x) (b.top +ℤ pos y)) =
    λ i. cell_at (back b.left x i) (back b.top y i) in
    sym (ap (λ o. has (cornered o cells) (cell_at (pos x) (pos y))) e ∙ ap (has (shifted (neg_ℤ b.left) (neg_ℤ b.top) cells)) there
    ∙ has-shifted (neg_ℤ b.left) (neg_ℤ b.top) cells (cell_at (b.left +ℤ pos x) (b.top +ℤ pos y)))
  where
    back : (a : ℤ) (n : ℕ) → pos n ≡ (a +ℤ pos n) +ℤ neg_ℤ a
    back a n = omega (arith, ints)

-- if the rows show a pattern in its box, the bit of a cell in its row is 1 if and only if the cell is alive
pub cell_bit : (cells : List Cell) (b : Bounds) (rows : List ℕ) (x y : ℕ) → IsBoxed b rows cells → x < 64 → y < 64
    → (if has (at_corner cells) (cell_at (pos x) (pos y)) then 1 else 0) ≡ bit_in rows y x
cell_bit cells b rows x y boxed hx hy =
    ap (λ (t : Bool). if t then 1 else 0) (sym (has-at_corner cells b x y boxed.boxed) ∙ boxed.shown y x hy hx) ∙ one_bit (slice_index rows y)
  where
    go : (n : ℕ) → n < 2 → (if n == 1 then 1 else 0) ≡ n
    go zero low = refl
    go (suc zero) low = refl
    go (suc (suc n)) low = absurd (omega arith)

    one_bit : (w : ℕ) → (if bit_at w x == 1 then 1 else 0) ≡ bit_at w x
    one_bit w = go (bit_at w x) (bit_at-lt w x)
