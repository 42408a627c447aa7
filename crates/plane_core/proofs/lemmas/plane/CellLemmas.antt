-- The order of cells is total, only equal cells tie, and moving two cells keeps their order and their distance.
use Rattle.std.proofs.Common.{◌≡◌, ◌&&◌, ◌≤◌, ℤ, ◌+◌, ◌+ℤ◌, FitsSigned, leb, nat_le, of_z, to_z, true, unsigned_abs, w32, arith, refl, ap, ◌∙◌}
use Rattle.std.proofs.lemmas.Bool.{and_from, and_parts, false≢true, le-leb}
use borrow.Author.Tests.{leb-true}
use Rattle.std.proofs.lemmas.Int.{ints, to_z-of_z}
use Rattle.std.proofs.lemmas.Cmp.{on_total, then_total, int_cmp_total}
use Rattle.std.specs.Cmp.{IsTotalOrder, tied_itself}
use Rattle.std.specs.FinMap.{int_cmp-IsAntisymmetric}
use Rattle.std.specs.Ordering.{ordering_then, int_cmp, int_eq, is_eq}
use Rattle.std.specs.declared.cmp.Ordering.{Ordering}
use Rattle.std.specs.declared.cmp.Ordering.TheVariants.{Less, Equal, Greater}
use Rattle.plane_core.specs.declared.plane.cell.Cell.{Cell}
use Rattle.plane_core.specs.plane.Cells.{cell_at, cell_cmp, same_cell, king_distance, distance, moved_by, near_plane, on_plane, plane_bound}

pub cell_cmp_total : IsTotalOrder cell_cmp
cell_cmp_total = then_total (on_total (λ c. c.y) int_cmp_total) (on_total (λ c. c.x) int_cmp_total)

-- a lexicographic comparison ties only if both its parts tie
both_tie : (p q : Ordering) → ordering_then p q ≡ Equal → (p ≡ Equal) × (q ≡ Equal)
both_tie Less q e = (e, cc)
both_tie Equal q e = (refl, e)
both_tie Greater q e = (e, cc)

-- cells that tie are equal
pub cell_cmp-same : (a b : Cell) → cell_cmp a b ≡ Equal → a ≡ b
cell_cmp-same a b e =
    let ties = both_tie (int_cmp a.y b.y) (int_cmp a.x b.x) e in
    let y : a.y ≡ b.y = int_cmp-IsAntisymmetric a.y b.y ties.0 in
    let x : a.x ≡ b.x = int_cmp-IsAntisymmetric a.x b.x ties.1 in
    ap (λ (v : ℤ). cell_at v a.y) x ∙ ap (λ (w : ℤ). cell_at b.x w) y

pub same_cell-itself : (c : Cell) → same_cell c c ≡ true
same_cell-itself c = ap is_eq (tied_itself cell_cmp_total c)

int_cmp-moved : (a b v : ℤ) → int_cmp (a +ℤ v) (b +ℤ v) ≡ int_cmp a b
int_cmp-moved a b v = grind (arith, ints)

-- moving two cells by the same amount keeps their order
pub cell_cmp-moved : (dx dy : ℤ) (a b : Cell) → cell_cmp (moved_by dx dy a) (moved_by dx dy b) ≡ cell_cmp a b
cell_cmp-moved dx dy a b = rw (int_cmp-moved a.y b.y dy, int_cmp-moved a.x b.x dx) refl

distance-moved : (a b v : ℤ) → distance (a +ℤ v) (b +ℤ v) ≡ distance a b
distance-moved a b v = omega (arith, ints)

-- moving two cells by the same amount keeps their distance
pub king_distance-moved : (dx dy : ℤ) (a b : Cell) → king_distance (moved_by dx dy a) (moved_by dx dy b) ≡ king_distance a b
king_distance-moved dx dy a b = rw (distance-moved a.x b.x dx, distance-moved a.y b.y dy) refl

is_equal : (o : Ordering) → is_eq o ≡ true → o ≡ Equal
is_equal Less e = absurd (false≢true e)
is_equal Equal e = refl
is_equal Greater e = absurd (false≢true e)

pub same_cell-same : (c d : Cell) → same_cell c d ≡ true → c ≡ d
same_cell-same c d e = cell_cmp-same c d (is_equal (cell_cmp c d) e)

both_equal : (p q : Ordering) → (is_eq p && is_eq q) ≡ is_eq (ordering_then p q)
both_equal Less q = refl
both_equal Equal q = refl
both_equal Greater q = refl

-- the derived `==` of cells says whether two cells are the same
pub same_cell-eq : (a b : Cell) → (int_eq a.y b.y && int_eq a.x b.x) ≡ same_cell a b
same_cell-eq a b = both_equal (int_cmp a.y b.y) (int_cmp a.x b.x)

-- a coordinate within the bound of the plane is still within it after a conversion to 32 bits and back
pub passed_within : (x : ℤ) → FitsSigned w32 x → unsigned_abs x ≤ plane_bound → unsigned_abs (to_z w32 (of_z w32 x)) ≤ plane_bound
passed_within x fits low = rw (to_z-of_z w32 x fits) low

pub x_passed : (c : Cell) → FitsSigned w32 c.x → on_plane c ≡ true → unsigned_abs (to_z w32 (of_z w32 c.x)) ≤ plane_bound
unfolding on_plane
x_passed c fits on = passed_within c.x fits (leb-true _ _ ((and_parts (nat_le (unsigned_abs c.x) plane_bound) _ on).0))

pub y_passed : (c : Cell) → FitsSigned w32 c.y → on_plane c ≡ true → unsigned_abs (to_z w32 (of_z w32 c.y)) ≤ plane_bound
unfolding on_plane
y_passed c fits on = passed_within c.y fits (leb-true _ _ ((and_parts (nat_le (unsigned_abs c.x) plane_bound) _ on).1))

-- cells with the same column and row are equal
pub same_cells : (x y v w : ℤ) → x ≡ v → y ≡ w → cell_at x y ≡ cell_at v w
same_cells x y v w p q i = cell_at (p i) (q i)

-- the x of a cell near the plane is still within `plane_bound + 1` after a conversion to 32 bits and back
pub near_x_passed : (c : Cell) → FitsSigned w32 c.x → near_plane c ≡ true → unsigned_abs (to_z w32 (of_z w32 c.x)) ≤ plane_bound + 1
unfolding near_plane
near_x_passed c fits on = rw (to_z-of_z w32 c.x fits) (leb-true _ _ ((and_parts (nat_le (unsigned_abs c.x) (plane_bound + 1)) _ on).0))

pub near_y_passed : (c : Cell) → FitsSigned w32 c.y → near_plane c ≡ true → unsigned_abs (to_z w32 (of_z w32 c.y)) ≤ plane_bound + 1
unfolding near_plane
near_y_passed c fits on = rw (to_z-of_z w32 c.y fits) (leb-true _ _ ((and_parts (nat_le (unsigned_abs c.x) (plane_bound + 1)) _ on).1))

-- a cell on the plane is also near the plane
pub on_then_near : (c : Cell) → on_plane c ≡ true → near_plane c ≡ true
unfolding on_plane near_plane
on_then_near c h =
    let parts = and_parts (leb (unsigned_abs c.x) plane_bound) (leb (unsigned_abs c.y) plane_bound) h in
    and_from (leb (unsigned_abs c.x) (plane_bound + 1)) (leb (unsigned_abs c.y) (plane_bound + 1))
    (le-leb (unsigned_abs c.x) (plane_bound + 1) (let x = leb-true (unsigned_abs c.x) plane_bound parts.0 in omega arith))
    (le-leb (unsigned_abs c.y) (plane_bound + 1) (let y = leb-true (unsigned_abs c.y) plane_bound parts.1 in omega arith))
