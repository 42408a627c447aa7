-- Windows over rectangles: what a union contains, and that windows side by side leave no gap.
use Rattle.std.proofs.Common.{◌/◌, ◌%◌, ◌-◌, ◌<◌, ◌-ℤ◌, ◌≡◌, ◌+◌, ◌*◌, ◌^◌, ◌≤◌, ℕ, ℤ, pos, ◌+ℤ◌, ◌≤ℤ◌, ◌<ℤ◌, List, length, get_or, unsigned_abs}
use Rattle.std.proofs.Common.{◌*ℤ◌, ap, arith, sym, subst, inl, inr, ◌⊎◌, FitsSigned, of_z, to_z, w32}
use Rattle.std.specs.Int.{int_max, int_min}
use Rattle.std.specs.List.{swap_remove}
use Rattle.std.proofs.lemmas.Nat.{div-add-mod', mod_below}
use Rattle.std.proofs.Math.Nat.{div-eq_of_lt}
use Rattle.std.proofs.lemmas.Int.{by_lt_z, clamps, ints}
use Rattle.plane_core.specs.declared.plane.bounds.Bounds.{Bounds}
use Rattle.plane_core.specs.declared.plane.cell.Cell.{Cell}
use Rattle.plane_core.specs.declared.engine.cover.Spans.{Spans}
use Rattle.plane_core.specs.declared.engine.leap_window.LeapWindow.{LeapWindow}
use Rattle.plane_core.specs.plane.Bounds.{IsRoundBoth, IsWithin, enlarged}
use Rattle.plane_core.specs.engine.ActiveBoxes.{IsInOne, box_bound, rectangle_bound}
use Rattle.plane_core.specs.plane.Cells.{distance}
use Rattle.plane_core.specs.engine.Covers.{AreSideBySide, IsInRow}
use Rattle.plane_core.specs.plane.Bounds.{AreSidesWithin}
use Rattle.plane_core.specs.engine.LeapWindows.{IsCovered, IsInnerCell}
use Rattle.plane_core.proofs.lemmas.engine.ActiveBoxLemmas.{any_swap_remove}
use Rattle.plane_core.proofs.lemmas.Between.{BeginsAt}

-- ---- the union of two boxes

pub joined_one : (one other b : Bounds) (c : Cell) → IsRoundBoth one other b → IsWithin one c → IsWithin b c
joined_one one other b c is h = record {
  left = low b.left one.left other.left c.x is.left h.left;
  top = low b.top one.top other.top c.y is.top h.top;
  right = high b.right one.right other.right c.x is.right h.right;
  bottom = high b.bottom one.bottom other.bottom c.y is.bottom h.bottom;
}
  where
    low : (l a d x : ℤ) → l ≡ int_min a d → a ≤ℤ x → l ≤ℤ x
    low l a d x e h = omega (arith, ints, clamps)

    high : (l a d x : ℤ) → l ≡ int_max a d → x ≤ℤ a → x ≤ℤ l
    high l a d x e h = omega (arith, ints, clamps)

pub joined_other : (one other b : Bounds) (c : Cell) → IsRoundBoth one other b → IsWithin other c → IsWithin b c
joined_other one other b c is h = record {
  left = low b.left one.left other.left c.x is.left h.left;
  top = low b.top one.top other.top c.y is.top h.top;
  right = high b.right one.right other.right c.x is.right h.right;
  bottom = high b.bottom one.bottom other.bottom c.y is.bottom h.bottom;
}
  where
    low : (l a d x : ℤ) → l ≡ int_min a d → d ≤ℤ x → l ≤ℤ x
    low l a d x e h = omega (arith, ints, clamps)

    high : (l a d x : ℤ) → l ≡ int_max a d → x ≤ℤ d → x ≤ℤ l
    high l a d x e h = omega (arith, ints, clamps)

pub joined_sides : (n : ℕ) (one other b : Bounds) → IsRoundBoth one other b → AreSidesWithin n one → AreSidesWithin n other → AreSidesWithin n b
joined_sides n one other b is h k = record {
  left = least b.left one.left other.left is.left h.left k.left;
  top = least b.top one.top other.top is.top h.top k.top;
  right = greatest b.right one.right other.right is.right h.right k.right;
  bottom = greatest b.bottom one.bottom other.bottom is.bottom h.bottom k.bottom;
}
  where
    least : (l a d : ℤ) → l ≡ int_min a d → unsigned_abs a ≤ n → unsigned_abs d ≤ n → unsigned_abs l ≤ n
    least l a d e h k = omega (arith, ints, clamps)

    greatest : (l a d : ℤ) → l ≡ int_max a d → unsigned_abs a ≤ n → unsigned_abs d ≤ n → unsigned_abs l ≤ n
    greatest l a d e h k = omega (arith, ints, clamps)

-- removing a rectangle from the list and uniting it with another rectangle loses no cell
pub joined_held : (boxes new : List Bounds) (i : ℕ) (other one b : Bounds) → i < length boxes → other ≡ get_or boxes i other
    → new ≡ swap_remove boxes i other → ((c : Cell) → IsWithin other c → IsWithin b c) → ((c : Cell) → IsWithin one c → IsWithin b c)
    → (c : Cell) → IsWithin one c ⊎ IsInOne boxes c → IsWithin b c ⊎ IsInOne new c
joined_held boxes new i other one b less is removed first second c (inl h) = inl (second c h)
joined_held boxes new i other one b less is removed first second c (inr some) =
    elim (any_swap_remove (λ (d : Bounds). IsWithin d c) boxes i other less some) [
      | inl h ↦ inl (first c (subst (λ (d : Bounds). IsWithin d c) (sym is) h))
      | inr more ↦ inr (subst (λ (ds : List Bounds). IsInOne ds c) (sym removed) more)
    ]

-- ---- windows side by side

-- a cell in a row of n + 1 spans is in the first n spans, or in the inner part of the window over the last span
pub row_more : (first : ℤ) (n : ℕ) (row : ℤ) (p : LeapWindow) (c : Cell) → BeginsAt p (first +ℤ pos (56 * n)) row
    → IsInRow (record { first = first; count = n + 1 }) row p.rows c → IsInRow (record { first = first; count = n }) row p.rows c ⊎ IsInnerCell p c
row_more first n row p c at h =
    by_lt_z {P = IsInRow (record { first = first; count = n }) row p.rows c ⊎ IsInnerCell p c} c.x (first +ℤ pos (56 * n))
    (λ less. inl (record { left = h.left; right = less; top = h.top; bottom = h.bottom }))
    (λ not_less. inr (record {
      left = from (first +ℤ pos (56 * n)) p.left c.x at.left not_less;
      top = from row p.top c.y at.top h.top;
      right = to (first +ℤ pos (56 * n)) p.left c.x at.left (further first c.x n h.right);
      bottom = under row p.top c.y p.rows at.top h.bottom;
    }))
  where
    from : (a p x : ℤ) → p ≡ a -ℤ pos 4 → a ≤ℤ x → (p +ℤ pos 4) ≤ℤ x
    from a p x e h = omega (arith, ints)

    to : (a p x : ℤ) → p ≡ a -ℤ pos 4 → x <ℤ (a +ℤ pos 56) → x ≤ℤ (p +ℤ pos 59)
    to a p x e h = omega (arith, ints)

    under : (a p y : ℤ) (rows : ℕ) → p ≡ a -ℤ pos 4 → (y +ℤ pos 8) <ℤ (a +ℤ pos rows) → (y +ℤ pos 4) <ℤ (p +ℤ pos rows)
    under a p y rows e h = omega (arith, ints)

    further : (a x : ℤ) (n : ℕ) → x <ℤ (a +ℤ pos (56 * (n + 1))) → x <ℤ ((a +ℤ pos (56 * n)) +ℤ pos 56)
    further a x n h = omega (arith, ints)

-- if the spans cover the columns of the rectangle, each cell of the rectangle that is in an inner row of the windows is
-- in a span
in_row : (rectangle : Bounds) (across : Spans) (row : ℤ) (rows : ℕ) (c : Cell) → AreSideBySide rectangle.left rectangle.right 56 across
    → IsWithin rectangle c → row ≤ℤ c.y → (c.y +ℤ pos 8) <ℤ (row +ℤ pos rows) → IsInRow across row rows c
in_row rectangle across row rows c beside within low high = record {
  left = before across.first rectangle.left c.x beside.start within.left;
  right = after c.x rectangle.right (across.first +ℤ pos (56 * across.count)) within.right beside.end;
  top = low;
  bottom = high;
}
  where
    before : (a b x : ℤ) → a ≤ℤ b → b ≤ℤ x → a ≤ℤ x
    before a b x h k = omega (arith, ints)

    after : (x b e : ℤ) → x ≤ℤ b → b <ℤ e → x <ℤ e
    after x b e h k = omega (arith, ints)

-- one more row of windows, each with `rows` rows, covers the next `rows - 8` rows of the rectangle
pub rows_more : (rectangle : Bounds) (across : Spans) (first row : ℤ) (laid rows more : ℕ) (old new : List LeapWindow) → row ≡ first +ℤ pos laid
    → 8 ≤ rows → more ≡ laid + (rows - 8) → AreSideBySide rectangle.left rectangle.right 56 across
    → ((c : Cell) → IsWithin rectangle c → c.y <ℤ (first +ℤ pos laid) → IsCovered old c) → ((c : Cell) → IsCovered old c → IsCovered new c)
    → ((c : Cell) → IsInRow across row rows c → IsCovered new c) → (c : Cell) → IsWithin rectangle c → c.y <ℤ (first +ℤ pos more)
    → IsCovered new c
rows_more rectangle across first row laid rows more old new is some sum beside before kept here c within high =
    by_lt_z {P = IsCovered new c} c.y (first +ℤ pos laid) (λ less. kept c (before c within less))
    (λ not_less. here c (in_row rectangle across row rows c beside within (low c.y not_less) (further c.y high)))
  where
    low : (y : ℤ) → (first +ℤ pos laid) ≤ℤ y → row ≤ℤ y
    low y h = omega (arith, ints, is)

    further : (y : ℤ) → y <ℤ (first +ℤ pos more) → (y +ℤ pos 8) <ℤ (row +ℤ pos rows)
    further y h = omega (arith, ints, is, some, sum)

-- if more rows are laid, from `first` on, than the distance from `first` to `bottom`, each row y of the rectangle is
-- above `first + laid`, the first row below those that are laid
pub below_end : (y bottom first : ℤ) (length laid : ℕ) → y ≤ℤ bottom → length ≡ distance first bottom → length < laid → y <ℤ (first +ℤ pos laid)
below_end y bottom first length laid h is less = omega (arith, ints)

-- no row of the rectangle is above `first`, the first row that is laid
pub none_above : (y top first : ℤ) → first ≤ℤ top → top ≤ℤ y → ¬ (y <ℤ (first +ℤ pos 0))
none_above y top first h k less = absurd (omega (arith, ints))

-- ---- how many spans there are, and where they begin

-- together, the spans are longer than necessary by less than one span
pub left_over : (length size : ℕ) → 1 ≤ size → (length / size + 1) * size - length - 1 < size
left_over length size some =
    let whole : length / size * size + length % size ≡ length = div-add-mod' length size in
    let rest : length % size < size = mod_below length size some in
    omega arith

-- a length less than the size of a span needs only one span
pub one_is_enough : (length size : ℕ) → length < size → 1 ≡ length / size + 1
one_is_enough length size low = sym (ap (λ (n : ℕ). n + 1) (div-eq_of_lt low))

pub side_by_side_is : (first last begin : ℤ) (size length : ℕ) → 1 ≤ size → length ≡ distance first last
    → begin ≡ first -ℤ pos (((length / size + 1) * size - length - 1) / 2)
    → AreSideBySide first last size (record { first = begin; count = length / size + 1 })
side_by_side_is first last begin size length some is at = record {
  start = omega (arith, ints);
  near = omega (arith, ints, half, beside);
  end = omega (arith, ints, half, whole, rest, reach);
  small = omega (arith, whole, rest);
}
  where
    whole : length / size * size + length % size ≡ length
    whole = div-add-mod' length size

    rest : length % size < size
    rest = mod_below length size some

    beside : (length / size + 1) * size - length - 1 < size
    beside = left_over length size some

    half : ((length / size + 1) * size - length - 1) / 2 ≤ (length / size + 1) * size - length - 1
    half = omega arith

    reach : last ≤ℤ (first +ℤ pos length)
    reach = omega (arith, ints)

pub side_by_side_of : (first last begin : ℤ) (size length count : ℕ) → 1 ≤ size → length ≡ distance first last → count ≡ length / size + 1
    → begin ≡ first -ℤ pos ((count * size - length - 1) / 2) → AreSideBySide first last size (record { first = begin; count = count })
side_by_side_of first last begin size length count some is needed at =
    subst (λ (n : ℕ). AreSideBySide first last size (record { first = begin; count = n })) (sym needed)
    (side_by_side_is first last begin size length some is
    (subst (λ (n : ℕ). begin ≡ first -ℤ pos ((n * size - length - 1) / 2)) needed at))

pub beside_few : (size length count : ℕ) → 1 ≤ size → count ≡ length / size + 1 → count * size - length - 1 < size
beside_few size length count some needed = subst (λ (n : ℕ). n * size - length - 1 < size) (sym needed) (left_over length size some)

-- ---- how far spans reach

pub spans_begin : (first last : ℤ) (size : ℕ) (spans : Spans) → AreSideBySide first last size spans → size ≤ 64 → unsigned_abs first ≤ rectangle_bound
    → unsigned_abs spans.first ≤ 2 ^ 24
spans_begin first last size spans is low near =
    let s = is.start in
    let n = is.near in
    omega (arith, ints)

pub few_columns : (first last : ℤ) (spans : Spans) → AreSideBySide first last 56 spans → unsigned_abs first ≤ rectangle_bound
    → unsigned_abs last ≤ rectangle_bound → spans.count ≤ 2 ^ 20
few_columns first last spans is near far =
    let s = is.small in
    omega (arith, ints)

pub wider_bound : (first : ℤ) → unsigned_abs first ≤ 2 ^ 24 → unsigned_abs first ≤ 2 ^ 26
wider_bound first near = omega arith

-- ---- numbers that fit

pub fits_count : (i count : ℕ) → i < count → count ≤ 2 ^ 20 → FitsSigned w32 (pos i)
fits_count i count low few = omega (arith, ints)

pub fits_columns : (i count : ℕ) → i < count → count ≤ 2 ^ 20 → FitsSigned w32 (pos 56 *ℤ to_z w32 i)
fits_columns i count low few = omega (arith, ints)

pub fits_column : (first : ℤ) (i count : ℕ) → i < count → count ≤ 2 ^ 20 → unsigned_abs first ≤ 2 ^ 26
    → FitsSigned w32 (to_z w32 (of_z w32 first) +ℤ to_z w32 (of_z w32 (pos 56 *ℤ to_z w32 i)))
fits_column first i count low few near = omega (arith, ints)

pub few_rows : (first last : ℤ) (length : ℕ) → length ≡ distance first last → unsigned_abs first ≤ 2 ^ 24 → unsigned_abs last ≤ rectangle_bound → length ≤ 2 ^ 25
few_rows first last length is near far = omega (arith, ints)

pub row_is : (first : ℤ) (laid : ℕ) → laid ≤ 2 ^ 25 → unsigned_abs first ≤ 2 ^ 24
    → to_z w32 (of_z w32 (to_z w32 (of_z w32 first) +ℤ to_z w32 laid)) ≡ first +ℤ pos laid
row_is first laid few near = omega (arith, ints)

pub row_near : (first : ℤ) (laid : ℕ) → laid ≤ 2 ^ 25 → unsigned_abs first ≤ 2 ^ 24
    → unsigned_abs (to_z w32 (of_z w32 (to_z w32 (of_z w32 first) +ℤ to_z w32 laid))) ≤ 2 ^ 26
row_near first laid few near = omega (arith, ints)

pub fits_less : (x : ℤ) → unsigned_abs x ≤ box_bound → FitsSigned w32 (to_z w32 (of_z w32 x) -ℤ pos 4)
fits_less x near = omega (arith, ints)

pub fits_further : (x : ℤ) → unsigned_abs x ≤ box_bound → FitsSigned w32 (to_z w32 (of_z w32 x) +ℤ pos 4)
fits_further x near = omega (arith, ints)

pub less_is : (x : ℤ) → unsigned_abs x ≤ box_bound → to_z w32 (of_z w32 (to_z w32 (of_z w32 x) -ℤ pos 4)) ≡ x -ℤ pos 4
less_is x near = omega (arith, ints)

pub further_is : (x : ℤ) → unsigned_abs x ≤ box_bound → to_z w32 (of_z w32 (to_z w32 (of_z w32 x) +ℤ pos 4)) ≡ x +ℤ pos 4
further_is x near = omega (arith, ints)

pub margin_sides : (b : Bounds) → AreSidesWithin box_bound b → AreSidesWithin rectangle_bound (enlarged 4 b)
margin_sides b sides = record {
  left = less b.left sides.left;
  top = less b.top sides.top;
  right = further b.right sides.right;
  bottom = further b.bottom sides.bottom;
}
  where
    less : (x : ℤ) → unsigned_abs x ≤ box_bound → unsigned_abs (x -ℤ pos 4) ≤ rectangle_bound
    less x near = omega (arith, ints)

    further : (x : ℤ) → unsigned_abs x ≤ box_bound → unsigned_abs (x +ℤ pos 4) ≤ rectangle_bound
    further x near = omega (arith, ints)
