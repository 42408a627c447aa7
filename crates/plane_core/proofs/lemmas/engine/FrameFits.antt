-- The numbers from which a frame is made fit their types.
use Rattle.std.proofs.Common.{◌≡◌, ◌+◌, ◌-◌, ◌*◌, ◌/◌, ◌^◌, ◌<◌, ◌≤◌, ℕ, ℤ, pos, ◌+ℤ◌, ◌-ℤ◌, ◌≤ℤ◌, Fits, FitsSigned, true, false}
use Rattle.std.proofs.Common.{◌∙◌, ap, arith, max, unsigned_abs, of_z, subst, to_z, w32, w64}
use Rattle.std.proofs.lemmas.Int.{ints, to_z-of_z}
use lib.Signed.{le_z, lt_z}
use Rattle.plane_core.specs.declared.plane.bounds.Bounds.{Bounds}
use Rattle.plane_core.specs.declared.plane.cell.Cell.{Cell}
use Rattle.plane_core.specs.declared.engine.frame.Frame.{Frame}
use Rattle.plane_core.specs.plane.Bounds.{AreSidesWithin, IsWithin}
use Rattle.plane_core.specs.plane.Cells.{distance, plane_bound}
use Rattle.plane_core.specs.engine.Frames.{IsFrame, bounds_of}
use Rattle.plane_core.proofs.lemmas.plane.BoxRoundLemmas.{fewer_sides}
use Rattle.plane_core.proofs.lemmas.Between.{HasRoom}

-- ---- columns and rows

pub fits_word_columns : (at : Frame) → IsFrame at → Fits w32 at.word_columns
fits_word_columns at frame = let h = frame.word_columns in record { fits = omega arith }

pub fits_columns : (at : Frame) → IsFrame at → Fits w32 (64 * at.word_columns)
fits_columns at frame = let h = frame.word_columns in record { fits = omega arith }

pub fits_rows : (at : Frame) → IsFrame at → Fits w32 at.rows
fits_rows at frame = let h = frame.rows in record { fits = omega arith }

pub fits_around : (at : Frame) → IsFrame at → Fits w32 (64 * at.word_columns + at.rows)
fits_around at frame =
    let h = frame.word_columns in
    let k = frame.rows in
    record { fits = omega arith }

-- ---- where a window begins on a board

pub fits_next_word_column : (x : ℕ) → x < 2 ^ 32 → Fits w64 (x / 64 + 1)
fits_next_word_column x low = record { fits = omega arith }

pub fits_window_end : (y n : ℕ) → y < 2 ^ 32 → n ≤ 64 → Fits w64 (y + n)
fits_window_end y n low few = record { fits = omega arith }

pub window_low : (at : Frame) (y n : ℕ) → IsFrame at → y + n ≤ at.rows → y < 2 ^ 32
window_low at y n frame inside = let h = frame.rows in omega arith

pub fits_row_below : (at : Frame) (y : ℕ) → IsFrame at → y < at.rows → Fits w64 (y + 1)
fits_row_below at y frame inside = let h = frame.rows in record { fits = omega arith }

pub fits_word_column_beside : (at : Frame) (x : ℕ) → IsFrame at → x / 64 + 1 < at.word_columns → Fits w64 (x / 64 + 1)
fits_word_column_beside at x frame inside = let h = frame.word_columns in record { fits = omega arith }

pub two_word_columns : (x word_columns n : ℕ) → x / 64 + 1 < word_columns → n ≡ word_columns → (x / 64 < n) × (x / 64 + 1 < n)
two_word_columns x word_columns n inside long = (omega (arith, inside, long), omega (arith, inside, long))

pub middle_low : (a b : ℕ) → a < 2 ^ 32 → b < 2 ^ 32 → (a + b - 64) / 2 < 2 ^ 32
middle_low a b low small = omega arith

-- ---- how far apart the sides of a box are

fits_near : (x : ℤ) → unsigned_abs x ≤ plane_bound → FitsSigned w32 x
fits_near x near = omega (arith, ints)

-- a coordinate within the bound of the plane is still within it after a conversion to 32 bits and back
pub passed_near : (x : ℤ) → unsigned_abs x ≤ plane_bound → unsigned_abs (to_z w32 (of_z w32 x)) ≤ plane_bound
passed_near x near = rw (to_z-of_z w32 x (fits_near x near)) near

pub apart_is : (a b : ℤ) (n : ℕ) → unsigned_abs a ≤ plane_bound → unsigned_abs b ≤ plane_bound
    → n ≡ distance (to_z w32 (of_z w32 a)) (to_z w32 (of_z w32 b)) → n ≡ distance a b
apart_is a b n near far is = rw (to_z-of_z w32 a (fits_near a near), to_z-of_z w32 b (fits_near b far)) at is

pub apart_small : (a b : ℤ) (n : ℕ) → unsigned_abs a ≤ plane_bound → unsigned_abs b ≤ plane_bound
    → n ≡ distance (to_z w32 (of_z w32 a)) (to_z w32 (of_z w32 b)) → n ≤ 2000000
apart_small a b n near far is = small (apart_is a b n near far is)
  where
    small : n ≡ distance a b → n ≤ 2000000
    small e = omega (arith, ints, e, near, far)

pub fits_more : (n k : ℕ) → n ≤ 2000000 → k ≤ 10000 → Fits w32 (n + k)
fits_more n k low few = record { fits = omega arith }

pub fits_room : (n : ℕ) → n ≤ 2000000 → Fits w32 (n + 1 + 400)
fits_room n low = record { fits = omega arith }

pub fits_one_more : (n k : ℕ) → n ≤ 2000000 → k ≤ 10000 → Fits w32 (n + k + 1)
fits_one_more n k low few = record { fits = omega arith }

pub fits_twice : (margin : ℕ) → margin ≤ 2000 → Fits w32 (2 * margin)
fits_twice margin low = record { fits = omega arith }

pub twice_small : (margin : ℕ) → margin ≤ 2000 → 2 * margin ≤ 10000
twice_small margin low = omega arith

pub margin_small : (margin : ℕ) → margin ≤ 2000 → margin ≤ plane_bound
margin_small margin low = omega arith

pub fits_new_word_columns : (n k : ℕ) → n ≤ 2000000 → k ≤ 10000 → Fits w32 ((n + k + 1) / 64 + 1)
fits_new_word_columns n k low few = record { fits = omega arith }

pub fits_wide_word_columns : (n k : ℕ) → n ≤ 2000000 → k ≤ 10000 → Fits w64 ((n + k + 1) / 64 + 1)
fits_wide_word_columns n k low few = record { fits = omega arith }

pub fits_bands : (n k : ℕ) → n ≤ 2000000 → k ≤ 10000 → Fits w32 ((n + k + 1) / 8 * 8)
fits_bands n k low few = record { fits = omega arith }

pub fits_new_rows : (n k : ℕ) → n ≤ 2000000 → k ≤ 10000 → Fits w32 ((n + k + 1) / 8 * 8 + 8)
fits_new_rows n k low few = record { fits = omega arith }

pub fits_wide_rows : (n k : ℕ) → n ≤ 2000000 → k ≤ 10000 → Fits w64 ((n + k + 1) / 8 * 8 + 8)
fits_wide_rows n k low few = record { fits = omega arith }

-- ---- a box in the middle of a frame

pub room_sides : (at : Frame) (b : Bounds) → HasRoom at b → AreSidesWithin plane_bound b
room_sides at b room = fewer_sides (plane_bound - (64 * at.word_columns + at.rows)) plane_bound b (omega arith) room.sides

up_to : (a b c : ℕ) → a ≤ b → b ≤ c → a ≤ c
up_to a b c low below = omega arith

side_below : (x : ℤ) (size half all : ℕ) → FitsSigned w32 x → size ≡ unsigned_abs (to_z w32 (of_z w32 x)) → size ≤ half → half ≤ all → unsigned_abs x ≤ all
side_below x size half all fits is low below = subst (λ (n : ℕ). n ≤ all) (is ∙ ap unsigned_abs (to_z-of_z w32 x fits)) (up_to size half all low below)

of_both : (a b m : ℕ) → m ≡ max a b → (a ≤ m) × (b ≤ m)
of_both a b m is = (omega (arith, is), omega (arith, is))

pub sides_below : (b : Bounds) (left right top bottom across down all : ℕ)
    → FitsSigned w32 b.left → FitsSigned w32 b.right → FitsSigned w32 b.top → FitsSigned w32 b.bottom
    → left ≡ unsigned_abs (to_z w32 (of_z w32 b.left)) → right ≡ unsigned_abs (to_z w32 (of_z w32 b.right))
    → top ≡ unsigned_abs (to_z w32 (of_z w32 b.top)) → bottom ≡ unsigned_abs (to_z w32 (of_z w32 b.bottom))
    → across ≡ max left right → down ≡ max top bottom → all ≡ max across down → AreSidesWithin all b
sides_below b left right top bottom across down all fl fr ft fb l r t m row column whole =
    let in_row = of_both left right across row in
    let in_column = of_both top bottom down column in
    let in_all = of_both across down all whole in
    record {
      left = side_below b.left left across all fl l in_row.0 in_all.0;
      top = side_below b.top top down all ft t in_column.0 in_all.1;
      right = side_below b.right right across all fr r in_row.1 in_all.0;
      bottom = side_below b.bottom bottom down all fb m in_column.1 in_all.1;
    }

pub sides_near : (far around : ℕ) (b : Bounds) → AreSidesWithin far b → far ≤ plane_bound - around → AreSidesWithin plane_bound b
sides_near far around b sides low = fewer_sides far plane_bound b (omega (arith, low)) sides

-- subtracting n from `a` gives the same if `a` is first converted to 32 bits and back
pub back_is : (a : ℤ) (n : ℕ) (b : ℤ) → unsigned_abs a ≤ plane_bound → b ≡ to_z w32 (of_z w32 a) -ℤ pos n → b ≡ a -ℤ pos n
back_is a n b near is = rw (to_z-of_z w32 a (fits_near a near)) at is

pub fits_back : (a : ℤ) (n : ℕ) (b : ℤ) → unsigned_abs a ≤ plane_bound → n ≤ plane_bound → b ≡ to_z w32 (of_z w32 a) -ℤ pos n → FitsSigned w32 b
fits_back a n b near low is = fits (back_is a n b near is)
  where
    fits : b ≡ a -ℤ pos n → FitsSigned w32 b
    fits e = omega (arith, ints, e, near, low)

pub half_near : (n k m : ℕ) → n + m ≤ plane_bound → (n - k) / 2 ≤ plane_bound
half_near n k m low = omega (arith, low)

pub half_low : (n k m : ℕ) → m + n ≤ plane_bound → (n - k) / 2 ≤ plane_bound
half_low n k m low = omega (arith, low)

pub has_room : (at : Frame) (b : Bounds) (width height far : ℕ) → width ≡ distance b.left b.right → height ≡ distance b.top b.bottom
    → width + 1 + 400 ≤ 64 * at.word_columns → height + 1 + 400 ≤ at.rows → 64 * at.word_columns + at.rows ≤ plane_bound → AreSidesWithin far b
    → far ≤ plane_bound - (64 * at.word_columns + at.rows) → HasRoom at b
has_room at b width height far across down wide high plane sides near = record {
  across = subst (λ (d : ℕ). d + 1 ≤ 64 * at.word_columns) across (less width (64 * at.word_columns) wide);
  down = subst (λ (d : ℕ). d + 1 ≤ at.rows) down (less height at.rows high);
  plane = plane;
  sides = fewer_sides far _ b near sides;
}
  where
    less : (n m : ℕ) → n + 1 + 400 ≤ m → n + 1 ≤ m
    less n m low = omega arith

-- ---- the first cell of a row of a word column

pub fits_column : (at : Frame) (word_column : ℕ) → IsFrame at → word_column < at.word_columns → Fits w64 (64 * word_column)
fits_column at word_column frame low = let h = frame.word_columns in record { fits = omega arith }

pub fits_signed_column : (at : Frame) (word_column : ℕ) → IsFrame at → word_column < at.word_columns → FitsSigned w32 (pos (64 * word_column))
fits_signed_column at word_column frame low = let h = frame.word_columns in omega (arith, ints)

pub fits_signed_row : (at : Frame) (row : ℕ) → IsFrame at → row < at.rows → FitsSigned w32 (pos row)
fits_signed_row at row frame low = let h = frame.rows in omega (arith, ints)

pub fits_x : (at : Frame) (word_column : ℕ) → IsFrame at → word_column < at.word_columns
    → FitsSigned w32 (to_z w32 (of_z w32 at.left) +ℤ to_z w32 (64 * word_column))
fits_x at word_column frame low =
    let h = frame.word_columns in
    let k = frame.left in
    omega (arith, ints)

pub fits_y : (at : Frame) (row : ℕ) → IsFrame at → row < at.rows → FitsSigned w32 (to_z w32 (of_z w32 at.top) +ℤ to_z w32 row)
fits_y at row frame low =
    let h = frame.rows in
    let k = frame.top in
    omega (arith, ints)

pub x_is : (at : Frame) (word_column : ℕ) → IsFrame at → word_column < at.word_columns
    → to_z w32 (of_z w32 (to_z w32 (of_z w32 at.left) +ℤ to_z w32 (64 * word_column))) ≡ at.left +ℤ pos (64 * word_column + 0)
x_is at word_column frame low =
    let h = frame.word_columns in
    let k = frame.left in
    omega (arith, ints)

pub y_is : (at : Frame) (row : ℕ) → IsFrame at → row < at.rows
    → to_z w32 (of_z w32 (to_z w32 (of_z w32 at.top) +ℤ to_z w32 row)) ≡ at.top +ℤ pos row
y_is at row frame low =
    let h = frame.rows in
    let k = frame.top in
    omega (arith, ints)

pub corner_small : (at : Frame) (word_column : ℕ) (x : ℤ) → IsFrame at → word_column < at.word_columns → x ≡ at.left +ℤ pos (64 * word_column + 0) → unsigned_abs x ≤ 2 ^ 24
corner_small at word_column x frame low is =
    let h = frame.word_columns in
    let k = frame.left in
    omega (arith, ints, is)

-- ---- cells off the frame and on it

pub before_left : (at : Frame) (c : Cell) → FitsSigned w32 c.x → IsFrame at → lt_z (to_z w32 (of_z w32 c.x)) (to_z w32 (of_z w32 at.left)) ≡ true
    → IsWithin (bounds_of at) c → ⊥
before_left at c fits frame less within =
    let k = frame.left in
    let h = within.left in
    omega (arith, ints, less)

pub past_right : (at : Frame) (c : Cell) → FitsSigned w32 c.x → IsFrame at
    → le_z (to_z w32 (of_z w32 (to_z w32 (of_z w32 at.left) +ℤ to_z w32 (64 * at.word_columns)))) (to_z w32 (of_z w32 c.x)) ≡ true
    → IsWithin (bounds_of at) c → ⊥
past_right at c fits frame past within =
    let k = frame.left in
    let l = frame.word_columns in
    let h = within.right in
    omega (arith, ints, past)

pub before_top : (at : Frame) (c : Cell) → FitsSigned w32 c.y → IsFrame at → lt_z (to_z w32 (of_z w32 c.y)) (to_z w32 (of_z w32 at.top)) ≡ true
    → IsWithin (bounds_of at) c → ⊥
before_top at c fits frame less within =
    let k = frame.top in
    let h = within.top in
    omega (arith, ints, less)

pub past_bottom : (at : Frame) (c : Cell) → FitsSigned w32 c.y → IsFrame at
    → le_z (to_z w32 (of_z w32 (to_z w32 (of_z w32 at.top) +ℤ to_z w32 at.rows))) (to_z w32 (of_z w32 c.y)) ≡ true
    → IsWithin (bounds_of at) c → ⊥
past_bottom at c fits frame past within =
    let k = frame.top in
    let l = frame.rows in
    let h = within.bottom in
    omega (arith, ints, past)

-- a cell that is neither left of the frame, right of it, above it nor below it is on the board
pub in_frame : (at : Frame) (c : Cell) → FitsSigned w32 c.x → FitsSigned w32 c.y → IsFrame at
    → lt_z (to_z w32 (of_z w32 c.x)) (to_z w32 (of_z w32 at.left)) ≡ false
    → le_z (to_z w32 (of_z w32 (to_z w32 (of_z w32 at.left) +ℤ to_z w32 (64 * at.word_columns)))) (to_z w32 (of_z w32 c.x)) ≡ false
    → lt_z (to_z w32 (of_z w32 c.y)) (to_z w32 (of_z w32 at.top)) ≡ false
    → le_z (to_z w32 (of_z w32 (to_z w32 (of_z w32 at.top) +ℤ to_z w32 at.rows))) (to_z w32 (of_z w32 c.y)) ≡ false
    → IsWithin (bounds_of at) c
in_frame at c x y frame left right top bottom =
    let k = frame.left in
    let l = frame.word_columns in
    let m = frame.top in
    let r = frame.rows in
    record {
      left = omega (arith, ints, left);
      top = omega (arith, ints, top);
      right = omega (arith, ints, right);
      bottom = omega (arith, ints, bottom);
    }

pub fits_frame_columns : (at : Frame) → IsFrame at → Fits w64 (64 * at.word_columns)
fits_frame_columns at frame = let h = frame.word_columns in record { fits = omega arith }

pub fits_signed_columns : (at : Frame) → IsFrame at → FitsSigned w32 (pos (64 * at.word_columns))
fits_signed_columns at frame = let h = frame.word_columns in omega (arith, ints)

pub fits_right : (at : Frame) → IsFrame at → FitsSigned w32 (to_z w32 (of_z w32 at.left) +ℤ to_z w32 (64 * at.word_columns))
fits_right at frame =
    let h = frame.word_columns in
    let k = frame.left in
    omega (arith, ints)

pub fits_signed_rows : (at : Frame) → IsFrame at → FitsSigned w32 (pos at.rows)
fits_signed_rows at frame = let h = frame.rows in omega (arith, ints)

pub fits_bottom : (at : Frame) → IsFrame at → FitsSigned w32 (to_z w32 (of_z w32 at.top) +ℤ to_z w32 at.rows)
fits_bottom at frame =
    let h = frame.rows in
    let k = frame.top in
    omega (arith, ints)

-- ---- how far a cell is from the left or the top side of the frame

pub offset_fits : (x l : ℤ) (n : ℕ) → unsigned_abs l ≤ 2 ^ 21 → n ≤ 2 ^ 22 → l ≤ℤ x → x ≤ℤ (l +ℤ (pos n -ℤ pos 1))
    → FitsSigned w32 (to_z w32 (of_z w32 x) -ℤ to_z w32 (of_z w32 l))
offset_fits x l n near few low high = omega (arith, ints, low, high)

pub offset_is : (x l : ℤ) (n : ℕ) → unsigned_abs l ≤ 2 ^ 21 → n ≤ 2 ^ 22 → l ≤ℤ x → x ≤ℤ (l +ℤ (pos n -ℤ pos 1))
    → pos (unsigned_abs (to_z w32 (of_z w32 (to_z w32 (of_z w32 x) -ℤ to_z w32 (of_z w32 l))))) ≡ x -ℤ l
offset_is x l n near few low high = omega (arith, ints, low, high)

pub columns_low : (at : Frame) → IsFrame at → 64 * at.word_columns ≤ 2 ^ 22
columns_low at frame = let h = frame.word_columns in omega arith
