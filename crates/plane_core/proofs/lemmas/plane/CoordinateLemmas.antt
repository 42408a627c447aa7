-- Coordinates as the code passes them on: converted to 32 bits and back.
use Rattle.std.proofs.Common.{◌≡◌, ◌+◌, ◌/◌, ◌<◌, ◌≤◌, ℕ, ℤ, pos, negsuc, ◌+ℤ◌, ◌-ℤ◌, ◌≤ℤ◌, ◌<ℤ◌, true, false}
use Rattle.std.proofs.Common.{arith, ap, ◌∙◌, sym, subst, Fits, FitsSigned, of_z, to_z, unsigned_abs, nat_le, w32, w64}
use Rattle.std.proofs.lemmas.Int.{ints, to_z-of_z, to_z_pos}
use lib.Dec.{T, ltb}
use Rattle.std.specs.Bool.{IsTrue}
use lib.Signed.{lt_z, non_neg}
use borrow.Author.Tests.{leb-true, ltb-true}
use Rattle.std.proofs.lemmas.Bool.{and_parts}
use Rattle.plane_core.specs.declared.plane.cell.Cell.{Cell}
use Rattle.plane_core.specs.declared.engine.frame.Frame.{Frame}
use Rattle.plane_core.specs.declared.engine.leap_window.LeapWindow.{LeapWindow}
use Rattle.plane_core.specs.plane.Bounds.{AreSidesWithin}
use Rattle.plane_core.specs.plane.Cells.{on_plane, plane_bound}
use Rattle.plane_core.specs.engine.Frames.{IsFrame, bounds_of}
use Rattle.plane_core.specs.engine.LeapWindows.{IsOnBoard}

abbrev pub passed : ℤ → ℤ
passed z = to_z w32 (of_z w32 z)

small_fits : (z : ℤ) → unsigned_abs z ≤ 16777216 → FitsSigned w32 z
small_fits (pos n) small = record { sfits = omega (arith, small) }
small_fits (negsuc n) small = record { sfits = omega (arith, small) }

pub passed_is : (z : ℤ) → unsigned_abs z ≤ 16777216 → passed z ≡ z
passed_is z small = to_z-of_z w32 z (small_fits z small)

pub x_within : (c : Cell) → on_plane c ≡ true → unsigned_abs c.x ≤ plane_bound
unfolding on_plane
x_within c on = leb-true _ _ ((and_parts (nat_le (unsigned_abs c.x) plane_bound) _ on).0)

pub y_within : (c : Cell) → on_plane c ≡ true → unsigned_abs c.y ≤ plane_bound
unfolding on_plane
y_within c on = leb-true _ _ ((and_parts (nat_le (unsigned_abs c.x) plane_bound) _ on).1)

-- ---- numbers that are compared

pub same_passed : (a b : ℤ) → FitsSigned w32 a → FitsSigned w32 b → of_z w32 a ≡ of_z w32 b → a ≡ b
same_passed a b fa fb same = sym (to_z-of_z w32 a fa) ∙ ap (to_z w32) same ∙ to_z-of_z w32 b fb

-- if `a`, compared in 32 bits, isn't less than `b`, then `a` is `b` plus n, the difference of the 32-bit numbers
pub more_by : (a b : ℤ) (n : ℕ) → FitsSigned w32 a → FitsSigned w32 b → lt_z (passed a) (passed b) ≡ false → n ≡ unsigned_abs (passed a -ℤ passed b)
    → a ≡ b +ℤ pos n
more_by a b n fa fb low is = more (rw (to_z-of_z w32 a fa, to_z-of_z w32 b fb) at low) (rw (to_z-of_z w32 a fa, to_z-of_z w32 b fb) at is)
  where
    more : lt_z a b ≡ false → n ≡ unsigned_abs (a -ℤ b) → a ≡ b +ℤ pos n
    more low is = omega (arith, ints, low, is)

pub too_far : (a b : ℤ) (n i : ℕ) → a ≡ b +ℤ pos n → 64 ≤ n → i < 64 → b +ℤ pos i ≡ a → ⊥
too_far a b n i is far low at = omega (arith, ints, is, far, low, at)

-- ---- differences

-- the difference `a - b`, computed in 32 bits
abbrev pub taken : ℤ → ℤ → ℤ
taken a b = passed (passed a -ℤ passed b)

pub record AreApart (a b : ℤ) (n : ℕ) : Type 0 where
  pub fits : FitsSigned w32 (passed a -ℤ passed b)
  pub counts : T (non_neg (taken a b)) × Fits w64 (unsigned_abs (taken a b))
  pub count : unsigned_abs (taken a b) ≡ n
  pub is : a ≡ b +ℤ pos (unsigned_abs (taken a b))

apart_by : (a b : ℤ) (n : ℕ) → FitsSigned w32 a → FitsSigned w32 b → a ≡ b +ℤ pos n → n ≤ 16777216 → AreApart a b n
apart_by a b n fa fb is small = record {
  fits = subst (FitsSigned w32) (sym whole) (small_fits (pos n) small);
  counts = subst (λ (z : ℤ). T (non_neg z) × Fits w64 (unsigned_abs z)) (sym all) (tt, record { fits = omega (arith, small) });
  count = ap unsigned_abs all;
  is = is ∙ ap (λ (z : ℤ). b +ℤ pos (unsigned_abs z)) (sym all);
}
  where
    whole : passed a -ℤ passed b ≡ pos n
    whole = (λ i. to_z-of_z w32 a fa i -ℤ to_z-of_z w32 b fb i) ∙ omega (arith, ints, is)

    all : taken a b ≡ pos n
    all = ap passed whole ∙ to_z_pos w32 n (omega (arith, small))

pub column_apart : (at : Frame) (p : LeapWindow) → IsFrame at → (on : IsOnBoard at p) → AreApart p.left at.left on.x
column_apart at p frame on =
    let word_column = on.word_columns in
    let few = frame.word_columns in
    let near = frame.left in
    let is = on.left in
    apart_by p.left at.left on.x (small_fits p.left (omega (arith, ints))) (small_fits at.left (omega (arith, near))) is (omega (arith, word_column, few))

pub row_apart : (at : Frame) (p : LeapWindow) → IsFrame at → (on : IsOnBoard at p) → AreApart p.top at.top on.y
row_apart at p frame on =
    let row = on.rows in
    let few = frame.rows in
    let near = frame.top in
    let is = on.top in
    apart_by p.top at.top on.y (small_fits p.top (omega (arith, ints))) (small_fits at.top (omega (arith, near))) is (omega (arith, row, few))

-- if `a` is one of the 64 coordinates from `b` on, the difference `a - b`, computed in 32 bits, is correct
pub within_apart : (a b : ℤ) → FitsSigned w32 a → FitsSigned w32 b → b ≤ℤ a → a <ℤ (b +ℤ pos 64) → AreApart a b (unsigned_abs (a -ℤ b))
within_apart a b fa fb from to = apart_by a b (unsigned_abs (a -ℤ b)) fa fb (omega (arith, ints, from)) (omega (arith, ints, from, to))

pub within_low : (a b : ℤ) → b ≤ℤ a → a <ℤ (b +ℤ pos 64) → AreApart a b (unsigned_abs (a -ℤ b)) → unsigned_abs (taken a b) < 64
within_low a b from to apart = subst (λ (n : ℕ). n < 64) (sym apart.count) (omega (arith, ints, from, to))

-- ---- sums

pub record IsSum (a b : ℤ) : Type 0 where
  pub fits : FitsSigned w32 (passed a +ℤ passed b)
  pub is : passed (passed a +ℤ passed b) ≡ a +ℤ b

sum_of_small : (a b : ℤ) → unsigned_abs a ≤ 8388608 → unsigned_abs b ≤ 8388608 → IsSum a b
sum_of_small a b la lb = record {
  fits = subst (FitsSigned w32) (sym whole) (small_fits (a +ℤ b) low);
  is = ap passed whole ∙ passed_is (a +ℤ b) low;
}
  where
    whole : passed a +ℤ passed b ≡ a +ℤ b
    whole = λ i. passed_is a (omega (arith, la)) i +ℤ passed_is b (omega (arith, lb)) i

    low : unsigned_abs (a +ℤ b) ≤ 16777216
    low = omega (arith, ints, la, lb)

pub sum_of : (a b : ℤ) → unsigned_abs a ≤ plane_bound → unsigned_abs b ≤ plane_bound → IsSum a b
sum_of a b la lb = sum_of_small a b (omega (arith, la)) (omega (arith, lb))

pub step_of : (a b : ℤ) → unsigned_abs a ≤ plane_bound + 1 → unsigned_abs b ≤ 2 → IsSum a b
step_of a b la lb = sum_of_small a b (omega (arith, la)) (omega (arith, lb))

-- adding n to the coordinate `a` in 32 bits doesn't overflow, and gives `a + n`
pub record IsMoved (a : ℤ) (n : ℕ) : Type 0 where
  pub step : FitsSigned w32 (pos n)
  pub fits : FitsSigned w32 (passed a +ℤ to_z w32 n)
  pub is : passed (passed a +ℤ to_z w32 n) ≡ a +ℤ pos n

pub moved_by : (a : ℤ) (n : ℕ) → unsigned_abs a ≤ 8388608 → n ≤ 8388608 → IsMoved a n
moved_by a n near few = record {
  step = small_fits (pos n) (omega (arith, few));
  fits = subst (FitsSigned w32) (sym whole) (small_fits (a +ℤ pos n) low);
  is = ap passed whole ∙ passed_is (a +ℤ pos n) low;
}
  where
    whole : passed a +ℤ to_z w32 n ≡ a +ℤ pos n
    whole = λ i. passed_is a (omega (arith, near)) i +ℤ to_z_pos w32 n (omega (arith, few)) i

    low : unsigned_abs (a +ℤ pos n) ≤ 16777216
    low = omega (arith, ints, near, few)

pub moved_on_plane : (a : ℤ) (n : ℕ) → unsigned_abs a ≤ plane_bound → n ≤ plane_bound → IsMoved a n
moved_on_plane a n near few = moved_by a n (omega (arith, near)) (omega (arith, few))

pub moved_in_reach : (a : ℤ) (n : ℕ) → unsigned_abs a ≤ 6291456 → n < 64 → IsMoved a n
moved_in_reach a n near few = moved_by a n (omega (arith, near)) (omega (arith, few))

-- ---- differences of coordinates of the plane

pub record IsDifference (a b : ℤ) : Type 0 where
  pub fits : FitsSigned w32 (passed a -ℤ passed b)
  pub is : passed (passed a -ℤ passed b) ≡ a -ℤ b

pub difference_of : (a b : ℤ) → unsigned_abs a ≤ plane_bound → unsigned_abs b ≤ plane_bound → IsDifference a b
difference_of a b la lb = record {
  fits = subst (FitsSigned w32) (sym whole) (small_fits (a -ℤ b) low);
  is = ap passed whole ∙ passed_is (a -ℤ b) low;
}
  where
    whole : passed a -ℤ passed b ≡ a -ℤ b
    whole = λ i. passed_is a (omega (arith, la)) i -ℤ passed_is b (omega (arith, lb)) i

    low : unsigned_abs (a -ℤ b) ≤ 16777216
    low = omega (arith, ints, la, lb)

-- subtracting n from the coordinate `a` in 32 bits doesn't overflow, and gives `a - n`
pub record IsMovedBack (a : ℤ) (n : ℕ) : Type 0 where
  pub step : FitsSigned w32 (pos n)
  pub fits : FitsSigned w32 (passed a -ℤ to_z w32 n)
  pub is : passed (passed a -ℤ to_z w32 n) ≡ a -ℤ pos n

pub moved_back : (a : ℤ) (n : ℕ) → unsigned_abs a ≤ plane_bound → n ≤ plane_bound → IsMovedBack a n
moved_back a n near few = record {
  step = small_fits (pos n) (omega (arith, few));
  fits = subst (FitsSigned w32) (sym whole) (small_fits (a -ℤ pos n) low);
  is = ap passed whole ∙ passed_is (a -ℤ pos n) low;
}
  where
    whole : passed a -ℤ to_z w32 n ≡ a -ℤ pos n
    whole = λ i. passed_is a (omega (arith, near)) i -ℤ to_z_pos w32 n (omega (arith, few)) i

    low : unsigned_abs (a -ℤ pos n) ≤ 16777216
    low = omega (arith, ints, near, few)

-- ---- a view of a board

-- a window of 64 rows that begins x columns and y rows into a board, as a board of its own
pub record IsViewOf (at : Frame) (x y : ℕ) (view : Frame) : Type 0 where
  pub left : view.left ≡ at.left +ℤ pos x
  pub top : view.top ≡ at.top +ℤ pos y
  pub word_columns : view.word_columns ≡ 1
  pub rows : view.rows ≡ 64

module _ (at : Frame) (x y : ℕ) (view : Frame) (plane : AreSidesWithin plane_bound (bounds_of at)) (word_column : x / 64 + 1 < at.word_columns) (row : y + 64 ≤ at.rows) where
  pub view_on_plane : IsViewOf at x y view → AreSidesWithin plane_bound (bounds_of view)
  view_on_plane is =
      let il = is.left in
      let it = is.top in
      let word_columns = is.word_columns in
      let rows = is.rows in
      let l = plane.left in
      let t = plane.top in
      let r = plane.right in
      let b = plane.bottom in
      record { left = omega (arith, ints); top = omega (arith, ints); right = omega (arith, ints); bottom = omega (arith, ints) }

  pub view_is_frame : IsViewOf at x y view → IsFrame view
  view_is_frame is =
      let on = view_on_plane is in
      let l = on.left in
      let t = on.top in
      let word_columns = is.word_columns in
      let rows = is.rows in
      record { left = omega arith; top = omega arith; word_columns = omega arith; rows = omega arith; bands = omega arith }

-- ---- a comparison of numbers

pub not_below : (a b : ℕ) → b ≤ a → IsTrue (ltb a b) → ⊥
not_below a b high e = let low : a < b = ltb-true a b e in omega (arith, high, low)
