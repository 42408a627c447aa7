-- Where cells are on a board, and a frame around a pattern.
use Rattle.std.proofs.Common.{◌≡◌, ◌≢◌, ◌+◌, ◌-◌, ◌*◌, ◌/◌, ◌%◌, ◌^◌, ◌<◌, ◌≤◌, ℕ, pos, ◌+ℤ◌, ◌-ℤ◌, List}
use Rattle.std.proofs.Common.{◌≤ℤ◌, arith, refl, ap, ◌∙◌, sym, subst, inl, inr, ◌⊎◌}
use Rattle.std.proofs.lemmas.Int.{ints}
use Rattle.std.proofs.Math.Nat.{mul-le-mul}
use Rattle.plane_core.specs.declared.engine.frame.Frame.{Frame}
use Rattle.plane_core.specs.declared.plane.bounds.Bounds.{Bounds}
use Rattle.plane_core.specs.declared.plane.cell.Cell.{Cell}
use Rattle.plane_core.specs.plane.Bounds.{IsWithin, IsLeastBox}
use Rattle.plane_core.specs.plane.Cells.{plane_bound, distance}
use Rattle.plane_core.specs.engine.Frames.{IsFrame, LieOn, bounds_of, board_cell, word_of}
use Rattle.plane_core.specs.plane.Bounds.{AreSidesWithin}
use Rattle.plane_core.proofs.lemmas.plane.CaseLemmas.{less_or_not, same_or_not}
use Rattle.plane_core.proofs.lemmas.plane.BoxRoundLemmas.{fewer_sides, in_box}
use Rattle.plane_core.proofs.lemmas.plane.CellLemmas.{same_cells}
use Rattle.plane_core.proofs.lemmas.Between.{HasRoom}

-- ---- the index of a row's word in the list

-- the index of a row's word is less than the number of words
pub word-inside : (at : Frame) (s r : ℕ) → s < at.word_columns → r < at.rows → word_of at s r < at.word_columns * at.rows
word-inside at s r hs hr =
    let many : at.word_columns ≡ s + 1 + (at.word_columns - (s + 1)) = omega arith in
    let whole : at.word_columns * at.rows ≡ (s + 1 + (at.word_columns - (s + 1))) * at.rows = ap (λ (m : ℕ). m * at.rows) many in
    omega (arith, whole)

pub frame-small : (at : Frame) → IsFrame at → at.word_columns * at.rows ≤ 2 ^ 16 * 2 ^ 22
frame-small at frame = mul-le-mul frame.word_columns frame.rows

-- the words of different rows, or of different word columns, have different indices in the list
pub one_word : (h s r t y : ℕ) → s * h + r ≡ t * h + y → r < h → y < h → (s ≡ t) × (r ≡ y)
one_word h s r t y e hr hy = go (same_or_not s t)
  where
    before : (a b u v : ℕ) → a * h + u ≡ b * h + v → u < h → v < h → a < b → ⊥
    before a b u v e hu hv low =
        let more : b ≡ a + 1 + (b - (a + 1)) = omega arith in
        let whole : b * h ≡ (a + 1 + (b - (a + 1))) * h = ap (λ (m : ℕ). m * h) more in
        omega (arith, whole)

    go : (s ≡ t) ⊎ (s ≢ t) → (s ≡ t) × (r ≡ y)
    go (inl same) = (same, let whole : s * h ≡ t * h = ap (λ (m : ℕ). m * h) same in omega (arith, whole))
    go (inr apart) = elim (less_or_not s t) [
      | inl low ↦ absurd (before s t r y e hr hy low)
      | inr high ↦ absurd (before t s y r (sym e) hy hr (omega arith))
    ]

-- ---- cells

-- the cell in column `a` and row d of the board is bit a % 64 of row d of word column a / 64
pub spot_of : (at : Frame) (c : Cell) (a d : ℕ) → pos a ≡ c.x -ℤ at.left → pos d ≡ c.y -ℤ at.top → c ≡ board_cell at (a / 64) d (a % 64)
spot_of at c a d p q = same_cells c.x c.y _ _ (omega (arith, ints)) (omega (arith, ints))

pub one_spot : (at : Frame) (t y k s d i : ℕ) → k < 64 → i < 64 → board_cell at t y k ≡ board_cell at s d i → (t ≡ s) × (y ≡ d) × (k ≡ i)
one_spot at t y k s d i hk hi e =
    let x : at.left +ℤ pos (64 * t + k) ≡ at.left +ℤ pos (64 * s + i) = ap (λ (c : Cell). c.x) e in
    let z : at.top +ℤ pos y ≡ at.top +ℤ pos d = ap (λ (c : Cell). c.y) e in
    (omega (arith, ints), omega (arith, ints), omega (arith, ints))

-- a cell on the board is in one of its word columns and rows
pub spot_inside : (at : Frame) (c : Cell) (a d : ℕ) → IsWithin (bounds_of at) c → pos a ≡ c.x -ℤ at.left → pos d ≡ c.y -ℤ at.top
    → (a / 64 < at.word_columns) × (d < at.rows)
spot_inside at c a d within p q =
    let right = within.right in
    let bottom = within.bottom in
    (omega (arith, ints), omega (arith, ints))

-- ---- a frame round a pattern

pub lie_on : (S : List Cell) (b : Bounds) (at : Frame) → IsLeastBox S b → ((c : Cell) → IsWithin b c → IsWithin (bounds_of at) c) → LieOn at S
lie_on S b at least h c e = h c (in_box S b c least e)

pub sides_on_plane : (b : Bounds) (margin : ℕ) → AreSidesWithin (plane_bound - margin - 64) b → AreSidesWithin plane_bound b
sides_on_plane b margin sides = fewer_sides (plane_bound - margin - 64) plane_bound b (omega arith) sides

-- the frame around a box, with a margin on each side
pub record IsRoundBox (b : Bounds) (margin : ℕ) (at : Frame) : Type 0 where
  pub left : at.left ≡ b.left -ℤ pos margin
  pub top : at.top ≡ b.top -ℤ pos margin
  pub word_columns : at.word_columns ≡ (distance b.left b.right + 2 * margin + 1) / 64 + 1
  pub rows : at.rows ≡ (distance b.top b.bottom + 2 * margin + 1) / 8 * 8 + 8

pub round_is_frame : (b : Bounds) (margin : ℕ) (at : Frame) → margin ≤ 2000 → AreSidesWithin (plane_bound - margin - 64) b → IsRoundBox b margin at
    → IsFrame at
round_is_frame b margin at low sides is =
    let sl = sides.left in
    let st = sides.top in
    let sr = sides.right in
    let sd = sides.bottom in
    record {
      left = let p = is.left in omega (arith, ints);
      top = let p = is.top in omega (arith, ints);
      word_columns = let p = is.word_columns in omega (arith, ints);
      rows = let p = is.rows in omega (arith, ints);
      bands = let p = is.rows in omega arith;
    }

pub round_has_on : (b : Bounds) (margin : ℕ) (at : Frame) → IsRoundBox b margin at → (c : Cell) → IsWithin b c → IsWithin (bounds_of at) c
round_has_on b margin at is c within =
    let l = is.left in
    let t = is.top in
    let s = is.word_columns in
    let k = is.rows in
    record {
      left = let p = within.left in omega (arith, ints);
      top = let p = within.top in omega (arith, ints);
      right = let p = within.right in omega (arith, ints);
      bottom = let p = within.bottom in omega (arith, ints);
    }

-- in the smallest box around a pattern, left is at most right, and top is at most bottom
pub box_in_order : (S : List Cell) (b : Bounds) → IsLeastBox S b → (b.left ≤ℤ b.right) × (b.top ≤ℤ b.bottom)
box_in_order S b least =
    let (k, x, low, same, left) = least.left in
    let (j, y, few, here, top) = least.top in
    let w : IsWithin b x = subst (λ (c : Cell). IsWithin b c) same (least.within k x low) in
    let v : IsWithin b y = subst (λ (c : Cell). IsWithin b c) here (least.within j y few) in
    (let h = w.right in omega (arith, ints, left), let h = v.bottom in omega (arith, ints, top))

pub round_on_plane : (b : Bounds) (margin : ℕ) (at : Frame) → margin ≤ 2000 → b.left ≤ℤ b.right → b.top ≤ℤ b.bottom
    → AreSidesWithin (plane_bound - margin - 64) b → IsRoundBox b margin at → AreSidesWithin plane_bound (bounds_of at)
round_on_plane b margin at low across down sides is =
    let l = is.left in
    let t = is.top in
    let s = is.word_columns in
    let k = is.rows in
    let sl = sides.left in
    let st = sides.top in
    let sr = sides.right in
    let sd = sides.bottom in
    let right : (bounds_of at).right ≡ at.left +ℤ (pos (64 * at.word_columns) -ℤ pos 1) = refl in
    let bottom : (bounds_of at).bottom ≡ at.top +ℤ (pos at.rows -ℤ pos 1) = refl in
    record {
      left = omega (arith, ints);
      top = omega (arith, ints);
      right = omega (arith, ints);
      bottom = omega (arith, ints);
    }

-- ---- a frame with a box in its middle

-- `new` is as large as the frame `at`, and has the box in its middle
pub record IsRoundMiddle (at : Frame) (b : Bounds) (new : Frame) : Type 0 where
  pub left : new.left ≡ b.left -ℤ pos ((64 * at.word_columns - (distance b.left b.right + 1)) / 2)
  pub top : new.top ≡ b.top -ℤ pos ((at.rows - (distance b.top b.bottom + 1)) / 2)
  pub word_columns : new.word_columns ≡ at.word_columns
  pub rows : new.rows ≡ at.rows

pub middle_has_on : (at : Frame) (b : Bounds) (new : Frame) → b.left ≤ℤ b.right → b.top ≤ℤ b.bottom → HasRoom at b → IsRoundMiddle at b new
    → (c : Cell) → IsWithin b c → IsWithin (bounds_of new) c
middle_has_on at b new across down room is c within =
    let l = is.left in
    let t = is.top in
    let s = is.word_columns in
    let k = is.rows in
    let w = room.across in
    let h = room.down in
    record {
      left = let p = within.left in omega (arith, ints);
      top = let p = within.top in omega (arith, ints);
      right = let p = within.right in omega (arith, ints);
      bottom = let p = within.bottom in omega (arith, ints);
    }

pub middle_on_plane : (at : Frame) (b : Bounds) (new : Frame) → b.left ≤ℤ b.right → b.top ≤ℤ b.bottom → HasRoom at b → IsRoundMiddle at b new
    → AreSidesWithin plane_bound (bounds_of new)
middle_on_plane at b new across down room is =
    let l = is.left in
    let t = is.top in
    let s = is.word_columns in
    let k = is.rows in
    let w = room.across in
    let h = room.down in
    let m = room.plane in
    let sl = room.sides.left in
    let st = room.sides.top in
    let right : (bounds_of new).right ≡ new.left +ℤ (pos (64 * new.word_columns) -ℤ pos 1) = refl in
    let bottom : (bounds_of new).bottom ≡ new.top +ℤ (pos new.rows -ℤ pos 1) = refl in
    record {
      left = omega (arith, ints);
      top = omega (arith, ints);
      right = omega (arith, ints);
      bottom = omega (arith, ints);
    }

pub middle_is_frame : (at : Frame) (b : Bounds) (new : Frame) → b.left ≤ℤ b.right → b.top ≤ℤ b.bottom → IsFrame at → HasRoom at b
    → IsRoundMiddle at b new → IsFrame new
middle_is_frame at b new across down frame room is =
    let plane = middle_on_plane at b new across down room is in
    let s = is.word_columns in
    let k = is.rows in
    record {
      left = let p = plane.left in omega arith;
      top = let p = plane.top in omega arith;
      word_columns = let p = frame.word_columns in omega arith;
      rows = let p = frame.rows in omega arith;
      bands = k ∙ frame.bands ∙ ap (λ (n : ℕ). 8 * (n / 8)) (sym k);
    }
