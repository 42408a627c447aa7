use Rattle.std.proofs.Common.{ap, arith, ℕ, ◌∙◌, ◌≤◌, ◌+◌, ◌-◌, ◌-ℤ◌, ◌*◌, ◌/◌, pos, refl, subst, sym, w32, Fits, FitsSigned}
use Rattle.std.proofs.lemmas.Int.{to_z-of_z}
use Rattle.plane_core.proofs.lemmas.engine.FrameFits.{apart_is, apart_small, back_is, fits_around, fits_back, fits_columns, fits_word_columns, fits_more, fits_room, fits_rows}
use Rattle.plane_core.proofs.lemmas.engine.FrameFits.{half_low, half_near, has_room, passed_near, room_sides, sides_near}
use Rattle.plane_core.proofs.lemmas.engine.FrameLemmas.{IsRoundMiddle, middle_has_on, middle_is_frame, middle_on_plane}
use Rattle.plane_core.proofs.engine.frame.Frame.round_middle.Goals as goal
use Rattle.plane_core.proofs.engine.frame.Frame.round_middle.Goals.{After-back-2, Else-height-room}
use Rattle.plane_core.proofs.lemmas.Between.{HasRoom}

one : 1 ≤ 10000
one = omega arith

room : Fits w32 400
room = record { fits = omega arith }

pub overflow_cast-columns : goal.overflow_cast-columns
overflow_cast-columns c = fits_word_columns c.args.self c.requires.frame

pub overflow_mul-columns : goal.overflow_mul-columns
overflow_mul-columns c = fits_columns c.args.self c.requires.frame

pub overflow_cast-rows : goal.overflow_cast-rows
overflow_cast-rows c = fits_rows c.args.self c.requires.frame

pub overflow_add-around : goal.overflow_add-around
overflow_add-around c = fits_around c.args.self c.requires.frame

pub apart-width-requires-clause-a : goal.apart-width-requires-clause-a
apart-width-requires-clause-a c =
    let near = sides_near _ _ c.args.bounds c.farthest.ensures c.if-farthest-around.false in
    passed_near c.args.bounds.left near.left

pub apart-width-requires-clause-b : goal.apart-width-requires-clause-b
apart-width-requires-clause-b c =
    let near = sides_near _ _ c.args.bounds c.farthest.ensures c.if-farthest-around.false in
    passed_near c.args.bounds.right near.right

pub apart-height-requires-clause-a : goal.apart-height-requires-clause-a
apart-height-requires-clause-a c =
    let near = sides_near _ _ c.args.bounds c.farthest.ensures c.if-farthest-around.false in
    passed_near c.args.bounds.top near.top

pub apart-height-requires-clause-b : goal.apart-height-requires-clause-b
apart-height-requires-clause-b c =
    let near = sides_near _ _ c.args.bounds c.farthest.ensures c.if-farthest-around.false in
    passed_near c.args.bounds.bottom near.bottom

pub overflow_add-width : goal.overflow_add-width
overflow_add-width c =
    let near = sides_near _ _ c.args.bounds c.farthest.ensures c.if-farthest-around.false in
    fits_more c.apart-width.result 1 (apart_small c.args.bounds.left c.args.bounds.right c.apart-width.result near.left
    near.right c.apart-width.ensures) one

pub overflow_mul-room : goal.overflow_mul-room
overflow_mul-room c = room

pub overflow_add-width-2 : goal.overflow_add-width-2
overflow_add-width-2 c =
    let near = sides_near _ _ c.args.bounds c.farthest.ensures c.if-farthest-around.false in
    fits_room c.apart-width.result (apart_small c.args.bounds.left c.args.bounds.right c.apart-width.result near.left
    near.right c.apart-width.ensures)

pub overflow_add-height : goal.overflow_add-height
overflow_add-height c =
    let near = sides_near _ _ c.args.bounds c.farthest.ensures c.if-farthest-around.false in
    fits_more c.apart-height.result 1 (apart_small c.args.bounds.top c.args.bounds.bottom c.apart-height.result near.top
    near.bottom c.apart-height.ensures) one

pub overflow_add-height-2 : goal.overflow_add-height-2
overflow_add-height-2 c =
    let near = sides_near _ _ c.args.bounds c.farthest.ensures c.if-farthest-around.false in
    fits_room c.apart-height.result (apart_small c.args.bounds.top c.args.bounds.bottom c.apart-height.result near.top
    near.bottom c.apart-height.ensures)

-- once all tests of `round_middle` have passed, the box has room on the board
room_found : (c : Else-height-room) → HasRoom c.args.self c.args.bounds
room_found c =
    let b = c.args.bounds in
    let near = sides_near _ _ b c.farthest.ensures c.if-farthest-around.false in
    has_room c.args.self b c.apart-width.result c.apart-height.result c.farthest.result
    (apart_is b.left b.right c.apart-width.result near.left near.right c.apart-width.ensures)
    (apart_is b.top b.bottom c.apart-height.result near.top near.bottom c.apart-height.ensures) c.if-width-room.false c.if-height-room.false
    c.if-around-gt-BOUND.false c.farthest.ensures c.if-farthest-around.false

is_middle : (c : After-back-2) → HasRoom c.args.self c.args.bounds → IsRoundMiddle c.args.self c.args.bounds (record {
  left = c.back.result;
  top = c.back-2.result;
  word_columns = c.args.self.word_columns;
  rows = c.args.self.rows;
})
is_middle c room =
    let sides = room_sides c.args.self c.args.bounds room in
    let width = apart_is c.args.bounds.left c.args.bounds.right c.apart-width.result sides.left sides.right c.apart-width.ensures in
    let height = apart_is c.args.bounds.top c.args.bounds.bottom c.apart-height.result sides.top sides.bottom c.apart-height.ensures in
    record {
      left = back_is c.args.bounds.left _ c.back.result sides.left c.back.ensures
          ∙ ap (λ (n : ℕ). c.args.bounds.left -ℤ pos ((64 * c.args.self.word_columns - (n + 1)) / 2)) width;
      top = back_is c.args.bounds.top _ c.back-2.result sides.top c.back-2.ensures
          ∙ ap (λ (n : ℕ). c.args.bounds.top -ℤ pos ((c.args.self.rows - (n + 1)) / 2)) height;
      word_columns = refl;
      rows = refl;
    }

fits_left : (c : After-back-2) → HasRoom c.args.self c.args.bounds → FitsSigned w32 c.back.result
fits_left c room =
    fits_back c.args.bounds.left _ c.back.result (room_sides c.args.self c.args.bounds room).left
    (half_near (64 * c.args.self.word_columns) (c.apart-width.result + 1) c.args.self.rows room.plane) c.back.ensures

fits_top : (c : After-back-2) → HasRoom c.args.self c.args.bounds → FitsSigned w32 c.back-2.result
fits_top c room =
    fits_back c.args.bounds.top _ c.back-2.result (room_sides c.args.self c.args.bounds room).top
    (half_low c.args.self.rows (c.apart-height.result + 1) (64 * c.args.self.word_columns) room.plane) c.back-2.ensures

pub returns-clause-frame : goal.returns-clause-frame
returns-clause-frame c =
    rw (to_z-of_z w32 c.back.result (fits_left c (room_found (goal.at.returns-clause-frame c).Else-height-room)), to_z-of_z w32 c.back-2.result (fits_top c (room_found (goal.at.returns-clause-frame c).Else-height-room)))
    (middle_is_frame c.args.self c.args.bounds _ c.requires.across c.requires.down c.requires.frame (room_found (goal.at.returns-clause-frame c).Else-height-room) (is_middle c (room_found (goal.at.returns-clause-frame c).Else-height-room)))

pub returns-clause-plane : goal.returns-clause-plane
returns-clause-plane c =
    rw (to_z-of_z w32 c.back.result (fits_left c (room_found (goal.at.returns-clause-plane c).Else-height-room)), to_z-of_z w32 c.back-2.result (fits_top c (room_found (goal.at.returns-clause-plane c).Else-height-room)))
    (middle_on_plane c.args.self c.args.bounds _ c.requires.across c.requires.down (room_found (goal.at.returns-clause-plane c).Else-height-room) (is_middle c (room_found (goal.at.returns-clause-plane c).Else-height-room)))

pub returns-clause-on : goal.returns-clause-on
returns-clause-on c =
    rw (to_z-of_z w32 c.back.result (fits_left c (room_found (goal.at.returns-clause-on c).Else-height-room)), to_z-of_z w32 c.back-2.result (fits_top c (room_found (goal.at.returns-clause-on c).Else-height-room)))
    (middle_has_on c.args.self c.args.bounds _ c.requires.across c.requires.down (room_found (goal.at.returns-clause-on c).Else-height-room) (is_middle c (room_found (goal.at.returns-clause-on c).Else-height-room)))

pub overflow_sub-columns : goal.overflow_sub-columns
overflow_sub-columns c =
    let sides = room_sides c.args.self c.args.bounds (room_found (goal.at.overflow_sub-columns c).Else-height-room) in
    subst (λ (d : ℕ). d + 1 ≤ 64 * c.args.self.word_columns)
    (sym (apart_is c.args.bounds.left c.args.bounds.right c.apart-width.result sides.left sides.right c.apart-width.ensures))
    (room_found (goal.at.overflow_sub-columns c).Else-height-room).across

pub back-requires-clause-from : goal.back-requires-clause-from
back-requires-clause-from c = passed_near c.args.bounds.left (room_sides c.args.self c.args.bounds (room_found (goal.at.back-requires-clause-from c).Else-height-room)).left

pub back-requires-clause-cells : goal.back-requires-clause-cells
back-requires-clause-cells c = half_near (64 * c.args.self.word_columns) (c.apart-width.result + 1) c.args.self.rows (room_found (goal.at.back-requires-clause-cells c).Else-height-room).plane

pub overflow_sub-rows : goal.overflow_sub-rows
overflow_sub-rows c =
    let sides = room_sides c.args.self c.args.bounds (room_found (goal.at.overflow_sub-rows c).Else-height-room) in
    subst (λ (d : ℕ). d + 1 ≤ c.args.self.rows)
    (sym (apart_is c.args.bounds.top c.args.bounds.bottom c.apart-height.result sides.top sides.bottom c.apart-height.ensures))
    (room_found (goal.at.overflow_sub-rows c).Else-height-room).down

pub back-requires-2-clause-from : goal.back-requires-2-clause-from
back-requires-2-clause-from c = passed_near c.args.bounds.top (room_sides c.args.self c.args.bounds (room_found (goal.at.back-requires-2-clause-from c).Else-height-room)).top

pub back-requires-2-clause-cells : goal.back-requires-2-clause-cells
back-requires-2-clause-cells c = half_low c.args.self.rows (c.apart-height.result + 1) (64 * c.args.self.word_columns) (room_found (goal.at.back-requires-2-clause-cells c).Else-height-room).plane

pub returns-clause-word_columns : goal.returns-clause-word_columns
returns-clause-word_columns c = refl

pub returns-clause-rows : goal.returns-clause-rows
returns-clause-rows c = refl
