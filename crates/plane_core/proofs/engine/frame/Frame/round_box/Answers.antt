use Rattle.std.proofs.Common.{ap, ℕ, ◌+◌, ◌*◌, ◌/◌, w32, FitsSigned}
use Rattle.std.proofs.lemmas.Int.{to_z-of_z}
use Rattle.plane_core.proofs.lemmas.engine.FrameFits.{apart_is, apart_small, back_is, fits_back, fits_bands, fits_more, fits_new_word_columns, fits_new_rows}
use Rattle.plane_core.proofs.lemmas.engine.FrameFits.{fits_one_more, fits_twice, fits_wide_word_columns, fits_wide_rows, margin_small, passed_near, twice_small}
use Rattle.plane_core.proofs.lemmas.engine.FrameLemmas.{IsRoundBox, round_is_frame, round_has_on, round_on_plane, sides_on_plane}
use Rattle.plane_core.proofs.engine.frame.Frame.round_box.Goals as goal

is_round : (c : goal.After-back-2) → IsRoundBox c.args.bounds c.args.margin (record {
  left = c.back.result;
  top = c.back-2.result;
  word_columns = (c.apart.result + 2 * c.args.margin + 1) / 64 + 1;
  rows = (c.apart-2.result + 2 * c.args.margin + 1) / 8 * 8 + 8;
})
is_round c = record {
  left = back_is c.args.bounds.left c.args.margin c.back.result (sides_on_plane c.args.bounds c.args.margin c.requires.sides).left c.back.ensures;
  top = back_is c.args.bounds.top c.args.margin c.back-2.result (sides_on_plane c.args.bounds c.args.margin c.requires.sides).top c.back-2.ensures;
  word_columns = ap (λ (n : ℕ). (n + 2 * c.args.margin + 1) / 64 + 1)
      (apart_is c.args.bounds.left c.args.bounds.right c.apart.result (sides_on_plane c.args.bounds c.args.margin c.requires.sides).left
      (sides_on_plane c.args.bounds c.args.margin c.requires.sides).right c.apart.ensures);
  rows = ap (λ (n : ℕ). (n + 2 * c.args.margin + 1) / 8 * 8 + 8)
      (apart_is c.args.bounds.top c.args.bounds.bottom c.apart-2.result (sides_on_plane c.args.bounds c.args.margin c.requires.sides).top
      (sides_on_plane c.args.bounds c.args.margin c.requires.sides).bottom c.apart-2.ensures);
}

fits_left : (c : goal.After-back-2) → FitsSigned w32 c.back.result
fits_left c =
    fits_back c.args.bounds.left c.args.margin c.back.result (sides_on_plane c.args.bounds c.args.margin c.requires.sides).left
    (margin_small c.args.margin c.requires.margin) c.back.ensures

fits_top : (c : goal.After-back-2) → FitsSigned w32 c.back-2.result
fits_top c =
    fits_back c.args.bounds.top c.args.margin c.back-2.result (sides_on_plane c.args.bounds c.args.margin c.requires.sides).top
    (margin_small c.args.margin c.requires.margin) c.back-2.ensures

pub returns-clause-frame : goal.returns-clause-frame
returns-clause-frame c =
    rw (to_z-of_z w32 c.back.result (fits_left c), to_z-of_z w32 c.back-2.result (fits_top c))
    (round_is_frame c.args.bounds c.args.margin _ c.requires.margin c.requires.sides (is_round c))

pub returns-clause-plane : goal.returns-clause-plane
returns-clause-plane c =
    rw (to_z-of_z w32 c.back.result (fits_left c), to_z-of_z w32 c.back-2.result (fits_top c))
    (round_on_plane c.args.bounds c.args.margin _ c.requires.margin c.requires.across c.requires.down c.requires.sides (is_round c))

pub returns-clause-on : goal.returns-clause-on
returns-clause-on c =
    rw (to_z-of_z w32 c.back.result (fits_left c), to_z-of_z w32 c.back-2.result (fits_top c))
    (round_has_on c.args.bounds c.args.margin _ (is_round c))

pub apart-requires-clause-a : goal.apart-requires-clause-a
apart-requires-clause-a c = passed_near c.args.bounds.left (sides_on_plane c.args.bounds c.args.margin c.requires.sides).left

pub apart-requires-clause-b : goal.apart-requires-clause-b
apart-requires-clause-b c = passed_near c.args.bounds.right (sides_on_plane c.args.bounds c.args.margin c.requires.sides).right

pub apart-requires-2-clause-a : goal.apart-requires-2-clause-a
apart-requires-2-clause-a c = passed_near c.args.bounds.top (sides_on_plane c.args.bounds c.args.margin c.requires.sides).top

pub apart-requires-2-clause-b : goal.apart-requires-2-clause-b
apart-requires-2-clause-b c = passed_near c.args.bounds.bottom (sides_on_plane c.args.bounds c.args.margin c.requires.sides).bottom

pub back-requires-clause-from : goal.back-requires-clause-from
back-requires-clause-from c = passed_near c.args.bounds.left (sides_on_plane c.args.bounds c.args.margin c.requires.sides).left

pub back-requires-2-clause-from : goal.back-requires-2-clause-from
back-requires-2-clause-from c = passed_near c.args.bounds.top (sides_on_plane c.args.bounds c.args.margin c.requires.sides).top

pub overflow_mul-width : goal.overflow_mul-width
overflow_mul-width c = fits_twice c.args.margin c.requires.margin

pub overflow_add-width : goal.overflow_add-width
overflow_add-width c =
    fits_more c.apart.result (2 * c.args.margin)
    (apart_small c.args.bounds.left c.args.bounds.right c.apart.result (sides_on_plane c.args.bounds c.args.margin c.requires.sides).left
    (sides_on_plane c.args.bounds c.args.margin c.requires.sides).right c.apart.ensures)
    (twice_small c.args.margin c.requires.margin)

pub overflow_add-width-2 : goal.overflow_add-width-2
overflow_add-width-2 c =
    fits_one_more c.apart.result (2 * c.args.margin)
    (apart_small c.args.bounds.left c.args.bounds.right c.apart.result (sides_on_plane c.args.bounds c.args.margin c.requires.sides).left
    (sides_on_plane c.args.bounds c.args.margin c.requires.sides).right c.apart.ensures)
    (twice_small c.args.margin c.requires.margin)

pub overflow_add-result : goal.overflow_add-result
overflow_add-result c =
    fits_new_word_columns c.apart.result (2 * c.args.margin)
    (apart_small c.args.bounds.left c.args.bounds.right c.apart.result (sides_on_plane c.args.bounds c.args.margin c.requires.sides).left
    (sides_on_plane c.args.bounds c.args.margin c.requires.sides).right c.apart.ensures)
    (twice_small c.args.margin c.requires.margin)

pub overflow_cast-result : goal.overflow_cast-result
overflow_cast-result c =
    fits_wide_word_columns c.apart.result (2 * c.args.margin)
    (apart_small c.args.bounds.left c.args.bounds.right c.apart.result (sides_on_plane c.args.bounds c.args.margin c.requires.sides).left
    (sides_on_plane c.args.bounds c.args.margin c.requires.sides).right c.apart.ensures)
    (twice_small c.args.margin c.requires.margin)

pub overflow_mul-height : goal.overflow_mul-height
overflow_mul-height c = fits_twice c.args.margin c.requires.margin

pub overflow_add-height : goal.overflow_add-height
overflow_add-height c =
    fits_more c.apart-2.result (2 * c.args.margin)
    (apart_small c.args.bounds.top c.args.bounds.bottom c.apart-2.result (sides_on_plane c.args.bounds c.args.margin c.requires.sides).top
    (sides_on_plane c.args.bounds c.args.margin c.requires.sides).bottom c.apart-2.ensures)
    (twice_small c.args.margin c.requires.margin)

pub overflow_add-height-2 : goal.overflow_add-height-2
overflow_add-height-2 c =
    fits_one_more c.apart-2.result (2 * c.args.margin)
    (apart_small c.args.bounds.top c.args.bounds.bottom c.apart-2.result (sides_on_plane c.args.bounds c.args.margin c.requires.sides).top
    (sides_on_plane c.args.bounds c.args.margin c.requires.sides).bottom c.apart-2.ensures)
    (twice_small c.args.margin c.requires.margin)

pub overflow_mul-result : goal.overflow_mul-result
overflow_mul-result c =
    fits_bands c.apart-2.result (2 * c.args.margin)
    (apart_small c.args.bounds.top c.args.bounds.bottom c.apart-2.result (sides_on_plane c.args.bounds c.args.margin c.requires.sides).top
    (sides_on_plane c.args.bounds c.args.margin c.requires.sides).bottom c.apart-2.ensures)
    (twice_small c.args.margin c.requires.margin)

pub overflow_add-result-2 : goal.overflow_add-result-2
overflow_add-result-2 c =
    fits_new_rows c.apart-2.result (2 * c.args.margin)
    (apart_small c.args.bounds.top c.args.bounds.bottom c.apart-2.result (sides_on_plane c.args.bounds c.args.margin c.requires.sides).top
    (sides_on_plane c.args.bounds c.args.margin c.requires.sides).bottom c.apart-2.ensures)
    (twice_small c.args.margin c.requires.margin)

pub overflow_cast-result-2 : goal.overflow_cast-result-2
overflow_cast-result-2 c =
    fits_wide_rows c.apart-2.result (2 * c.args.margin)
    (apart_small c.args.bounds.top c.args.bounds.bottom c.apart-2.result (sides_on_plane c.args.bounds c.args.margin c.requires.sides).top
    (sides_on_plane c.args.bounds c.args.margin c.requires.sides).bottom c.apart-2.ensures)
    (twice_small c.args.margin c.requires.margin)

pub back-requires-clause-cells : goal.back-requires-clause-cells
back-requires-clause-cells c = margin_small c.args.margin c.requires.margin

pub back-requires-2-clause-cells : goal.back-requires-2-clause-cells
back-requires-2-clause-cells c = margin_small c.args.margin c.requires.margin
