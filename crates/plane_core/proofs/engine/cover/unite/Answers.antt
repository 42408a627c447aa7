use Rattle.std.proofs.Common.{◌≡◌, ◌-ℤ◌, ◌+ℤ◌, of_z, get_or, pos, to_z, w32, inl, inr, subst, sym, List, ◌++◌, ◌∷◌, []}
use Rattle.std.proofs.lemmas.List.Elements.{All-push, All-same}
use Rattle.std.proofs.lemmas.Result.{IfOk-from_err}
use Rattle.plane_core.specs.declared.plane.bounds.Bounds.{Bounds}
use Rattle.plane_core.specs.plane.Bounds.{IsWithin, enlarged}
use Rattle.plane_core.specs.engine.ActiveBoxes.{IsNearOne, box_bound, rectangle_bound}
use Rattle.plane_core.specs.plane.Bounds.{AreSidesWithin}
use Rattle.plane_core.proofs.lemmas.engine.ActiveBoxLemmas.{any_pushed, any_take_more, swapped, take_whole}
use Rattle.plane_core.proofs.lemmas.engine.CoverLemmas.{fits_further, fits_less, further_is, less_is, margin_sides}
use Rattle.plane_core.proofs.engine.cover.unite.Goals as goal

abbrev origin : Bounds
origin = record { left = pos 0; top = pos 0; right = pos 0; bottom = pos 0 }

is_margin : (b : Bounds) → AreSidesWithin box_bound b → record {
  left = to_z w32 (of_z w32 (to_z w32 (of_z w32 b.left) -ℤ pos 4));
  top = to_z w32 (of_z w32 (to_z w32 (of_z w32 b.top) -ℤ pos 4));
  right = to_z w32 (of_z w32 (to_z w32 (of_z w32 b.right) +ℤ pos 4));
  bottom = to_z w32 (of_z w32 (to_z w32 (of_z w32 b.bottom) +ℤ pos 4));
} ≡ enlarged 4 b
is_margin b sides = λ i. record {
  left = less_is b.left sides.left i;
  top = less_is b.top sides.top i;
  right = further_is b.right sides.right i;
  bottom = further_is b.bottom sides.bottom i;
}

pub loop-bounds-preserved : goal.loop-bounds-preserved
loop-bounds-preserved c = record {
  near = λ d some.
      any_pushed (λ (b : Bounds). IsWithin b d) c.absorbed-rectangle.new.rectangles.items c.push.new.self.items c.absorbed-rectangle.result
      c.in_ok-push.ensures.items (
      elim (any_take_more (λ (b : Bounds). IsWithin (enlarged 4 b) d) c.args.boxes.now c.loop-bounds.bounds-index _ c.loop-bounds-test.true some) [
        | inl before ↦ swapped (c.absorbed-rectangle.ensures.held d (inr (c.loop-bounds.invariant.near d before)))
        | inr here ↦ swapped (c.absorbed-rectangle.ensures.held d
            (inl (subst (λ (b : Bounds). IsWithin b d) (sym (is_margin (get_or c.args.boxes.now c.loop-bounds.bounds-index origin) (c.requires c.loop-bounds.bounds-index origin c.loop-bounds-test.true))) here)))
      ]
      );
  sides = All-same (AreSidesWithin rectangle_bound) c.push.new.self.items
      (c.absorbed-rectangle.new.rectangles.items ++ c.absorbed-rectangle.result ∷ []) c.in_ok-push.ensures.items
      (All-push (AreSidesWithin rectangle_bound) c.absorbed-rectangle.new.rectangles.items c.absorbed-rectangle.result
      c.absorbed-rectangle.ensures.all_sides c.absorbed-rectangle.ensures.sides);
}

pub returns-clause-near : goal.returns-clause-near
returns-clause-near c = λ d some.
    c.loop-bounds.invariant.near d
    (subst (λ (bs : List Bounds). IsNearOne 4 bs d)
    (sym (take_whole c.args.boxes.now c.loop-bounds.bounds-index c.loop-bounds.auto.bounds-index-end c.loop-bounds-test.false)) some)

pub overflow_sub-with_margin : goal.overflow_sub-with_margin
overflow_sub-with_margin c = fits_less (get_or c.args.boxes.now c.loop-bounds.bounds-index origin).left (c.requires c.loop-bounds.bounds-index origin c.loop-bounds-test.true).left

pub overflow_sub-with_margin-in-loop-bounds : goal.overflow_sub-with_margin-in-loop-bounds
overflow_sub-with_margin-in-loop-bounds c = fits_less (get_or c.args.boxes.now c.loop-bounds.bounds-index origin).top (c.requires c.loop-bounds.bounds-index origin c.loop-bounds-test.true).top

pub overflow_add-with_margin : goal.overflow_add-with_margin
overflow_add-with_margin c = fits_further (get_or c.args.boxes.now c.loop-bounds.bounds-index origin).right (c.requires c.loop-bounds.bounds-index origin c.loop-bounds-test.true).right

pub overflow_add-with_margin-in-loop-bounds : goal.overflow_add-with_margin-in-loop-bounds
overflow_add-with_margin-in-loop-bounds c = fits_further (get_or c.args.boxes.now c.loop-bounds.bounds-index origin).bottom (c.requires c.loop-bounds.bounds-index origin c.loop-bounds-test.true).bottom

pub absorbed-rectangle-requires-clause-all_sides : goal.absorbed-rectangle-requires-clause-all_sides
absorbed-rectangle-requires-clause-all_sides c = c.loop-bounds.invariant.sides

pub absorbed-rectangle-requires-clause-sides : goal.absorbed-rectangle-requires-clause-sides
absorbed-rectangle-requires-clause-sides c =
    subst (λ (b : Bounds). AreSidesWithin rectangle_bound b) (sym (is_margin (get_or c.args.boxes.now c.loop-bounds.bounds-index origin) (c.requires c.loop-bounds.bounds-index origin c.loop-bounds-test.true)))
    (margin_sides (get_or c.args.boxes.now c.loop-bounds.bounds-index origin) (c.requires c.loop-bounds.bounds-index origin c.loop-bounds-test.true))

pub returns-in_err-push-clause-near : goal.returns-in_err-push-clause-near
returns-in_err-push-clause-near c = IfOk-from_err _ _ c.from_residual.ensures.0

pub returns-in_err-push-clause-sides : goal.returns-in_err-push-clause-sides
returns-in_err-push-clause-sides c = IfOk-from_err _ _ c.from_residual.ensures.0

pub returns-clause-sides : goal.returns-clause-sides
returns-clause-sides c = c.loop-bounds.invariant.sides
