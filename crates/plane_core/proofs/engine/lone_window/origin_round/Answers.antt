use Rattle.std.proofs.Common.{◌≤◌, ℕ, FitsSigned, arith, rules, w32}
use Rattle.std.proofs.lemmas.Int.{to_z-of_z}
use Rattle.plane_core.specs.declared.plane.bounds.Bounds.{Bounds}
use Rattle.plane_core.specs.plane.Bounds.{AreSidesWithin}
use Rattle.plane_core.proofs.lemmas.plane.BoxRoundLemmas.{fewer_sides}
use Rattle.plane_core.proofs.lemmas.engine.WindowRoundLemmas.{IsPlacedRound, half_within, near_side, place_has_cells, place_is_inland}
use Rattle.plane_core.proofs.engine.lone_window.origin_round.Goals as goal

near : (b : Bounds) (far : ℕ) → AreSidesWithin far b → far ≤ 900000 → AreSidesWithin 900000 b
near b far sides low = fewer_sides far 900000 b low sides

is_round : (c : goal.After-back-2) → IsPlacedRound c.in-Some.bounds c.apart-width.result c.apart-height.result
    (record { left = c.back.result; top = c.back-2.result })
is_round c =
    let left : FitsSigned w32 c.in-Some.bounds.left = search rules in
    let top : FitsSigned w32 c.in-Some.bounds.top = search rules in
    let right : FitsSigned w32 c.in-Some.bounds.right = search rules in
    let bottom : FitsSigned w32 c.in-Some.bounds.bottom = search rules in
    record {
      left = simp to_z-of_z at c.back.ensures;
      top = simp to_z-of_z at c.back-2.ensures;
      across = simp to_z-of_z at c.apart-width.ensures;
      down = simp to_z-of_z at c.apart-height.ensures;
      wide = c.if-width-gt61.false;
      high = c.if-height-gt61.false;
    }

above_too : (n : ℕ) → n ≤ 61 → n ≤ 63
above_too n low = omega arith

pub returns-clause-inland : goal.returns-clause-inland
returns-clause-inland c =
    let left : FitsSigned w32 c.back.result = search rules in
    let top : FitsSigned w32 c.back-2.result = search rules in
    simp to_z-of_z (place_is_inland c.in-Some.bounds _ _ _ (near c.in-Some.bounds _ c.farthest.ensures c.if-farthest-gt-INLAND.false) (is_round c))

pub returns-clause-inside : goal.returns-clause-inside
returns-clause-inside c =
    let left : FitsSigned w32 c.back.result = search rules in
    let top : FitsSigned w32 c.back-2.result = search rules in
    simp to_z-of_z (place_has_cells c.in-Some.bounds _ _ _ c.args.pattern.now (is_round c) c.in-Some.ensures.least)

pub apart-width-requires-clause-a : goal.apart-width-requires-clause-a
apart-width-requires-clause-a c = near_side c.in-Some.bounds.left (near c.in-Some.bounds _ c.farthest.ensures c.if-farthest-gt-INLAND.false).left

pub apart-width-requires-clause-b : goal.apart-width-requires-clause-b
apart-width-requires-clause-b c = near_side c.in-Some.bounds.right (near c.in-Some.bounds _ c.farthest.ensures c.if-farthest-gt-INLAND.false).right

pub apart-height-requires-clause-a : goal.apart-height-requires-clause-a
apart-height-requires-clause-a c = near_side c.in-Some.bounds.top (near c.in-Some.bounds _ c.farthest.ensures c.if-farthest-gt-INLAND.false).top

pub apart-height-requires-clause-b : goal.apart-height-requires-clause-b
apart-height-requires-clause-b c = near_side c.in-Some.bounds.bottom (near c.in-Some.bounds _ c.farthest.ensures c.if-farthest-gt-INLAND.false).bottom

pub overflow_sub-width : goal.overflow_sub-width
overflow_sub-width c = above_too _ c.if-width-gt61.false

pub back-requires-clause-from : goal.back-requires-clause-from
back-requires-clause-from c = near_side c.in-Some.bounds.left (near c.in-Some.bounds _ c.farthest.ensures c.if-farthest-gt-INLAND.false).left

pub back-requires-clause-cells : goal.back-requires-clause-cells
back-requires-clause-cells c = half_within _

pub overflow_sub-height : goal.overflow_sub-height
overflow_sub-height c = above_too _ c.if-height-gt61.false

pub back-requires-2-clause-from : goal.back-requires-2-clause-from
back-requires-2-clause-from c = near_side c.in-Some.bounds.top (near c.in-Some.bounds _ c.farthest.ensures c.if-farthest-gt-INLAND.false).top

pub back-requires-2-clause-cells : goal.back-requires-2-clause-cells
back-requires-2-clause-cells c = half_within _
