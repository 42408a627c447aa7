use Rattle.std.proofs.Common.{arith, rules, sym, subst}
use Rattle.plane_core.specs.declared.plane.bounds.Bounds.{Bounds}
use Rattle.plane_core.specs.engine.ActiveBoxes.{rectangle_bound}
use Rattle.plane_core.specs.plane.Bounds.{AreSidesWithin}
use Rattle.plane_core.proofs.lemmas.engine.CoverLemmas.{joined_held}
use Rattle.plane_core.proofs.engine.cover.absorbed.Goals as goal

pub loop-i-preserved : goal.loop-i-preserved
loop-i-preserved c = record {
  held = λ d h.
      joined_held c.loop-i.rectangles.items c.swap_remove-other.new.self.items _ c.swap_remove-other.result c.loop-i.all c.joined-all.result
      (omega (arith, c.loop-i.rectangles.ok.0)) c.swap_remove-other.ensures.value c.swap_remove-other.ensures.items c.joined-all.ensures.one
      c.joined-all.ensures.other d (c.loop-i.invariant.held d h);
  all_sides = search rules;
  sides = c.joined-all.ensures.sides rectangle_bound
      (subst (λ (b : Bounds). AreSidesWithin rectangle_bound b) (sym c.swap_remove-other.ensures.value)
      (c.loop-i.invariant.all_sides _ c.swap_remove-other.result (omega (arith, c.loop-i.rectangles.ok.0)))) c.loop-i.invariant.sides;
  within = omega (arith, c.swap_remove-other.ensures.len);
}
