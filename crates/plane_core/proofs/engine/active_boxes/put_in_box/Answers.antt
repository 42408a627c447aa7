use Rattle.std.proofs.Common.{List, ◌∙◌, ◌-◌, arith, inr, set, sym, subst}
use Rattle.std.specs.List.{All}
use Rattle.std.proofs.lemmas.List.Elements.{All-push, All-set}
use Rattle.std.proofs.lemmas.List.Quantifiers.{any-set}
use Rattle.std.proofs.lemmas.Result.{IfOk-from_err}
use Rattle.plane_core.specs.declared.plane.bounds.Bounds.{Bounds}
use Rattle.plane_core.specs.plane.Bounds.{AreSidesWithin, IsWithin}
use Rattle.plane_core.specs.engine.ActiveBoxes.{AreWider}
use Rattle.plane_core.proofs.lemmas.engine.ActiveBoxLemmas.{any_pushed, joined_wider, pushed_wider}
use Rattle.plane_core.proofs.engine.active_boxes.put_in_box.Goals as goal

pub returns-in_err-push-clause-wider : goal.returns-in_err-push-clause-wider
returns-in_err-push-clause-wider c =
    subst (λ (boxes : List Bounds). AreWider c.args.boxes.now.items boxes) (sym (c.in_err-push.ensures.items ∙ c.loop-i.invariant.same)) (λ n d some. some)

pub returns-in_err-push-clause-held : goal.returns-in_err-push-clause-held
returns-in_err-push-clause-held c = IfOk-from_err _ _ c.from_residual.ensures.0

pub returns-in_err-push-clause-sides : goal.returns-in_err-push-clause-sides
returns-in_err-push-clause-sides c n here all =
    subst (λ (boxes : List Bounds). All (AreSidesWithin n) boxes) (sym (c.in_err-push.ensures.items ∙ c.loop-i.invariant.same)) all

pub returns-clause-wider : goal.returns-clause-wider
returns-clause-wider c =
    subst (λ (boxes : List Bounds). AreWider boxes c.push.new.self.items) c.loop-i.invariant.same
    (pushed_wider c.loop-i.boxes.items c.push.new.self.items c.args.part c.in_ok-push.ensures.items)

pub returns-clause-held : goal.returns-clause-held
returns-clause-held c d h =
    any_pushed (λ (b : Bounds). IsWithin b d) c.loop-i.boxes.items c.push.new.self.items c.args.part c.in_ok-push.ensures.items (inr h)

pub returns-clause-sides : goal.returns-clause-sides
returns-clause-sides c n here all =
    subst (λ (boxes : List Bounds). All (AreSidesWithin n) boxes) (sym c.in_ok-push.ensures.items)
    (All-push (AreSidesWithin n) c.loop-i.boxes.items c.args.part
    (subst (λ (boxes : List Bounds). All (AreSidesWithin n) boxes) (sym c.loop-i.invariant.same) all) here)

pub returns-then-is_near-clause-wider : goal.returns-then-is_near-clause-wider
returns-then-is_near-clause-wider c =
    subst (λ (boxes : List Bounds). AreWider boxes (set c.loop-i.boxes.items (c.loop-i.i - 1) c.joined-wide.result)) c.loop-i.invariant.same
    (joined_wider c.loop-i.boxes.items _ c.index-then-is_near.result.now c.args.part c.joined-wide.result (omega (arith, c.loop-i.boxes.ok.0))
    c.index-then-is_near.ensures c.joined-wide.ensures.least)

pub returns-then-is_near-clause-held : goal.returns-then-is_near-clause-held
returns-then-is_near-clause-held c d h =
    any-set (λ (b : Bounds). IsWithin b d) c.loop-i.boxes.items _ c.joined-wide.result (omega (arith, c.loop-i.boxes.ok.0)) (c.joined-wide.ensures.other d h)

pub returns-then-is_near-clause-sides : goal.returns-then-is_near-clause-sides
returns-then-is_near-clause-sides c n here all =
    let kept = subst (λ (boxes : List Bounds). All (AreSidesWithin n) boxes) (sym c.loop-i.invariant.same) all in
    All-set (AreSidesWithin n) c.loop-i.boxes.items _ c.joined-wide.result
    (c.joined-wide.ensures.sides n
    (subst (λ (b : Bounds). AreSidesWithin n b) (sym c.index-then-is_near.ensures)
    (kept _ c.index-then-is_near.result.now (omega (arith, c.loop-i.boxes.ok.0)))) here) kept
