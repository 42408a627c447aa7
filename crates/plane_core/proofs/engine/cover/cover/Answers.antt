use Rattle.std.proofs.Common.{inl, inr, subst, sym, List}
use Rattle.std.proofs.lemmas.Result.{IfOk-from_err}
use Rattle.plane_core.specs.declared.plane.bounds.Bounds.{Bounds}
use Rattle.plane_core.specs.plane.Bounds.{IsWithin}
use Rattle.plane_core.specs.engine.ActiveBoxes.{IsInOne}
use Rattle.plane_core.proofs.lemmas.engine.ActiveBoxLemmas.{any_take_more, take_whole}
use Rattle.plane_core.proofs.engine.cover.cover.Goals as goal

pub unite-requires : goal.unite-requires
unite-requires c = c.requires

pub returns-in_err-unite : goal.returns-in_err-unite
returns-in_err-unite c = IfOk-from_err _ _ c.from_residual.ensures.0

pub returns-in_err-lay : goal.returns-in_err-lay
returns-in_err-lay c = IfOk-from_err _ _ c.from_residual-in_err-lay.ensures.0

pub loop-rectangle-preserved : goal.loop-rectangle-preserved
loop-rectangle-preserved c = λ d some.
    let i = c.loop-rectangle.rectangle-index in
    elim (any_take_more (λ (b : Bounds). IsWithin b d) c.as_slice-rectangle-items.result.now i _ c.loop-rectangle-test.true some) [
      | inl before ↦ c.in_ok-lay.ensures.kept d (c.loop-rectangle.invariant d before)
      | inr here ↦ c.in_ok-lay.ensures.laid d here
    ]

pub returns : goal.returns
returns c = λ d near.
    let all = take_whole c.as_slice-rectangle-items.result.now c.loop-rectangle.rectangle-index c.loop-rectangle.auto.rectangle-index-end
    c.loop-rectangle-test.false in
    c.loop-rectangle.invariant d
    (subst (λ (bs : List Bounds). IsInOne bs d) (sym all)
    (subst (λ (bs : List Bounds). IsInOne bs d) (sym c.as_slice-rectangle-items.ensures.value) (c.in_ok-unite.ensures.near d near)))
