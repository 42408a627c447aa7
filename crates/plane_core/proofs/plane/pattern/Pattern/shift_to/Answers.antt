use Rattle.std.proofs.Common.{◌≡◌, ◌∙◌, ◌≤◌, ℕ, Option, None, Some, ℤ, ap, false, refl, subst, sym, true}
use Rattle.std.proofs.lemmas.Bool.{false≢true}
use Rattle.std.proofs.lemmas.List.{take_all}
use Rattle.plane_core.specs.plane.Bounds.{FindsShift, shifted}
use Rattle.plane_core.proofs.lemmas.plane.TransformLemmas.{stepped_more, stepped_not, finds_shift}
use Rattle.plane_core.proofs.plane.pattern.Pattern.shift_to.Goals.{After-step_between-step}
use Rattle.plane_core.proofs.plane.pattern.Pattern.shift_to.Goals as goal

-- an answer, a shift or `None`, that is right for the two lists of cells is right for the two patterns
tells : (c : After-step_between-step) (told : Option (ℤ × ℤ)) → FindsShift c.cells-cells.result.now c.cells-others.result.now told
    → FindsShift c.args.self.now c.args.other.now told
tells c told = λ t. rw (c.cells-cells.ensures.cells, c.cells-others.ensures.cells) at t

pub loop-i-preserved : goal.loop-i-preserved
loop-i-preserved c =
    stepped_more c.step_between-step.result.0 c.step_between-step.result.1 c.cells-cells.result.now c.cells-others.result.now c.loop-i.i _
    c.step_between.result c.loop-i-test.true c.if-cells-others.false c.loop-i.invariant c.step_between.ensures (sym c.if-ne.ensures)

pub returns-then-ne : goal.returns-then-ne
returns-then-ne c =
    let cells = c.cells-cells.result.now in
    let others = c.cells-others.result.now in
    let step = c.step_between-step.result in
    tells (goal.at.returns-then-ne c).After-step_between-step None (finds_shift cells others _ step false c.in-len1-up.len_at_least c.if-cells-others.false
    c.step_between-step.ensures (
      λ no. absurd (false≢true no),
      λ same. absurd (stepped_not step.0 step.1 cells others c.loop-i.i _ c.step_between.result c.loop-i-test.true same c.step_between.ensures
          (sym c.if-ne.ensures)),
    ))

pub returns : goal.returns
returns c =
    let cells = c.cells-cells.result.now in
    let others = c.cells-others.result.now in
    let step = c.step_between-step.result in
    let end = take_all c.loop-i.i cells c.loop-i-test.false in
    let other_end = take_all c.loop-i.i others (subst (λ (n : ℕ). n ≤ c.loop-i.i) c.if-cells-others.false c.loop-i-test.false) in
    let all : shifted step.0 step.1 cells ≡ others = sym (ap (shifted step.0 step.1) end) ∙ c.loop-i.invariant ∙ other_end in
    tells (goal.at.returns c).After-step_between-step (Some step) (finds_shift cells others _ step true c.in-len1-up.len_at_least c.if-cells-others.false
    c.step_between-step.ensures (λ yes. all, λ same. refl))
