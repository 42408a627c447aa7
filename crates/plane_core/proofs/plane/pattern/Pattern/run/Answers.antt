use Rattle.std.proofs.Common.{◌≡◌, ◌∙◌, ◌-◌, ◌<◌, ℕ, sym, ap, List, false, true, arith, Err, Result}
use Rattle.std.proofs.lemmas.Bool.{false≢true}
use Rattle.std.proofs.lemmas.Result.{err_from_is_err_and}
use Rattle.plane_core.specs.declared.plane.cell.Cell.{Cell}
use Rattle.plane_core.specs.declared.generation.StepError.{StepError}
use Rattle.plane_core.specs.declared.generation.StepError.TheVariants.{Edge, Memory}
use Rattle.plane_core.specs.plane.Generations.{after, touches_edge}
use Rattle.plane_core.specs.plane.Parts.{HasRun}
use Rattle.plane_core.specs.plane.Refusals.{RefusesStep}
use Rattle.plane_core.proofs.lemmas.plane.GenerationLemmas.{after-none}
use Rattle.plane_core.proofs.lemmas.plane.PartLemmas.{IsStretch, stretch_of_run, stretch_of_step}
use Rattle.plane_core.proofs.lemmas.plane.RunLemmas.{after-plus, inside-more}
use Rattle.plane_core.proofs.lemmas.plane.SpeedLemmas.{run_inside}
use Rattle.plane_core.proofs.plane.pattern.Pattern.run.Goals as goal

some_left : (made generations : ℕ) → made < generations → 0 < generations - made
some_left made generations low = omega arith

pub loop-made-init : goal.loop-made-init
loop-made-init c = record {
  most = omega arith;
  later = c.in_ok-pattern.ensures ∙ sym (after-none c.args.rule.now c.args.self.now);
  inside = λ g low. absurd (omega arith);
}

-- an iteration that runs the pattern for 1 to 256 generations, each of its parts on a board of its own
pub loop-made-preserved-in-Some : goal.loop-made-preserved-in-Some
loop-made-preserved-in-Some c =
    let rule = c.args.rule.now in
    let start = c.args.self.now in
    let before = c.loop-made.invariant in
    let made = c.loop-made.made in
    let more = c.min-count.result in
    let ran : HasRun rule c.loop-made.pattern more c.in-Some.later = rw c.in-Some.is at c.in_ok-later.ensures in
    let stretch : IsStretch rule c.loop-made.pattern (c.args.generations - made) more c.in-Some.later =
    stretch_of_run rule c.loop-made.pattern (c.args.generations - made) more c.in-Some.later (some_left _ _ c.loop-made-test.true) c.min-count.ensures ran in
    record {
      most = let low = stretch.within in let most = before.most in omega arith;
      later = stretch.after ∙ ap (λ (S : List Cell). after rule S more) before.later ∙ after-plus rule start made more;
      inside = inside-more rule start made more before.inside
          (λ g low. ap (λ (S : List Cell). touches_edge (after rule S g)) (sym before.later) ∙ stretch.inside g low);
    }

-- an iteration that advances by one generation
pub loop-made-preserved : goal.loop-made-preserved
loop-made-preserved c =
    let rule = c.args.rule.now in
    let start = c.args.self.now in
    let before = c.loop-made.invariant in
    let made = c.loop-made.made in
    let latest = c.loop-made.pattern in
    let next = c.in_ok-pattern-in-None in
    let stretch : IsStretch rule latest (c.args.generations - made) 1 next.pattern =
    stretch_of_step rule latest (c.args.generations - made) next.pattern (some_left _ _ c.loop-made-test.true) next.ensures.next next.ensures.inside in
    record {
      most = let low = c.loop-made-test.true in omega arith;
      later = stretch.after ∙ ap (λ (S : List Cell). after rule S 1) before.later ∙ after-plus rule start made 1;
      inside = inside-more rule start made 1 before.inside
          (λ g low. ap (λ (S : List Cell). touches_edge (after rule S g)) (sym before.later) ∙ stretch.inside g low);
    }

same_error : (ran : Result (List Cell) StepError) (x y z : StepError) → ran ≡ Err x → x ≡ y → ran ≡ Err z → y ≡ z
same_error ran x y z p q r = cc

refused_at_edge : (cells : List Cell) (error : StepError) → RefusesStep cells error → error ≡ Edge → touches_edge cells ≡ true
refused_at_edge cells Edge refused e = refused
refused_at_edge cells (Memory error) refused e = cc

-- if the pattern begins far enough from the edge, the error of the step isn't `Edge`: before generation `generations`,
-- the pattern can't touch the edge
pub returns-in_err-pattern-in-None-clause-never_edge : goal.returns-in_err-pattern-in-None-clause-never_edge
returns-in_err-pattern-in-None-clause-never_edge c reach h far e =
    let told = err_from_is_err_and c.from_residual-in_err-pattern-in-None.result c.from_residual-in_err-pattern-in-None.ensures.1 in
    let refused = c.in_err-pattern-in-None in
    let edge : refused.field-0.0 ≡ Edge = same_error _ _ _ _ told.1 told.2 e in
    let on : touches_edge c.loop-made.pattern ≡ true = refused_at_edge c.loop-made.pattern refused.field-0.0 refused.ensures.refused edge in
    let off : touches_edge c.loop-made.pattern ≡ false =
    ap touches_edge c.loop-made.invariant.later
    ∙ run_inside c.args.rule.now c.args.self.now reach c.loop-made.made c.args.generations h far c.loop-made-test.true in
    false≢true (sym off ∙ on)

-- if the pattern begins far enough from the edge, the branch for a pattern that touches the edge isn't taken
pub returns-then-touches_edge-clause-never_edge : goal.returns-then-touches_edge-clause-never_edge
returns-then-touches_edge-clause-never_edge c = λ reach h far e.
    let on = sym c.touches_edge.ensures ∙ c.if-touches_edge.true in
    let off = run_inside c.args.rule.now c.args.self.now reach 0 c.args.generations h far c.if-generations-gt0.true in
    false≢true (sym off ∙ ap touches_edge (after-none c.args.rule.now c.args.self.now) ∙ on)

pub returns-then-touches_edge-clause-edge : goal.returns-then-touches_edge-clause-edge
returns-then-touches_edge-clause-edge c = λ e.
    let on = sym c.touches_edge.ensures ∙ c.if-touches_edge.true in
    (0, c.if-generations-gt0.true, ap touches_edge (after-none c.args.rule.now c.args.self.now) ∙ on)
