use Rattle.std.proofs.Common.{◌≡◌, ◌+◌, ◌/◌, ◌++◌, [], ◌∷◌, ◌==◌, List, ℕ, arith, ap, flat_map, sym, ◌∙◌, if◌then◌else◌}
use Rattle.std.proofs.lemmas.Result.{IfOk-from_err}
use Rattle.plane_core.specs.plane.Bounds.{at_corner}
use Rattle.plane_core.specs.plane.Cells.{distance}
use Rattle.code_core.proofs.JoinedStrips.{strips_are, strips_none, strips_step, strips_text}
use Rattle.code_core.specs.Texts.{strip, strip_tokens}
use Rattle.code_core.specs.Tokens.{spelling}
use Rattle.code_core.proofs.wechsler.text_in.Goals as goal

pub returns : goal.returns
returns c = λ cells boxed.
    let b = c.args.bounds in
    let right = distance b.left b.right in
    let bottom = distance b.top b.bottom in
    let all : c.loop-k.k ≡ bottom / 5 + 1 = omega arith in
    c.loop-k.invariant cells boxed ∙ ap (strips_text (at_corner cells) (right + 1)) all ∙ sym (strips_are (at_corner cells) right bottom)

pub push_strip-requires-clause-width : goal.push_strip-requires-clause-width
push_strip-requires-clause-width c = c.requires.width

pub push_strip-requires-clause-strip : goal.push_strip-requires-clause-strip
push_strip-requires-clause-strip c = omega (arith, c.last_row.ensures, c.requires.height)

pub loop-k-init : goal.loop-k-init
loop-k-init c = λ cells boxed.
    c.new-text.ensures.bytes ∙ sym (strips_none (at_corner cells) (distance c.args.bounds.left c.args.bounds.right + 1))

pub loop-k-preserved : goal.loop-k-preserved
loop-k-preserved c = λ cells boxed.
    let width = distance c.args.bounds.left c.args.bounds.right + 1 in
    let k = c.loop-k.k in
    c.in_ok-push_strip.ensures cells boxed
    ∙ ap (λ (bytes : List ℕ). (bytes ++ (if k == 0 then [] else 122 ∷ [])) ++ flat_map spelling (strip_tokens (strip (at_corner cells) width k)))
    (c.loop-k.invariant cells boxed)
    ∙ sym (strips_step (at_corner cells) width k)

pub returns-in_err-push_strip : goal.returns-in_err-push_strip
returns-in_err-push_strip c = IfOk-from_err _ _ c.from_residual.ensures.0
