use Rattle.std.proofs.Common.{◌≡◌, ◌==◌, ◌+◌, ◌<◌, ◌++◌, ◌∷◌, ◌∙◌, [], ℕ, List, ap, arith, if◌then◌else◌, string_bytes}
use Rattle.plane_core.specs.plane.Bounds.{at_corner}
use Rattle.plane_core.specs.plane.Cells.{distance}
use Rattle.code_core.specs.Texts.{strip, strip_tokens}
use Rattle.code_core.proofs.JoinedStrips.{parted_first, parted_other}
use Rattle.code_core.proofs.StripLemmas.{spelled, strip_more-live, strip_more-empty, strip_done}
use Rattle.code_core.proofs.wechsler.push_strip.Goals.{then-k-gt0+in_ok-push, else-k-gt0, then-value-eq0, else-value-eq0+in_ok-push_column}
use Rattle.code_core.proofs.wechsler.push_strip.Goals as goal

pub loop-x-preserved : goal.loop-x-preserved
loop-x-preserved c =
    let width = distance c.args.bounds.left c.args.bounds.right + 1 in
    let low : c.loop-x.x < width = omega (arith, c.last_column-x-end.ensures) in
    elim c.if-value-eq0.branch [
      | then-value-eq0 w ↦
          rw (w.text-is, w.gap-is) (
            omega arith,
            λ cells boxed. strip_more-empty (at_corner cells) width c.args.k c.loop-x.gap c.loop-x.x c.column-value.result _ _ low w.if-value-eq0.true
                (c.column-value.ensures.value cells boxed) (c.loop-x.invariant.1 cells boxed),
          )
      | else-value-eq0+in_ok-push_column w ↦ rw (w.text-is, w.gap-is) (
        omega arith,
        λ cells boxed. strip_more-live (at_corner cells) width c.args.k c.loop-x.gap c.loop-x.x c.column-value.result _ _ _ low (omega arith)
            (c.column-value.ensures.value cells boxed) (c.loop-x.invariant.1 cells boxed) w.in_ok-push_column.ensures,
      )
    ]

pub returns : goal.returns
returns c = λ cells boxed.
    let width = distance c.args.bounds.left c.args.bounds.right + 1 in
    let old = string_bytes c.args.text.now in
    let begun : string_bytes c.if-k-gt0.text ≡ old ++ (if c.args.k == 0 then [] else 122 ∷ []) = elim c.if-k-gt0.branch [
      | then-k-gt0+in_ok-push w ↦ parted_other c.args.k old _ w.if-k-gt0.true
          (ap string_bytes w.text-is ∙ w.in_ok-push.ensures.bytes ∙ ap (λ (bytes : List ℕ). old ++ bytes) (w.in_ok-push.ensures.ascii (omega arith)))
      | else-k-gt0 w ↦ parted_first c.args.k old _ w.if-k-gt0.false (ap string_bytes w.text-is)
    ] in
    strip_done (at_corner cells) width c.args.k c.loop-x.gap c.loop-x.x _ _ (omega (arith, c.last_column-x-end.ensures)) (c.loop-x.invariant.1 cells boxed)
    ∙ ap (λ (bytes : List ℕ). bytes ++ spelled (strip_tokens (strip (at_corner cells) width c.args.k))) begun
