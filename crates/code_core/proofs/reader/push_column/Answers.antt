use Rattle.std.proofs.Common.{◌∙◌, ◌++◌, ◌∷◌, [], List, ap, append_assoc, arith, sym}
use Rattle.std.proofs.lemmas.List.{append-nil}
use Rattle.plane_core.specs.declared.plane.cell.Cell.{Cell}
use Rattle.code_core.proofs.ReaderCells.{lit_above, lit_above-all, lit_above-dark, lit_above-lit, lit_above-none}
use Rattle.code_core.proofs.reader.push_column.Goals as goal
use Rattle.code_core.proofs.reader.push_column.Goals.{then-is_lit+in_ok-push, else-is_lit}

pub loop-i-init : goal.loop-i-init
loop-i-init c =
    let old = c.args.cells.now.items in
    sym (ap (λ (more : List Cell). old ++ more) (lit_above-none c.args.head.strip c.args.head.x c.args.value)
    ∙ append-nil old)

pub loop-i-preserved : goal.loop-i-preserved
loop-i-preserved c =
    let old = c.args.cells.now.items in
    let k = c.args.head.strip in
    let x = c.args.head.x in
    let above = lit_above c.loop-i.i k x c.args.value in
    elim c.if-is_lit.branch [
      | then-is_lit+in_ok-push w ↦ ap (λ v. v.items) w.cells-is ∙ w.in_ok-push.ensures.items
          ∙ (λ i. c.loop-i.invariant i ++ w.cell_of.ensures i ∷ []) ∙ append_assoc old above _
          ∙ ap (λ (more : List Cell). old ++ more)
          (sym (lit_above-lit c.loop-i.i k x c.args.value (sym c.is_lit.ensures ∙ w.if-is_lit.true)))
      | else-is_lit w ↦ ap (λ v. v.items) w.cells-is ∙ c.loop-i.invariant
          ∙ ap (λ (more : List Cell). old ++ more)
          (sym (lit_above-dark c.loop-i.i k x c.args.value (sym c.is_lit.ensures ∙ w.if-is_lit.false)))
    ]

pub returns : goal.returns
returns c =
    c.loop-i.invariant
    ∙ ap (λ (more : List Cell). c.args.cells.now.items ++ more)
    (lit_above-all c.loop-i.i c.args.head.strip c.args.head.x c.args.value (omega arith))
