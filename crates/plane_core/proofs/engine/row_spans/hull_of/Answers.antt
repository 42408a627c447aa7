use Rattle.std.proofs.Common.{arith}
use Rattle.plane_core.specs.declared.engine.row_spans.Hull.{Hull}
use Rattle.plane_core.proofs.lemmas.engine.RowSpanLemmas.{hull_more}
use Rattle.plane_core.proofs.engine.row_spans.hull_of.Goals as goal
use Rattle.plane_core.proofs.engine.row_spans.hull_of.Goals.{then-rows, else-rows}

pub loop-word_column-init : goal.loop-word_column-init
loop-word_column-init c = λ s r low. absurd (omega (arith, low))

pub loop-word_column-preserved : goal.loop-word_column-preserved
loop-word_column-preserved c =
    let spans = c.args.spans.now in
    let word_column = c.loop-word_column.word_column in
    let old = c.loop-word_column.hull in
    elim c.if-rows.branch [
      | then-rows w ↦
          let new : Hull = record { word_columns = w.joined-hull.result; rows = w.joined-hull-then-rows.result } in
          rw w.hull-is (
          hull_more spans word_column old new c.loop-word_column.invariant
          (λ s r inside. record { word_column = w.joined-hull.ensures.first s inside.word_column; row = w.joined-hull-then-rows.ensures.first r inside.row })
          (λ r inside. record {
            word_column = w.joined-hull.ensures.second word_column (record { low = omega arith; high = omega arith });
            row = w.joined-hull-then-rows.ensures.second r inside;
          })
          )
      | else-rows w ↦ rw w.hull-is (
          hull_more spans word_column old old c.loop-word_column.invariant (λ s r inside. inside)
          (λ r inside. absurd (omega (arith, inside.low, inside.high, w.if-rows.false)))
          )
    ]

pub returns : goal.returns
returns c = λ s r low. c.loop-word_column.invariant s r (omega (arith, low))
