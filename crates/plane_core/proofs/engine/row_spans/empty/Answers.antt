use Rattle.std.proofs.Common.{◌≡◌, ◌≢◌, ◌∙◌, [], arith, get_or-set_other, inl, refl, subst, sym}
use Rattle.std.proofs.lemmas.Bool.{false≢true}
use Rattle.plane_core.specs.declared.engine.row_spans.RowSpan.{RowSpan}
use Rattle.plane_core.specs.engine.RowSpans.{HasRow}
use Rattle.plane_core.proofs.lemmas.engine.OnBoardLemmas.{only_cells}
use Rattle.plane_core.proofs.lemmas.plane.SetLemmas.{in_order-nil}
use Rattle.plane_core.proofs.lemmas.engine.RowSpanLemmas.{word_column_emptied, shown_dead, zeroed_more}
use Rattle.plane_core.proofs.engine.row_spans.empty.Goals as goal

pub loop-word_column-init : goal.loop-word_column-init
loop-word_column-init c = record {
  kept = λ s low. refl;
  dead = λ s r i low. absurd (omega (arith, low));
  others = λ m. inl refl;
}

pub empty_word_column-requires-clause-frame : goal.empty_word_column-requires-clause-frame
empty_word_column-requires-clause-frame c = c.requires.frame

pub empty_word_column-requires-clause-word_column : goal.empty_word_column-requires-clause-word_column
empty_word_column-requires-clause-word_column c = c.loop-word_column-test.true

pub empty_word_column-requires-clause-long : goal.empty_word_column-requires-clause-long
empty_word_column-requires-clause-long c = c.loop-word_column.auto.words ∙ c.requires.long

pub loop-word_column-preserved : goal.loop-word_column-preserved
loop-word_column-preserved c =
    let before = c.loop-word_column.invariant in
    let word_column = c.loop-word_column.word_column in
    let near = c.loop-word_column-test.true in
    record {
      kept = λ s low.
          let apart : s ≢ word_column = λ (e : s ≡ word_column). omega (arith, low, e) in
          get_or-set_other c.loop-word_column.spans word_column s c.empty.result (record { from = 0; end = 0 }) apart ∙ before.kept s (omega (arith, low));
      dead = word_column_emptied c.args.at c.args.words.now c.loop-word_column.words c.empty_word_column.new.words c.args.spans.now word_column near c.requires.live before.others
          before.dead c.empty_word_column.ensures.others
          (λ r hr inside. c.empty_word_column.ensures.dead r hr (subst (λ (span : RowSpan). HasRow span r) (sym (before.kept word_column (omega arith))) inside));
      others = zeroed_more c.args.words.now c.loop-word_column.words c.empty_word_column.new.words before.others c.empty_word_column.ensures.others;
    }

pub returns : goal.returns
returns c =
    only_cells c.args.at c.loop-word_column.words [] in_order-nil (λ d e. absurd (false≢true e))
    (shown_dead c.args.at c.loop-word_column.words (λ s r i low. c.loop-word_column.invariant.dead s r i (omega (arith, low))))
