use Rattle.std.proofs.Common.{◌<◌, ◌/◌, ◌∙◌, ℕ, List, subst, sym}
use Rattle.std.proofs.lemmas.Bool.{false≢true}
use Rattle.std.proofs.lemmas.List.{take_all}
use Rattle.plane_core.specs.declared.plane.cell.Cell.{Cell}
use Rattle.plane_core.specs.engine.Frames.{Shows}
use Rattle.plane_core.specs.engine.RowSpans.{LieInSpans}
use Rattle.plane_core.proofs.lemmas.engine.FillLemmas.{has-at, put_shown, shown_taken}
use Rattle.plane_core.proofs.lemmas.engine.FrameFits.{fits_row_below}
use borrow.Author.Count.{falls}
use Rattle.plane_core.proofs.lemmas.engine.FrameLemmas.{spot_inside}
use Rattle.plane_core.proofs.lemmas.engine.WindowIoLemmas.{column_low}
use Rattle.plane_core.proofs.lemmas.engine.RowSpanLemmas.{cell_held, held_more}
use Rattle.plane_core.proofs.engine.loading.fill.Goals as goal

pub across-across-requires-clause-frame : goal.across-across-requires-clause-frame
across-across-requires-clause-frame c = c.requires.frame

pub across-across-requires-clause-within : goal.across-across-requires-clause-within
across-across-requires-clause-within c = c.requires.on _ (has-at _ _ _ c.loop-cell-test.true)

pub down-row-requires-clause-frame : goal.down-row-requires-clause-frame
down-row-requires-clause-frame c = c.requires.frame

pub down-row-requires-clause-within : goal.down-row-requires-clause-within
down-row-requires-clause-within c = c.requires.on _ (has-at _ _ _ c.loop-cell-test.true)

pub index-requires-clause-frame : goal.index-requires-clause-frame
index-requires-clause-frame c = c.requires.frame

pub index-requires-clause-word_column : goal.index-requires-clause-word_column
index-requires-clause-word_column c = (spot_inside c.args.at _ _ _ (c.requires.on _ (has-at _ _ _ c.loop-cell-test.true)) c.across-across.ensures c.down-row.ensures).0

pub index-requires-clause-row : goal.index-requires-clause-row
index-requires-clause-row c = (spot_inside c.args.at _ _ _ (c.requires.on _ (has-at _ _ _ c.loop-cell-test.true)) c.across-across.ensures c.down-row.ensures).1

pub bounds-words-index : goal.bounds-words-index
bounds-words-index c = subst (λ n. c.index.result < n) (sym (c.loop-cell.auto.words ∙ c.requires.long)) c.index.ensures.inside

pub overflow_shl-words : goal.overflow_shl-words
overflow_shl-words c = column_low c.across-across.result

pub overflow_add-rows : goal.overflow_add-rows
overflow_add-rows c = fits_row_below c.args.at c.down-row.result c.requires.frame
    (spot_inside c.args.at _ _ _ (c.requires.on _ (has-at _ _ _ c.loop-cell-test.true)) c.across-across.ensures c.down-row.ensures).1

pub widen-requires : goal.widen-requires
widen-requires c =
    subst (λ (n : ℕ). c.across-across.result / 64 < n) (sym (c.loop-cell.auto.spans ∙ c.requires.word_columns))
    (spot_inside c.args.at _ _ _ (c.requires.on _ (has-at _ _ _ c.loop-cell-test.true)) c.across-across.ensures c.down-row.ensures).0

pub loop-cell-init : goal.loop-cell-init
loop-cell-init c = record { shown = c.requires.empty; held = λ s r i hs hr hi e. absurd (false≢true e) }

pub loop-cell-preserved : goal.loop-cell-preserved
loop-cell-preserved c =
    let before = c.loop-cell.invariant in
    record {
      shown = shown_taken _ _ _ _ _ c.loop-cell-test.true
          (put_shown c.args.at c.loop-cell.words _ _ _ _ _ (c.loop-cell.auto.words ∙ c.requires.long)
          (c.requires.on _ (has-at _ _ _ c.loop-cell-test.true)) c.across-across.ensures c.down-row.ensures c.index.ensures.index before.shown);
      held = held_more c.args.at c.loop-cell.spans c.widen.new.spans c.args.cells.now c.loop-cell.cell-index _ c.loop-cell-test.true
          c.widen.ensures.kept before.held
          (cell_held c.args.at c.widen.new.spans _ c.across-across.result c.down-row.result c.across-across.ensures c.down-row.ensures c.widen.ensures.held);
    }

pub returns-clause-shown : goal.returns-clause-shown
returns-clause-shown c =
    subst (Shows c.args.at c.loop-cell.words) (take_all c.loop-cell.cell-index c.args.cells.now c.loop-cell-test.false) c.loop-cell.invariant.shown

pub returns-clause-held : goal.returns-clause-held
returns-clause-held c =
    subst (λ (S : List Cell). LieInSpans c.args.at c.loop-cell.spans S)
    (take_all c.loop-cell.cell-index c.args.cells.now c.loop-cell-test.false) c.loop-cell.invariant.held

pub loop-cell-smaller : goal.loop-cell-smaller
loop-cell-smaller c = falls _ _ c.loop-cell-test.true
