use Rattle.std.proofs.Common.{◌<◌, ◌∙◌, List, pos, subst, sym, take}
use Rattle.std.proofs.lemmas.Bool.{false≢true}
use Rattle.std.proofs.lemmas.List.{take_all}
use Rattle.plane_core.specs.declared.plane.cell.Cell.{Cell}
use Rattle.plane_core.specs.engine.Frames.{Shows}
use Rattle.plane_core.specs.engine.OnBoard.{cells_on}
use Rattle.plane_core.specs.plane.Without.{without}
use Rattle.plane_core.specs.plane.Cells.{cell_at}
use borrow.Author.Count.{falls}
use Rattle.plane_core.proofs.lemmas.engine.FrameLemmas.{spot_inside}
use Rattle.plane_core.proofs.lemmas.engine.WindowIoLemmas.{column_low}
use Rattle.plane_core.proofs.lemmas.engine.RemovalLemmas.{fewer_taken, only_without, shown_all, shown_off, taken_off}
use Rattle.plane_core.proofs.engine.board.removal.take_off.Goals as goal

pub loop-cell-init : goal.loop-cell-init
loop-cell-init c = shown_all c.args.at c.args.words.now

pub across-across-requires-clause-frame : goal.across-across-requires-clause-frame
across-across-requires-clause-frame c = c.requires.frame

pub across-across-requires-clause-within : goal.across-across-requires-clause-within
across-across-requires-clause-within c = c.has.ensures.0 c.if-not-has.false

pub down-requires-clause-frame : goal.down-requires-clause-frame
down-requires-clause-frame c = c.requires.frame

pub down-requires-clause-within : goal.down-requires-clause-within
down-requires-clause-within c = c.has.ensures.0 c.if-not-has.false

pub index-i-requires-clause-frame : goal.index-i-requires-clause-frame
index-i-requires-clause-frame c = c.requires.frame

pub index-i-requires-clause-word_column : goal.index-i-requires-clause-word_column
index-i-requires-clause-word_column c = (spot_inside c.args.at _ _ _ (c.has.ensures.0 c.if-not-has.false) c.across-across.ensures c.down.ensures).0

pub index-i-requires-clause-row : goal.index-i-requires-clause-row
index-i-requires-clause-row c = (spot_inside c.args.at _ _ _ (c.has.ensures.0 c.if-not-has.false) c.across-across.ensures c.down.ensures).1

pub bounds-words-i : goal.bounds-words-i
bounds-words-i c = subst (λ n. c.index-i.result < n) (sym (c.loop-cell.auto.words ∙ c.requires.long)) c.index-i.ensures.inside

pub bounds-words-i-in-loop-cell : goal.bounds-words-i-in-loop-cell
bounds-words-i-in-loop-cell c = subst (λ n. c.index-i.result < n) (sym (c.loop-cell.auto.words ∙ c.requires.long)) c.index-i.ensures.inside

pub has-requires : goal.has-requires
has-requires c = c.requires.frame

pub loop-cell-preserved : goal.loop-cell-preserved
loop-cell-preserved c =
    let S = cells_on c.args.at c.args.words.now in
    fewer_taken c.args.at _ S c.args.cells.now c.loop-cell.cell-index (cell_at (pos 0) (pos 0)) c.loop-cell-test.true
    (taken_off c.args.at c.loop-cell.words S (take c.loop-cell.cell-index c.args.cells.now) _ c.across-across.result c.down.result c.index-i.result
    (c.loop-cell.auto.words ∙ c.requires.long) (c.has.ensures.0 c.if-not-has.false) c.across-across.ensures c.down.ensures c.index-i.ensures.index c.loop-cell.invariant)

pub loop-cell-preserved-then-not-has : goal.loop-cell-preserved-then-not-has
loop-cell-preserved-then-not-has c =
    let S = cells_on c.args.at c.args.words.now in
    fewer_taken c.args.at c.loop-cell.words S c.args.cells.now c.loop-cell.cell-index (cell_at (pos 0) (pos 0)) c.loop-cell-test.true
    (shown_off c.args.at c.loop-cell.words S (take c.loop-cell.cell-index c.args.cells.now) _
    (λ within. false≢true (sym c.if-not-has.true ∙ c.has.ensures.1 within)) c.loop-cell.invariant)

pub returns : goal.returns
returns c =
    only_without c.args.at c.args.words.now c.loop-cell.words c.args.cells.now
    (subst (λ (gone : List Cell). Shows c.args.at c.loop-cell.words (without (cells_on c.args.at c.args.words.now) gone))
    (take_all c.loop-cell.cell-index c.args.cells.now c.loop-cell-test.false) c.loop-cell.invariant)

pub overflow_shl-words : goal.overflow_shl-words
overflow_shl-words c = column_low c.across-across.result

pub loop-cell-smaller : goal.loop-cell-smaller
loop-cell-smaller c = falls _ _ c.loop-cell-test.true

pub loop-cell-smaller-then-not-has : goal.loop-cell-smaller-then-not-has
loop-cell-smaller-then-not-has c = falls _ _ c.loop-cell-test.true
