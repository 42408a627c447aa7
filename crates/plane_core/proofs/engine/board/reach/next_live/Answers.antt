use borrow.Author.Count.{falls}
use Rattle.plane_core.proofs.lemmas.engine.DirectionLemmas.{dead_more}
use Rattle.plane_core.proofs.lemmas.engine.WindowIoLemmas.{index_in}
use Rattle.plane_core.proofs.lemmas.plane.OrderLemmas.{below_too, fits_next, itself, not_both, past_too}
use Rattle.plane_core.proofs.engine.board.reach.next_live.Goals as goal

pub row_inwards-requires : goal.row_inwards-requires
row_inwards-requires c = below_too _ _ _ c.loop-step-test.true c.requires.end

pub index-requires-clause-frame : goal.index-requires-clause-frame
index-requires-clause-frame c = c.requires.frame

pub index-requires-clause-word_column : goal.index-requires-clause-word_column
index-requires-clause-word_column c = c.requires.word_column

pub index-requires-clause-row : goal.index-requires-clause-row
index-requires-clause-row c = below_too _ _ _ c.row_inwards.ensures.high c.requires.rows

pub bounds-words-index : goal.bounds-words-index
bounds-words-index c = index_in c.args.at c.args.words.now c.args.word_column c.row_inwards.result c.index.result c.requires.long c.requires.word_column
    (below_too _ _ _ c.row_inwards.ensures.high c.requires.rows) c.index.ensures.index

pub returns-then-words-index-ne0-clause-later : goal.returns-then-words-index-ne0-clause-later
returns-then-words-index-ne0-clause-later c = c.loop-step.invariant.later

pub returns-then-words-index-ne0-clause-dead : goal.returns-then-words-index-ne0-clause-dead
returns-then-words-index-ne0-clause-dead c = c.loop-step.invariant.dead

pub loop-step-smaller : goal.loop-step-smaller
loop-step-smaller c = falls c.args.end c.loop-step.step c.loop-step-test.true

pub returns-clause-later : goal.returns-clause-later
returns-clause-later c = c.loop-step.invariant.later

pub returns-clause-dead : goal.returns-clause-dead
returns-clause-dead c = c.loop-step.invariant.dead

pub loop-step-init : goal.loop-step-init
loop-step-init c = record { later = itself c.args.from; dead = λ step from to. absurd (not_both _ _ to from) }

pub loop-step-preserved : goal.loop-step-preserved
loop-step-preserved c = record {
  later = past_too _ _ c.loop-step.invariant.later;
  dead = dead_more c.args.at c.args.way c.args.words.now c.args.word_column c.args.rows c.args.from c.loop-step.step c.index.result c.row_inwards.result
      c.loop-step.invariant.dead c.row_inwards.ensures.row c.index.ensures.index c.if-words-index-ne0.false;
}

pub overflow_add-step : goal.overflow_add-step
overflow_add-step c = fits_next _ _ c.loop-step-test.true c.ranges.end
