use Rattle.std.proofs.Common.{◌*◌, ◌<◌, ℕ, arith, subst, sym}
use Rattle.plane_core.specs.engine.RowSpans.{span_of}
use Rattle.std.proofs.lemmas.Bool.{eqb-true}
use Rattle.plane_core.proofs.lemmas.engine.ListingLemmas.{eight-more, word_column-empty, word_column_missed, missed_eight}
use Rattle.plane_core.proofs.engine.listing.is_word_column_empty.Goals as goal

pub returns : goal.returns
returns c = λ e.
    word_column-empty c.args.at c.args.words.now c.args.word_column c.args.band c.index-from.result c.loop-k.columns c.index-from.ensures.index
    (eqb-true c.loop-k.columns 0 e) (λ b k none low. c.loop-k.invariant b k none (omega arith))

pub loop-k-init : goal.loop-k-init
loop-k-init c b m none low = absurd (omega arith)

pub loop-k-preserved : goal.loop-k-preserved
loop-k-preserved c = eight-more c.args.words.now c.index-from.result c.loop-k.k c.loop-k.columns c.loop-k.invariant

pub returns-then-is_missed : goal.returns-then-is_missed
returns-then-is_missed c = λ e.
    word_column_missed c.args.at c.args.words.now c.args.spans.now c.args.word_column c.args.band c.requires.word_column c.requires.band c.requires.live
    (missed_eight (span_of c.args.spans.now c.args.word_column) (8 * c.args.band) c.if-is_missed.true)

pub bounds-spans-word_column : goal.bounds-spans-word_column
bounds-spans-word_column c = subst (λ (n : ℕ). c.args.word_column < n) (sym c.requires.spans) c.requires.word_column

pub index-from-requires-clause-frame : goal.index-from-requires-clause-frame
index-from-requires-clause-frame c = c.requires.frame

pub index-from-requires-clause-word_column : goal.index-from-requires-clause-word_column
index-from-requires-clause-word_column c = c.requires.word_column
