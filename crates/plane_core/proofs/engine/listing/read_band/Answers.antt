use Rattle.std.proofs.Common.{ℕ, arith, subst}
use Rattle.plane_core.specs.engine.Listing.{HasReadRows, IsBandEmpty}
use Rattle.plane_core.proofs.lemmas.engine.ListingLemmas.{band_joined, row-empty, row-more, row-none, row-on, rows-more, rows-on}
use Rattle.plane_core.proofs.lemmas.plane.OrderLemmas.{below_too}
use Rattle.plane_core.proofs.engine.listing.read_band.Goals as goal
use Rattle.plane_core.proofs.lemmas.Between.{HasReadRow}

pub word_columns_of_band-alive-requires : goal.word_columns_of_band-alive-requires
word_columns_of_band-alive-requires c = c.requires

pub returns-then-alive : goal.returns-then-alive
returns-then-alive c =
    let alive = c.word_columns_of_band-alive.result in
    let first = subst (λ (n : ℕ). IsBandEmpty c.args.at c.args.words.now c.args.band 0 n) c.if-alive.true c.word_columns_of_band-alive.ensures.left in
    let all = band_joined c.args.at c.args.words.now c.args.band 0 alive.end c.args.at.word_columns first c.word_columns_of_band-alive.ensures.right in
    rows-on c.args.at c.args.words.now c.args.band c.args.cells.now.items all

pub loop-row-init : goal.loop-row-init
loop-row-init c = λ before. before

pub loop-word_column-init : goal.loop-word_column-init
loop-word_column-init c =
    let at = c.args.at in
    let words = c.args.words.now in
    let row = c.loop-row.row in
    let old = c.loop-row.cells.items in
    let alive = c.word_columns_of_band-alive.result in
    let left = row-empty at words c.args.band row 0 alive.from (omega arith) (omega arith) c.word_columns_of_band-alive.ensures.left in
    row-on at words row 0 alive.from old old left (row-none at words row old)

pub word_at-word-requires : goal.word_at-word-requires
word_at-word-requires c = record {
  frame = c.requires.frame;
  word_column = below_too _ _ _ c.loop-word_column-test.true c.word_columns_of_band-alive.ensures.most;
  row = omega arith;
  long = c.requires.long;
}

pub loop-word_column-preserved : goal.loop-word_column-preserved
loop-word_column-preserved c =
    row-more c.args.at c.args.words.now c.loop-word_column.word_column c.loop-row.row _ _ _ _ _
    (below_too _ _ _ c.loop-word_column-test.true c.word_columns_of_band-alive.ensures.most) (omega arith) c.word_at-word.ensures c.corner.ensures.corner
    c.loop-word_column.invariant c.in_ok-read_word.ensures

pub loop-row-preserved : goal.loop-row-preserved
loop-row-preserved c = λ before.
    let at = c.args.at in
    let words = c.args.words.now in
    let row = c.loop-row.row in
    let alive = c.word_columns_of_band-alive.result in
    let old = c.loop-row.cells.items in
    let new = c.loop-word_column.cells.items in
    let right = row-empty at words c.args.band row alive.end at.word_columns (omega arith) (omega arith) c.word_columns_of_band-alive.ensures.right in
    let read = subst (λ (n : ℕ). HasReadRow at words row old n new) (omega arith) c.loop-word_column.invariant in
    rows-more _ _ _ _ _ (c.loop-row.invariant before) (row-on at words row alive.end at.word_columns old new right read)

pub returns : goal.returns
returns c = λ before.
    subst (λ (n : ℕ). HasReadRows c.args.at c.args.words.now n c.loop-row.cells.items) (omega arith) (c.loop-row.invariant before)
