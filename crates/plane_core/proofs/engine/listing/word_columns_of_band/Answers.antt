use Rattle.plane_core.proofs.lemmas.plane.OrderLemmas.{below_too}
use Rattle.std.proofs.Common.{arith}
use Rattle.plane_core.proofs.lemmas.engine.ListingLemmas.{band-less, band-more, band_missed}
use Rattle.plane_core.proofs.engine.listing.word_columns_of_band.Goals as goal

pub loop-from-init : goal.loop-from-init
loop-from-init c = record {
  most = c.requires.order;
  empty = band_missed c.args.at c.args.words.now c.args.spans.now c.args.word_columns c.args.band 0 c.args.word_columns.from c.requires.band
      (let order = c.requires.order in let most = c.requires.most in omega (arith, order, most)) c.requires.live c.requires.word_columns
      (λ s past near is. let h = is.low in omega (arith, near, h));
}

pub loop-from-preserved : goal.loop-from-preserved
loop-from-preserved c = record {
  most = omega arith;
  empty = band-more c.args.at c.args.words.now c.args.band c.loop-from.from c.loop-from.invariant.empty (c.is_word_column_empty.ensures c.if-is_word_column_empty.true);
}

pub loop-end-init : goal.loop-end-init
loop-end-init c = record {
  least = c.loop-from.invariant.most;
  most = c.requires.most;
  empty = band_missed c.args.at c.args.words.now c.args.spans.now c.args.word_columns c.args.band c.args.word_columns.end c.args.at.word_columns c.requires.band (omega arith)
      c.requires.live c.requires.word_columns (λ s past near is. let h = is.high in omega (arith, past, h));
}

pub loop-end-preserved : goal.loop-end-preserved
loop-end-preserved c = record {
  least = omega arith;
  most = omega (arith, c.loop-end.invariant.most);
  empty = band-less c.args.at c.args.words.now c.args.band c.loop-end.end c.args.at.word_columns (omega arith) c.loop-end.invariant.empty
      (c.is_word_column_empty-in-loop-end.ensures c.if-is_word_column_empty-2.true);
}

pub is_word_column_empty-requires-clause-frame : goal.is_word_column_empty-requires-clause-frame
is_word_column_empty-requires-clause-frame c = c.requires.frame

pub is_word_column_empty-requires-clause-word_column : goal.is_word_column_empty-requires-clause-word_column
is_word_column_empty-requires-clause-word_column c = below_too _ _ _ c.loop-from-test.true c.requires.most

pub is_word_column_empty-requires-clause-band : goal.is_word_column_empty-requires-clause-band
is_word_column_empty-requires-clause-band c = c.requires.band

pub is_word_column_empty-requires-clause-long : goal.is_word_column_empty-requires-clause-long
is_word_column_empty-requires-clause-long c = c.requires.long

pub is_word_column_empty-requires-clause-spans : goal.is_word_column_empty-requires-clause-spans
is_word_column_empty-requires-clause-spans c = c.requires.spans

pub is_word_column_empty-requires-clause-live : goal.is_word_column_empty-requires-clause-live
is_word_column_empty-requires-clause-live c = c.requires.live

pub is_word_column_empty-requires-in-loop-end-clause-frame : goal.is_word_column_empty-requires-in-loop-end-clause-frame
is_word_column_empty-requires-in-loop-end-clause-frame c = c.requires.frame

pub is_word_column_empty-requires-in-loop-end-clause-band : goal.is_word_column_empty-requires-in-loop-end-clause-band
is_word_column_empty-requires-in-loop-end-clause-band c = c.requires.band

pub is_word_column_empty-requires-in-loop-end-clause-long : goal.is_word_column_empty-requires-in-loop-end-clause-long
is_word_column_empty-requires-in-loop-end-clause-long c = c.requires.long

pub is_word_column_empty-requires-in-loop-end-clause-spans : goal.is_word_column_empty-requires-in-loop-end-clause-spans
is_word_column_empty-requires-in-loop-end-clause-spans c = c.requires.spans

pub is_word_column_empty-requires-in-loop-end-clause-live : goal.is_word_column_empty-requires-in-loop-end-clause-live
is_word_column_empty-requires-in-loop-end-clause-live c = c.requires.live

pub returns-else-is_word_column_empty-2-clause-order : goal.returns-else-is_word_column_empty-2-clause-order
returns-else-is_word_column_empty-2-clause-order c = c.loop-end.invariant.least

pub returns-else-is_word_column_empty-2-clause-most : goal.returns-else-is_word_column_empty-2-clause-most
returns-else-is_word_column_empty-2-clause-most c = c.loop-end.invariant.most

pub returns-else-is_word_column_empty-2-clause-left : goal.returns-else-is_word_column_empty-2-clause-left
returns-else-is_word_column_empty-2-clause-left c = c.loop-from.invariant.empty

pub returns-else-is_word_column_empty-2-clause-right : goal.returns-else-is_word_column_empty-2-clause-right
returns-else-is_word_column_empty-2-clause-right c = c.loop-end.invariant.empty

pub returns-after-loop-end-clause-order : goal.returns-after-loop-end-clause-order
returns-after-loop-end-clause-order c = c.loop-end.invariant.least

pub returns-after-loop-end-clause-most : goal.returns-after-loop-end-clause-most
returns-after-loop-end-clause-most c = c.loop-end.invariant.most

pub returns-after-loop-end-clause-left : goal.returns-after-loop-end-clause-left
returns-after-loop-end-clause-left c = c.loop-from.invariant.empty

pub returns-after-loop-end-clause-right : goal.returns-after-loop-end-clause-right
returns-after-loop-end-clause-right c = c.loop-end.invariant.empty
