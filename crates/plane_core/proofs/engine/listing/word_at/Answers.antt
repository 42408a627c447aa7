use Rattle.std.proofs.Common.{ℕ, ap, get_or}
use Rattle.std.specs.Int.{bit_at}
use Rattle.plane_core.proofs.lemmas.engine.WindowIoLemmas.{index_in}
use Rattle.plane_core.proofs.engine.listing.word_at.Goals as goal

pub index-requires-clause-frame : goal.index-requires-clause-frame
index-requires-clause-frame c = c.requires.frame

pub index-requires-clause-word_column : goal.index-requires-clause-word_column
index-requires-clause-word_column c = c.requires.word_column

pub index-requires-clause-row : goal.index-requires-clause-row
index-requires-clause-row c = c.requires.row

pub bounds-words-index : goal.bounds-words-index
bounds-words-index c = index_in c.args.at c.args.words.now c.args.word_column c.args.row c.index.result c.requires.long c.requires.word_column c.requires.row c.index.ensures.index

pub returns : goal.returns
returns c i low = ap (λ (n : ℕ). bit_at (get_or c.args.words.now n 0) i) c.index.ensures.index
