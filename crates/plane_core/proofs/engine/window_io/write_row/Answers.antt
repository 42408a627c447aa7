use Rattle.plane_core.proofs.lemmas.engine.WindowIoLemmas.{row_put}
use Rattle.std.proofs.Common.{ℕ, ◌+◌, ◌*◌, ◌/◌, ◌<◌, subst, sym}
use Rattle.plane_core.proofs.lemmas.engine.WindowIoLemmas.{column_low, fits_row, words_in}
use Rattle.plane_core.proofs.engine.window_io.write_row.Goals as goal

pub returns : goal.returns
returns c =
    row_put c.args.at c.args.words.now c.put_word.new.words c.put_word-2.new.words c.args.x c.args.y c.args.word c.in_first.result c.in_first-2.result
    c.in_second.result c.in_second-2.result c.requires.rows c.in_first.ensures.low c.in_first.ensures.high c.in_first-2.ensures.high
    c.in_second.ensures c.in_second-2.ensures c.put_word.ensures.at c.put_word.ensures.others c.put_word-2.ensures.at c.put_word-2.ensures.others

pub in_first-requires : goal.in_first-requires
in_first-requires c = column_low c.args.x

pub in_first-requires-2 : goal.in_first-requires-2
in_first-requires-2 c = column_low c.args.x

pub put_word-requires : goal.put_word-requires
put_word-requires c = (words_in c.args.at c.args.words.now c.args.x c.args.y c.requires.long c.requires.word_columns c.requires.rows).0

pub in_second-requires : goal.in_second-requires
in_second-requires c = column_low c.args.x

pub in_second-requires-2 : goal.in_second-requires-2
in_second-requires-2 c = column_low c.args.x

pub put_word-requires-2 : goal.put_word-requires-2
put_word-requires-2 c =
    subst (λ (n : ℕ). c.args.x / 64 * c.args.at.rows + c.args.y + c.args.at.rows < n) (sym c.put_word.auto.words)
    (words_in c.args.at c.args.words.now c.args.x c.args.y c.requires.long c.requires.word_columns c.requires.rows).1

pub overflow_mul-i : goal.overflow_mul-i
overflow_mul-i c = (fits_row c.args.at c.args.words.now c.args.x c.args.y c.well_formed.0.1 c.requires.long c.requires.word_columns c.requires.rows).0

pub overflow_add-i : goal.overflow_add-i
overflow_add-i c = (fits_row c.args.at c.args.words.now c.args.x c.args.y c.well_formed.0.1 c.requires.long c.requires.word_columns c.requires.rows).1

pub overflow_add-i-2 : goal.overflow_add-i-2
overflow_add-i-2 c = (fits_row c.args.at c.args.words.now c.args.x c.args.y c.well_formed.0.1 c.requires.long c.requires.word_columns c.requires.rows).2
