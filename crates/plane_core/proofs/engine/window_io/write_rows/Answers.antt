use Rattle.plane_core.proofs.lemmas.engine.WindowIoLemmas.{rows_put}
use Rattle.plane_core.proofs.engine.window_io.write_rows.Goals as goal

pub returns : goal.returns
returns c =
    rows_put c.args.at c.args.words.now c.put_words.new.words c.put_words-2.new.words c.args.rows.now c.in_first_of-first.result c.in_second_of-second.result
    c.args.x c.args.y c.args.r c.in_first.result c.in_second.result c.requires.inside c.in_first.ensures.low c.in_first.ensures.high
    c.in_first_of-first.ensures c.in_second.ensures c.in_second_of-second.ensures c.put_words.ensures.at c.put_words.ensures.others
    c.put_words-2.ensures.at c.put_words-2.ensures.others
