use Rattle.std.proofs.Common.{◌∙◌}
use Rattle.plane_core.proofs.lemmas.windows.RowPackingLemmas.{four_of, words_kept, words_put}
use Rattle.plane_core.proofs.windows.row_packing.unpack_four.Goals as goal

pub returns-clause-made : goal.returns-clause-made
returns-clause-made g c i j low lane =
    words_put g.row.N c.args.k c.args.rows.now c.set_words.new.words c.set_words-2.new.words c.set_words-3.new.words c.set_words-4.new.words
    c.turned-four.result c.requires.vectors c.set_words.ensures.at c.set_words.ensures.others c.set_words-2.ensures.at c.set_words-2.ensures.others
    c.set_words-3.ensures.at c.set_words-3.ensures.others c.set_words-4.ensures.at c.set_words-4.ensures.others i j low lane
    ∙ c.turned-four.ensures j i lane low ∙ four_of c.args.window.now c.args.k i j low

pub returns-clause-others : goal.returns-clause-others
returns-clause-others g c m j less lane =
    words_kept g.row.N c.args.k c.args.rows.now c.set_words.new.words c.set_words-2.new.words c.set_words-3.new.words c.set_words-4.new.words
    c.turned-four.result c.requires.vectors c.set_words.ensures.at c.set_words.ensures.others c.set_words-2.ensures.at c.set_words-2.ensures.others
    c.set_words-3.ensures.at c.set_words-3.ensures.others c.set_words-4.ensures.at c.set_words-4.ensures.others m j less lane
