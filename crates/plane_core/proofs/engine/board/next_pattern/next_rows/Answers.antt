use Rattle.plane_core.specs.windows.RuleLogic.{rule_of}
use Rattle.plane_core.proofs.lemmas.engine.NextListingLemmas.{empty_shown, next_shown}
use Rattle.plane_core.proofs.lemmas.engine.WindowIoLemmas.{read_packed}
use Rattle.plane_core.proofs.engine.board.next_pattern.next_rows.Goals as goal

pub returns-then-empty : goal.returns-then-empty
returns-then-empty c =
    empty_shown c.args.at c.args.words.now (rule_of c.args.rule.now) c.args.x c.args.y c.read_rows-rows.result c.requires.word_columns c.requires.rows
    c.read_rows-rows.ensures (c.is_empty-empty.ensures c.if-empty.true)

pub returns : goal.returns
returns c =
    next_shown c.args.at c.args.words.now (rule_of c.args.rule.now) c.args.x c.args.y c.packed-window.result c.generation.new.window c.unpacked.result
    c.requires.word_columns c.requires.rows
    (read_packed c.args.at c.args.words.now c.args.x c.args.y 10 c.read_rows-rows.result c.packed-window.result c.read_rows-rows.ensures c.packed-window.ensures)
    c.generation.ensures c.unpacked.ensures
