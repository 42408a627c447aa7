use Rattle.std.proofs.Common.{arith}
use Rattle.plane_core.proofs.lemmas.engine.FrameLemmas.{frame-small, word-inside}
use Rattle.plane_core.proofs.engine.frame.Frame.index.Goals as goal

pub returns-clause-inside : goal.returns-clause-inside
returns-clause-inside c = word-inside c.args.self c.args.word_column c.args.row c.requires.word_column c.requires.row

pub returns-clause-small : goal.returns-clause-small
returns-clause-small c =
    omega (arith, word-inside c.args.self c.args.word_column c.args.row c.requires.word_column c.requires.row, frame-small c.args.self c.requires.frame)
