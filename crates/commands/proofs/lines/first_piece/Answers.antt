use Rattle.std.proofs.Common.{◌∙◌, sym}
use Rattle.commands.proofs.PieceLemmas.{empty_piece, ended_piece, whole_piece}
use Rattle.commands.proofs.lines.first_piece.Goals as goal

pub returns-in-Some : goal.returns-in-Some
returns-in-Some c = ended_piece c.args.bytes.now _ c.in-Some.ensures

pub returns-in-None : goal.returns-in-None
returns-in-None c = empty_piece c.args.bytes.now (sym c.is_empty.ensures ∙ c.if-is_empty.true)

pub returns-in-None-2 : goal.returns-in-None-2
returns-in-None-2 c = whole_piece c.args.bytes.now c.in-None-2.ensures (sym c.is_empty.ensures ∙ c.if-is_empty.false)
