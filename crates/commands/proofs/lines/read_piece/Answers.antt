use Rattle.std.proofs.Common.{◌∙◌, ◌+◌, ◌^◌, ap, take}
use Rattle.pattern_commands.proofs.AnswerLemmas.{err_of, none_short}
use Rattle.commands.proofs.LineLemmas.{piece_few, piece_left, piece_taken}
use Rattle.commands.proofs.lines.read_piece.Goals as goal

pub returns-clause-read : goal.returns-clause-read
returns-clause-read g c = (
  take c.first_piece-piece.result.length c.unread-unread.result.now,
  c.truncate.ensures.items ∙ ap (take (2 ^ 24 + 1)) c.in_ok-extend_from_slice.ensures.items,
  piece_taken _ _ c.fill.new.self _ c.consume.new.self c.first_piece-piece.result c.unread-unread.ensures c.first_piece-piece.ensures
      c.fill.ensures.bytes c.consume.ensures c.in_ok-fill.ensures.end,
)

pub returns-clause-few : goal.returns-clause-few
returns-clause-few g c =
    piece_few (2 ^ 16) c.fill.new.self _ c.consume.new.self c.first_piece-piece.result c.unread-unread.ensures c.first_piece-piece.ensures c.consume.ensures
    c.fill.ensures.few

pub returns-clause-left : goal.returns-clause-left
returns-clause-left g c = piece_left (2 ^ 16) c.fill.new.self c.consume.new.self c.first_piece-piece.result c.consume.ensures c.fill.ensures.few

pub returns-in_err-fill-clause-most : goal.returns-in_err-fill-clause-most
returns-in_err-fill-clause-most g c = rw (err_of _ _ c.from_residual.ensures.1) (none_short _ _ c.in_err-fill.ensures.none)

pub returns-in_err-extend_from_slice-clause-most : goal.returns-in_err-extend_from_slice-clause-most
returns-in_err-extend_from_slice-clause-most g c = rw (err_of _ _ c.from_residual-in_err-extend_from_slice.ensures.1) c.fill.ensures.few
