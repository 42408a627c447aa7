use Rattle.std.proofs.Common.{◌<◌, ◌∙◌, ◌++◌, ◌^◌, ◌+◌, Some, ap, append-nil, subst}
use Rattle.std.proofs.KnownBytes.{Consumes-kept}
use Rattle.commands.proofs.LineLemmas.{kept_short, less_room, little, little_more, long_read, part_kept, read_more, spent_from}
use Rattle.pattern_commands.proofs.AnswerLemmas.{err_of}
use Rattle.pattern_commands.specs.Inputs.{input_complaint}
use Rattle.commands.specs.Lines.{piece_end}
use Rattle.commands.proofs.lines.Lines.next.Goals as goal

pub read_piece-requires : goal.read_piece-requires
read_piece-requires g c = kept_short (2 ^ 24 + 1) _ c.loop-piece.invariant.read.0 c.loop-piece.invariant.read.1

pub returns-in_err-piece-clause-part : goal.returns-in_err-piece-clause-part
returns-in_err-piece-clause-part g c =
    let was = c.loop-piece.invariant.read in
    rw (err_of _ _ c.from_residual.ensures.1) (part_kept _ _ _ (input_complaint c.in_err-piece.field-0.0) was.0 was.2 was.3 c.in_err-piece.ensures.kept)

pub returns-in_err-piece-clause-most : goal.returns-in_err-piece-clause-most
returns-in_err-piece-clause-most g c = rw (err_of _ _ c.from_residual.ensures.1) c.in_err-piece.ensures.most

pub returns-in_err-piece-clause-little : goal.returns-in_err-piece-clause-little
returns-in_err-piece-clause-little g c =
    let was = c.loop-piece.invariant.read in
    little c.args.room 65536 c.loop-piece.size _ _ was.0 _ (Consumes-kept _ _ _ _ was.3 c.in_err-piece.ensures.kept) was.4
    c.loop-piece.invariant.short c.read_piece.ensures.left

pub returns-then-size-room-clause-long : goal.returns-then-size-room-clause-long
returns-then-size-room-clause-long g c = λ is.
    let was = c.loop-piece.invariant.read in
    let read = c.in_ok-piece.ensures.read in
    let piece = c.in_ok-piece.piece in
    let more = read_more _ _ _ _ _ was.0 read.0 c.loop-piece.size piece was.1 was.2 was.3 was.4 read.1 read.2 in
    long_read c.args.room _ _ ((was.0 ++ read.0) ++ piece_end piece.end) more.2 (subst (λ n. c.args.room < n) more.3 c.if-size-room.true)

pub returns-then-size-room-clause-part : goal.returns-then-size-room-clause-part
returns-then-size-room-clause-part g c =
    let was = c.loop-piece.invariant.read in
    let read = c.in_ok-piece.ensures.read in
    let piece = c.in_ok-piece.piece in
    let more = read_more _ _ _ _ _ was.0 read.0 c.loop-piece.size piece was.1 was.2 was.3 was.4 read.1 read.2 in
    record { line = was.0 ++ read.0; end = piece.end; one = more.1; consumed = more.2; cut = tt }

pub returns-then-size-room-clause-little : goal.returns-then-size-room-clause-little
returns-then-size-room-clause-little g c =
    let was = c.loop-piece.invariant.read in
    let read = c.in_ok-piece.ensures.read in
    let piece = c.in_ok-piece.piece in
    let more = read_more _ _ _ _ _ was.0 read.0 c.loop-piece.size piece was.1 was.2 was.3 was.4 read.1 read.2 in
    little_more c.args.room 65536 c.loop-piece.size piece.size _ _ _ _ more.2 more.3 c.loop-piece.invariant.short c.in_ok-piece.ensures.few

pub returns-in-Some-clause-read : goal.returns-in-Some-clause-read
returns-in-Some-clause-read g c =
    let was = c.loop-piece.invariant.read in
    let read = c.in_ok-piece.ensures.read in
    let piece = c.in_ok-piece.piece in
    let more = read_more _ _ _ _ _ was.0 read.0 c.loop-piece.size piece was.1 was.2 was.3 was.4 read.1 read.2 in record {
      line = was.0 ++ read.0;
      kept_is = more.0;
      one = more.1;
      consumed = rw c.in-Some.is at more.2;
      size_is = rw c.in-Some.is at more.3;
      short = c.if-size-room.false;
      last = λ end. spent_from _ _ _ was.0 was.3 (read.2.last (c.in-Some.is ∙ ap Some end));
    }

pub returns-in-Some-clause-little : goal.returns-in-Some-clause-little
returns-in-Some-clause-little g c =
    let was = c.loop-piece.invariant.read in
    let read = c.in_ok-piece.ensures.read in
    let piece = c.in_ok-piece.piece in
    let more = read_more _ _ _ _ _ was.0 read.0 c.loop-piece.size piece was.1 was.2 was.3 was.4 read.1 read.2 in
    little_more c.args.room 65536 c.loop-piece.size piece.size _ _ _ _ more.2 more.3 c.loop-piece.invariant.short c.in_ok-piece.ensures.few

pub loop-piece-smaller : goal.loop-piece-smaller
loop-piece-smaller g c =
    less_room c.args.room c.loop-piece.size c.in_ok-piece.piece.size (c.in_ok-piece.ensures.read.2.some c.in_default.is) c.if-size-room.false

pub loop-piece-preserved : goal.loop-piece-preserved
loop-piece-preserved g c =
    let was = c.loop-piece.invariant.read in
    let read = c.in_ok-piece.ensures.read in
    let piece = c.in_ok-piece.piece in
    let more = read_more _ _ _ _ _ was.0 read.0 c.loop-piece.size piece was.1 was.2 was.3 was.4 read.1 read.2 in
    let bare = append-nil (was.0 ++ read.0) in record {
      short = c.if-size-room.false;
      read = (was.0 ++ read.0, more.0, more.1, rw bare at (rw c.in_default.is at more.2), rw bare at (rw c.in_default.is at more.3));
    }
