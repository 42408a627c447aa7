use Rattle.std.proofs.Common.{◌≤◌, ◌^◌, Err, ap, length}
use Rattle.pattern_commands.proofs.AnswerLemmas.{err_of, Reads_unread, Reads_error}
use Rattle.pattern_commands.proofs.input.read_pattern.Goals as goal

pub returns-in_err-bytes-clause-read : goal.returns-in_err-bytes-clause-read
returns-in_err-bytes-clause-read g c =
    let unread = Reads_unread (g.R.Read.remaining c.args.input.now) c.in_err-bytes.field-0.0 (λ long. c.in_err-bytes.ensures.long (ap Err long)) in
    (unread.0, unread.1, rw (err_of _ _ c.from_residual.ensures.1) unread.2)

pub returns-in_err-read_plaintext-clause-read : goal.returns-in_err-read_plaintext-clause-read
returns-in_err-read_plaintext-clause-read g c =
    let bytes = c.in_ok-bytes.bytes.items in
    let read = c.as_slice.ensures in
    let short : length bytes ≤ 2 ^ 24 = rw (← read.value, read.len) c.in_ok-bytes.ensures.short in
    let faults = rw read.value at c.in_err-read_plaintext.ensures.fault in (
      bytes,
      c.in_ok-bytes.ensures.whole,
      rw (err_of _ _ c.from_residual-in_err-read_plaintext.ensures.1) (Reads_error bytes c.in_err-read_plaintext.field-0.0 short faults),
    )
