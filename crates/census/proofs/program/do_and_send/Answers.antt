use Rattle.std.proofs.Common.{◌≡◌, ◌≢◌, ◌∙◌, ℕ, suc, [], true, false, map, string_bytes, refl, rules, sym, ap, inl, inr, subst}
use Rattle.std.proofs.lemmas.Bool.{cases_Bool}
use Rattle.std.specs.Io.Buffered.{writer_buffer, writer_contents, writer_inner}
use Rattle.std.specs.Io.KnownBytes.{Keeps, append_known}
use Rattle.pattern_commands.specs.Streams.{stream}
use Rattle.pattern_commands.specs.Status.{exit_code, has_printed}
use Rattle.census.specs.Program.{IsDone}
use Rattle.census.proofs.ProgramLemmas.{Prints, append_nothing, done_with, incomplete_with, is_done, is_incomplete}
use Rattle.census.proofs.ProgramLemmas.{prefix_sent, printed_is_no_usage, prints, sent_leaves, silent_with, unlike}
use Rattle.census.proofs.program.do_and_send.Goals as goal

pub returns : goal.returns
returns g c =
    let arguments = map string_bytes c.args.arguments.now in
    let reader = g.R.Read.remaining c.args.input.now in
    let given = writer_inner c.args.buffered in
    let before = g.W.Write.contents given in
    let below = g.W.Write.contents c.into_parts-writer.result.0 in
    let held = writer_buffer c.send_buffered-status.new.buffered in
    let written = stream (writer_contents g.W.Write.contents) c.new-output.result c.do_arguments-status.new.output in
    let diagnostics = stream g.E.Write.contents c.args.machine.now.errors c.do_arguments-status.new.machine.errors in
    let status = c.do_arguments-status.result in
    let sent = c.send_buffered-status.ensures in
    -- the buffer was empty at first; the writer below it has what was written to the buffer, except what the buffer
    -- still holds
    let starts : written.before ≡ before = ap (writer_contents g.W.Write.contents) c.new-output.ensures.writer
    ∙ ap (append_known before) c.requires.empty ∙ append_nothing before in
    let kept : Keeps written.after (append_known below held) = rw (c.into_parts-writer.ensures.inner, ← c.into_inner-buffered.ensures) sent.bytes in
    let printed : has_printed status ≡ true → held ≡ [] → Prints arguments reader written.before below status diagnostics =
    λ is empty. prints arguments reader below status written diagnostics is (subst (λ h. Keeps written.after (append_known below h)) empty kept)
    (c.do_arguments-status.ensures.command (printed_is_no_usage status is)) in
    let unchanged : has_printed status ≡ false → c.do_arguments-status.new.output ≡ c.new-output.result → c.into_parts-writer.result.0 ≡ given =
    λ unprinted same. search (rules, same, sent.untouched unprinted, c.into_parts-writer.ensures.inner, c.into_inner-buffered.ensures, c.new-output.ensures.writer) in
    record {
      done = λ code. let done = is_done _ code in let is = sent.done done in
          rw (sent.silent (done ∙ sym is.0)) (subst (λ b. IsDone arguments reader b below diagnostics 0) starts
          (done_with _ _ _ _ _ _ (printed (ap has_printed is.0) is.1) is.0));
      incomplete = λ code. let less = is_incomplete _ code in let is = sent.incomplete less in
          rw (sent.silent (less ∙ sym is.0)) (subst (λ b. (less : ℕ) × IsDone arguments reader b below diagnostics (suc less)) starts
          (incomplete_with _ _ _ _ _ _ (printed (ap has_printed is.0) is.1) is.0));
      silent = λ code. let done = is_done _ code in let is = sent.done done in
          rw (sent.silent (done ∙ sym is.0)) (silent_with _ _ _ _ _ _ (printed (ap has_printed is.0) is.1) is.0);
      complains = λ undone no_usage complete. record {
        status = status;
        written = written;
        diagnostics = diagnostics;
        does = c.do_arguments-status.ensures.command (λ usage. no_usage (ap exit_code ((sent.kept (ap has_printed usage)).0 ∙ usage)));
        from = starts;
        sent = prefix_sent written.after below held kept;
        ends = elim (cases_Bool (has_printed status)) [
          | inl is ↦
              let changed : c.send_buffered-status.result ≢ status = unlike (λ s. c.send_buffered-status.result ≢ s) status is
              (λ e. undone (ap exit_code e)) (λ e. complete (ap exit_code e)) in
              inr (is, ap exit_code (sent.failed changed), refl, record { line = sent.line changed; stays = sent.stays })
          | inr isnt ↦ let same = sent.kept isnt in
              inl (isnt, ap exit_code same.0, ap (stream g.E.Write.contents c.args.machine.now.errors) same.1)
        ];
      };
      leaves =
          sent_leaves _ status _ _ _ _ _ given _ c.do_arguments-status.ensures.leaves (λ unprinted. (sent.kept unprinted).0) sent.failed
          (λ is. ap (stream g.E.Write.contents c.args.machine.now.errors) (sent.silent is)) unchanged;
    }
