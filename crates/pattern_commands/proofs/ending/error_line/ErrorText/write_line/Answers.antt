use Rattle.std.proofs.Common.{◌≡◌, refl}
use Rattle.plane_core.proofs.lemmas.OutputLemmas.{Writes_same}
use Rattle.pattern_commands.specs.Complaints.{error_line, text_of_error}
use Rattle.pattern_commands.proofs.ending.error_line.ErrorText.write_line.Goals as goal

pub returns-in-Ok : goal.returns-in-Ok
returns-in-Ok g c =
    let whole = c.in-Ok.ensures.whole in
    let held : c.as_slice.result.now ≡ error_line (text_of_error c.args.self) =
    rw (c.as_slice.ensures.value, c.into_inner.ensures, whole, c.new-line.ensures.writer, c.new.ensures) refl in
    Writes_same held c.put.ensures
