use Rattle.std.proofs.Common.{Ok, Err, false, refl, true}
use Rattle.std.proofs.KnownBytes.{Appends-nil}
use Rattle.pattern_commands.specs.declared.ending.complaint.Complaint.TheVariants.{WriteFailed}
use Rattle.pattern_commands.specs.Answers.{only}
use Rattle.pattern_commands.specs.Version.{version_answer, version_line}
use Rattle.pattern_commands.proofs.TextLemmas.{text_ends}
use Rattle.pattern_commands.proofs.version.do_version.Goals as goal

pub returns-in-Ok-clause-ends : goal.returns-in-Ok-clause-ends
returns-in-Ok-clause-ends g c reader bytes =
    text_ends false true (λ _. only version_answer) reader bytes (Ok tt) _ _ _ ((version_line, refl, c.in-Ok.ensures.whole), c.in-Ok.ensures.remembers) refl
    (Appends-nil _, c.requires.errors)

pub returns-in-Err-clause-ends : goal.returns-in-Err-clause-ends
returns-in-Err-clause-ends g c reader bytes =
    text_ends false true (λ _. only version_answer) reader bytes (Err (WriteFailed c.in-Err.error)) _ _ _
    ((version_line, refl, c.in-Err.ensures.prefix), c.in-Err.ensures.remembers) c.end_command.ensures.status c.end_command.ensures.line
