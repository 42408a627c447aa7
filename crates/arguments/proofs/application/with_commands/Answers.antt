use Rattle.std.proofs.Common.{◌∙◌, add-one, ap, drop-cons, map, sym}
use Rattle.clap.specs.Words.{app_of, with_subcommand}
use Rattle.arguments.specs.Application.{shape_in, with_commands}
use Rattle.arguments.specs.Entries.{command_of}
use Rattle.arguments.proofs.application.with_commands.Goals as goal

pub loop-row-preserved : goal.loop-row-preserved
loop-row-preserved c = rw (
  c.in_ok-program.ensures.shape c.in_ok-command.ensures.local
      ∙ ap (with_subcommand (app_of c.loop-row.program)) c.in_ok-command.ensures.shape,
  add-one c.loop-row.row-index,
)
    (sym (ap (λ rows. with_commands (app_of c.loop-row.program) (map shape_in (map command_of rows)))
    (drop-cons _ _ _ c.loop-row-test.true))
    ∙ c.loop-row.invariant)
