use Rattle.std.proofs.Common.{◌≡◌, drop, map}
use Rattle.clap.specs.Words.{app_of}
use Rattle.arguments.specs.Application.{shape_in, with_commands}
use Rattle.arguments.specs.Entries.{command_of}
use Rattle.arguments.proofs.application.with_commands.Given as goal

abbrev pub invariant-loop-row : goal.invariant-loop-row
invariant-loop-row l =
    with_commands (app_of l.program) (map shape_in (map command_of (drop l.row-index l.rows)))
    ≡ with_commands (app_of l.fn.program) (map shape_in (map command_of l.rows))
