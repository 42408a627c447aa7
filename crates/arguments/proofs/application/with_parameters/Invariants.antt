use Rattle.std.proofs.Common.{◌≡◌, drop, false, map}
use Rattle.clap.specs.Words.{app_of}
use Rattle.clap.specs.declared.builder.command.Command.TheViews.{out-Command as fields_of}
use Rattle.arguments.specs.Application.{rule_in, with_rules}
use Rattle.arguments.specs.Entries.{entry_of}
use Rattle.arguments.proofs.application.with_parameters.Given as goal

abbrev pub invariant-loop-row : goal.invariant-loop-row
invariant-loop-row l =
    (with_rules (app_of l.command) (map rule_in (map entry_of (drop l.row-index l.rows)))
    ≡ with_rules (app_of l.fn.command) (map rule_in (map entry_of l.rows)))
    × ((fields_of l.fn.command).has_globals ≡ false → (fields_of l.command).has_globals ≡ false)
