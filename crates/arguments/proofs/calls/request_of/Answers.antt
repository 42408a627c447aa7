use Rattle.std.proofs.Common.{◌∙◌, sym, map}
use Rattle.clap.specs.Words.{app_of, kind_of, subcommand_rows_of}
use Rattle.arguments.proofs.LawLemmas.{asked_by-found, asked_by-none}
use Rattle.arguments.proofs.calls.request_of.Goals as goal

pub returns-in-Some-clause-asked : goal.returns-in-Some-clause-asked
returns-in-Some-clause-asked g c =
    asked_by-found (app_of c.in_ok-command.command) (map g.S.AsStr.text c.args.arguments.now) c.in_ok-command.ensures c.if-asks_version.ensures
    (subcommand_rows_of c.in-Ok.matches) c.in-Ok.ensures.kinds (λ simple. (c.in-Ok.ensures.matches simple).1) ∙ sym c.in-Some.ensures.request

pub returns-in-None-clause-usage : goal.returns-in-None-clause-usage
returns-in-None-clause-usage g c =
    λ _. asked_by-found (app_of c.in_ok-command.command) (map g.S.AsStr.text c.args.arguments.now) c.in_ok-command.ensures c.if-asks_version.ensures
    (subcommand_rows_of c.in-Ok.matches) c.in-Ok.ensures.kinds (λ simple. (c.in-Ok.ensures.matches simple).1) ∙ sym c.in-None.ensures.request

pub returns-in-Err-clause-usage : goal.returns-in-Err-clause-usage
returns-in-Err-clause-usage g c =
    λ usage. asked_by-none (app_of c.in_ok-command.command) (map g.S.AsStr.text c.args.arguments.now) c.in_ok-command.ensures c.if-asks_version.ensures
    (kind_of c.in-Err.error) c.in-Err.ensures.kinds (c.unasked_by.ensures.usage usage)
