use Rattle.std.proofs.Common.{◌∙◌, Some, ap}
use Rattle.clap.specs.Words.{found_of}
use Rattle.clap.proofs.WalkLemmas.{first_value-rows}
use Rattle.arguments.proofs.values.text_found.Goals as goal

pub returns-in_err-text : goal.returns-in_err-text
returns-in_err-text c = c.from_residual.ensures ∙ c.in_err-text.ensures ∙ first_value-rows (found_of c.args.found.now) c.args.row.now.name.now

pub returns : goal.returns
returns c = ap Some c.new.ensures ∙ c.in_ok-text.ensures ∙ first_value-rows (found_of c.args.found.now) c.args.row.now.name.now
