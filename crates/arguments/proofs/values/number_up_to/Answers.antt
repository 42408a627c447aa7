use Rattle.std.proofs.Common.{◌∙◌, ◌<◌, ◌^◌, ap, option_and_then, rules}
use Rattle.std.specs.Str.Parse.{ExplainsUnsignedError, HasUnsignedDigitsIfOk, ParsesUnsigned}
use Rattle.clap.specs.Words.{found_of, one_text}
use Rattle.clap.proofs.WalkLemmas.{one_text-rows}
use Rattle.arguments.specs.Values.{number_named}
use Rattle.arguments.proofs.NumberLemmas.{found_within}
use Rattle.arguments.proofs.values.number_up_to.Goals as goal

pub returns-clause-number : goal.returns-clause-number
returns-clause-number c =
    let fits : c.args.most < 2 ^ 64 = search rules in
    c.within.ensures.number
    ∙ found_within c.args.most fits (λ bs r. ParsesUnsigned 64 10 bs r × ExplainsUnsignedError 10 bs r × HasUnsignedDigitsIfOk bs r) (λ t r g. g.0)
    (one_text (found_of c.args.found.now) c.args.id.now) c.get_one.result c.get_one.ensures.none c.get_one.ensures.value
    ∙ ap (option_and_then (number_named c.args.most)) (one_text-rows (found_of c.args.found.now) c.args.id.now)
