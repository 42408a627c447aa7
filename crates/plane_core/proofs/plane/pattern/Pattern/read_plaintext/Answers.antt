use Rattle.std.proofs.Common.{◌≡◌, Ok, rules}
use Rattle.plane_core.specs.Plaintext.{pattern}
use Rattle.plane_core.proofs.lemmas.plaintext.PlaintextSmall.{read_is_small}
use Rattle.plane_core.proofs.plane.pattern.Pattern.read_plaintext.Goals as goal

pub returns-in-Ok-clause-small : goal.returns-in-Ok-clause-small
returns-in-Ok-clause-small c =
    let read : pattern c.args.input.now ≡ Ok c.in-Ok.pattern = search rules in
    read_is_small c.args.input.now c.in-Ok.pattern read
