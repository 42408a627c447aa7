use Rattle.std.proofs.Common.{rules}
use Rattle.haul_core.specs.Joins.{CanJoin, IsJoined}
use Rattle.haul_core.proofs.StandLemmas.{stands_joined}
use Rattle.haul_core.proofs.book.haul.Haul.join.Goals as goal

pub returns-in-Ok-clause-stands : goal.returns-in-Ok-clause-stands
returns-in-Ok-clause-stands c =
    let can : CanJoin c.args.self c.args.other = search rules in
    let is : IsJoined c.args.self c.args.other c.in-Ok.joined = search rules in
    λ before after s t. stands_joined c.args.self c.args.other c.in-Ok.joined can is before after s t
