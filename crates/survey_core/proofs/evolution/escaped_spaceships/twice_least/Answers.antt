use Rattle.std.proofs.Common.{arith}
use Rattle.std.proofs.lemmas.Int.{ints}
use Rattle.survey_core.proofs.evolution.escaped_spaceships.twice_least.Goals as goal

pub returns : goal.returns
returns c = omega (arith, ints)
