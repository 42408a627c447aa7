use Rattle.code_core.proofs.MovedCodes.{codes_moved}
use Rattle.laws.proofs.LaterCodes.{codes_later}
use Rattle.laws.proofs.TurnedCodes.{codes_turned}
use Rattle.laws.proofs.codes.codes_are_of_objects.Goals as goal

pub returns-clause-moved : goal.returns-clause-moved
returns-clause-moved c = codes_moved

pub returns-clause-turned : goal.returns-clause-turned
returns-clause-turned c = codes_turned

pub returns-clause-later : goal.returns-clause-later
returns-clause-later c = codes_later
