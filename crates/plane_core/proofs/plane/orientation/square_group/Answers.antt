use Rattle.plane_core.proofs.lemmas.plane.OrientationLemmas.{orientations_differ, product_associates, same_is_identity, turning_back, turning_moved, turning_twice}
use Rattle.plane_core.proofs.plane.orientation.square_group.Goals as goal

pub returns-clause-associative : goal.returns-clause-associative
returns-clause-associative c = product_associates

pub returns-clause-identity : goal.returns-clause-identity
returns-clause-identity c = same_is_identity

pub returns-clause-back : goal.returns-clause-back
returns-clause-back c = turning_back

pub returns-clause-different : goal.returns-clause-different
returns-clause-different c = orientations_differ

pub returns-clause-twice : goal.returns-clause-twice
returns-clause-twice c = turning_twice

pub returns-clause-moved : goal.returns-clause-moved
returns-clause-moved c = turning_moved
