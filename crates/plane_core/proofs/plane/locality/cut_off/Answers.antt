use Rattle.plane_core.proofs.lemmas.plane.LocalityLemmas.{right_inside, sees_no_further}
use Rattle.plane_core.proofs.plane.locality.cut_off.Goals as goal

pub returns-clause-sees : goal.returns-clause-sees
returns-clause-sees c = sees_no_further

pub returns-clause-inside : goal.returns-clause-inside
returns-clause-inside c = right_inside
