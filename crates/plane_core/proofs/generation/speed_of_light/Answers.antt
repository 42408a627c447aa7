use Rattle.plane_core.proofs.lemmas.plane.PartLemmas.{near-after}
use Rattle.plane_core.proofs.lemmas.plane.SpeedLemmas.{speed_from_origin, speed_of_light_law}
use Rattle.plane_core.proofs.generation.speed_of_light.Goals as goal

pub returns-clause-boxes : goal.returns-clause-boxes
returns-clause-boxes c = speed_of_light_law

pub returns-clause-origin : goal.returns-clause-origin
returns-clause-origin c = speed_from_origin

pub returns-clause-cells : goal.returns-clause-cells
returns-clause-cells c = near-after
