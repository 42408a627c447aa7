use Rattle.plane_core.proofs.lemmas.plane.CommuteLemmas.{next-shifted, next-image}
use Rattle.plane_core.proofs.generation.isotropy.Goals as goal

pub returns-clause-moved : goal.returns-clause-moved
returns-clause-moved c = next-shifted

pub returns-clause-turned : goal.returns-clause-turned
returns-clause-turned c = next-image
