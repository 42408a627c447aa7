use Rattle.laws.proofs.PlacedFindings.{findings_moved, findings_of_images, findings_turned}
use Rattle.laws.proofs.surveys.findings_are_kept.Goals as goal

pub returns-clause-moved : goal.returns-clause-moved
returns-clause-moved c = findings_moved

pub returns-clause-images : goal.returns-clause-images
returns-clause-images c = findings_of_images

pub returns-clause-turned : goal.returns-clause-turned
returns-clause-turned c = findings_turned
