use Rattle.plane_core.proofs.lemmas.engine.DirectionLemmas.{far_left, far_right, first_one, last_one}
use Rattle.plane_core.proofs.engine.direction.Direction.farthest.Goals as goal

pub returns-then-self-clause-one : goal.returns-then-self-clause-one
returns-then-self-clause-one c = last_one c.args.word c.requires c.ranges.word.fits

pub returns-then-self-clause-far : goal.returns-then-self-clause-far
returns-then-self-clause-far c = λ i one. far_right c.args.self.right c.args.word i c.if-self.true c.requires c.ranges.word.fits one

pub returns-else-self-clause-one : goal.returns-else-self-clause-one
returns-else-self-clause-one c = first_one c.args.word c.requires c.ranges.word.fits

pub returns-else-self-clause-far : goal.returns-else-self-clause-far
returns-else-self-clause-far c = λ i one. far_left c.args.self.right c.args.word i c.if-self.false c.requires c.ranges.word.fits one
