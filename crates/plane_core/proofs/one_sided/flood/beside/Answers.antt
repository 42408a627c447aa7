use Rattle.plane_core.proofs.lemmas.one_sided.FloodLemmas.{all_beside, from_beside}
use Rattle.plane_core.proofs.one_sided.flood.beside.Goals as goal

pub returns-clause-from : goal.returns-clause-from
returns-clause-from c i one = from_beside c.args.word i c.ranges.word.fits one

pub returns-clause-all : goal.returns-clause-all
returns-clause-all c i j low near one = all_beside c.args.word i j low near one
