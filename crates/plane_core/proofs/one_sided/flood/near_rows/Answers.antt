use Rattle.plane_core.proofs.lemmas.one_sided.FloodLemmas.{all_five, from_five}
use Rattle.plane_core.proofs.one_sided.flood.near_rows.Goals as goal

pub returns-clause-from : goal.returns-clause-from
returns-clause-from c i one = from_five c.args.flood.now c.args.r i c.requires.low one

pub returns-clause-all : goal.returns-clause-all
returns-clause-all c q i near one = all_five c.args.flood.now c.args.r q i c.requires.low near one
