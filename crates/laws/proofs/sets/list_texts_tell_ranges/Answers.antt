use Rattle.ranges.proofs.ListLemmas.{one_list}
use Rattle.laws.proofs.FaultPlaces.{one_fault}
use Rattle.laws.proofs.sets.list_texts_tell_ranges.Goals as goal

pub returns-clause-one : goal.returns-clause-one
returns-clause-one c = one_list

pub returns-clause-place : goal.returns-clause-place
returns-clause-place c = one_fault
