use Rattle.std.proofs.lemmas.Slice.Eq.{slice_eq-Decides}
use Rattle.survey_core.proofs.lemmas.PartitionLemmas.{cell_decides}
use Rattle.survey_core.proofs.far_from_edge.are_same.Goals as goal

pub returns : goal.returns
returns c = slice_eq-Decides cell_decides c.args.one.now c.args.other.now c.eq.result c.eq.ensures
