use Rattle.survey_core.proofs.lemmas.rest.ApartLemmas.{AreFar}
use Rattle.survey_core.proofs.rest.alone.are_cells_apart.Given as goal

abbrev pub invariant-loop-cell : goal.invariant-loop-cell
invariant-loop-cell l = AreFar l.cell-index l.cells l.others
