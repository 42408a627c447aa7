use Rattle.std.proofs.Common.{◌∙◌, refl, sym}
use Rattle.haul_core.proofs.FieldLemmas.{cut_found, cut_nowhere}
use Rattle.haul_core.proofs.report.claim.read_field.cut_at.Goals as goal

pub returns-in-Some : goal.returns-in-Some
returns-in-Some c = cut_found c.args.byte c.args.text.now c.in-Some.place (sym c.in-Some.is ∙ c.place_of.ensures)

pub returns-in-None : goal.returns-in-None
returns-in-None c = (refl, cut_nowhere c.args.byte c.args.text.now (sym c.in-None.is ∙ c.place_of.ensures))
