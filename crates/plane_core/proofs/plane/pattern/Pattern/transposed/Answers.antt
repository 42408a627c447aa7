use Rattle.std.proofs.Common.{◌≡◌, ◌∙◌, List, ap, subst, sym, true}
use Rattle.std.specs.List.{list_all}
use Rattle.plane_core.specs.declared.plane.cell.Cell.{Cell}
use Rattle.plane_core.specs.declared.plane.orientation.Orientation.TheVariants.{Diagonal}
use Rattle.plane_core.specs.plane.Cells.{IsPattern, on_plane, set_of}
use Rattle.plane_core.specs.plane.Orientations.{image}
use Rattle.plane_core.proofs.lemmas.plane.CutLemmas.{is_pattern-image, landed_image, landed_on_plane}
use Rattle.plane_core.proofs.plane.pattern.Pattern.transposed.Goals.{After-in_order}
use Rattle.plane_core.proofs.plane.pattern.Pattern.transposed.Goals as goal

pub transform_all-requires-clause-landed : goal.transform_all-requires-clause-landed
transform_all-requires-clause-landed c =
    landed_on_plane _ (subst (λ (cells : List Cell). list_all on_plane cells ≡ true) (sym c.cells.ensures.cells) c.cells.ensures.pattern.on_plane)

turned : (c : After-in_order) → c.in_order.result.items ≡ image Diagonal c.args.self.now
turned c = c.in_order.ensures ∙ ap set_of c.in_ok-placed.ensures ∙ landed_image c.cells.result.now ∙ ap (image Diagonal) c.cells.ensures.cells

pub from_ordered-requires : goal.from_ordered-requires
from_ordered-requires c = subst IsPattern (sym (turned c)) (is_pattern-image c.args.self.now c.cells.ensures.pattern.on_plane)

pub returns-clause-turned : goal.returns-clause-turned
returns-clause-turned c = c.from_ordered.ensures ∙ turned (goal.at.returns-clause-turned c).After-in_order
