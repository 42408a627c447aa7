use Rattle.std.proofs.Common.{◌≡◌, ◌∙◌, sym, ap, map, true}
use Rattle.std.proofs.lemmas.Result.{err_from_is_err_and}
use Rattle.std.specs.List.{list_all}
use Rattle.plane_core.specs.plane.Bounds.{box_of}
use Rattle.plane_core.specs.plane.Cells.{on_plane, set_of}
use Rattle.plane_core.specs.plane.Orientations.{corner_transform, turned, turned_cell}
use Rattle.plane_core.proofs.lemmas.plane.TurnLemmas.{placed-turned, placed-plane, is_pattern-turned}
use Rattle.plane_core.proofs.plane.pattern.Pattern.turn.Goals.{After-in_order, In-Some}
use Rattle.plane_core.proofs.plane.pattern.Pattern.turn.Goals as goal

-- the transform moves the image to the corner
at_corner : (c : In-Some) → c.in-Some.transform ≡ corner_transform c.args.orientation (box_of (map (turned_cell c.args.orientation) c.args.self.now))
at_corner c = rw (c.in-Some.is, c.cells-cells.ensures.cells) at c.to_corner.ensures.transform

-- the image is on the plane
on : (c : In-Some) → list_all on_plane (turned c.args.orientation c.args.self.now) ≡ true
on c = let told = rw (c.in-Some.is, c.cells-cells.ensures.cells) at c.to_corner.ensures.plane in sym told

-- the transformed cells, put in order, are the turned pattern
placed : (c : After-in_order) → c.in_order.result.items ≡ turned c.args.orientation c.args.self.now
placed c =
    c.in_order.ensures
    ∙ ap set_of (rw (at_corner (goal.at.from_ordered-requires c).In-Some, c.cells-cells.ensures.cells) at c.in_ok-placed.ensures)
    ∙ placed-turned c.args.orientation c.args.self.now

pub transform_all-requires-clause-landed : goal.transform_all-requires-clause-landed
transform_all-requires-clause-landed c =
    let here = (goal.at.transform_all-requires-clause-landed c).In-Some in
    rw (at_corner here, c.cells-cells.ensures.cells) (placed-plane c.args.orientation c.args.self.now ∙ on here)

pub returns-in_default-clause-refused : goal.returns-in_default-clause-refused
returns-in_default-clause-refused c = let told = rw (c.in_default.is, c.cells-cells.ensures.cells) at c.to_corner.ensures.plane in sym told

pub returns-in_err-placed-clause-refused : goal.returns-in_err-placed-clause-refused
returns-in_err-placed-clause-refused c =
    let told = err_from_is_err_and c.from_residual.result c.from_residual.ensures.1 in
    rw (told.1, told.2) (on (goal.at.returns-in_err-placed-clause-refused c).In-Some)

pub from_ordered-requires : goal.from_ordered-requires
from_ordered-requires c =
    rw (placed c) (is_pattern-turned c.args.orientation c.args.self.now (on (goal.at.from_ordered-requires c).In-Some))

pub returns-clause-turned : goal.returns-clause-turned
returns-clause-turned c = c.from_ordered.ensures ∙ placed (goal.at.returns-clause-turned c).After-in_order

pub returns-clause-plane : goal.returns-clause-plane
returns-clause-plane c = on (goal.at.returns-clause-plane c).In-Some
