use Rattle.std.proofs.Common.{sym, ◌∙◌, ap, not, ◌≡◌, List, None, position}
use Rattle.std.proofs.lemmas.Iterator.Adapters.{position_from-zero}
use Rattle.plane_core.specs.declared.plane.cell.Cell.{Cell}
use Rattle.plane_core.specs.plane.Cells.{has, off_plane, set_of}
use Rattle.plane_core.proofs.lemmas.plane.SetLemmas.{has-set_of}
use Rattle.plane_core.proofs.lemmas.plane.SearchLemmas.{is_pattern-set_of, position-further, position-here, position-past}
use Rattle.plane_core.proofs.plane.pattern.Pattern.from_cells.Goals as goal
use Rattle.plane_core.proofs.plane.pattern.Pattern.from_cells.Goals.{After-loop-index}

pub loop-index-init : goal.loop-index-init
loop-index-init c = sym (position_from-zero off_plane c.args.cells.now)

pub loop-index-preserved : goal.loop-index-preserved
loop-index-preserved c =
    sym (position-further off_plane c.args.cells.now c.loop-index.index _ c.loop-index-test.true (ap not (sym c.if-not-is_on_plane.ensures)))
    ∙ c.loop-index.invariant

pub returns-then-not-is_on_plane-clause-refused : goal.returns-then-not-is_on_plane-clause-refused
returns-then-not-is_on_plane-clause-refused c =
    sym c.loop-index.invariant
    ∙ position-here off_plane c.args.cells.now c.loop-index.index _ c.loop-index-test.true (ap not (sym c.if-not-is_on_plane.ensures))

-- after the loop, no cell is off the plane
none_off : (c : After-loop-index) → position off_plane c.args.cells.now ≡ None
none_off c = sym c.loop-index.invariant ∙ position-past off_plane c.args.cells.now c.loop-index.index c.loop-index-test.false

pub invariant_of-result : goal.invariant_of-result
invariant_of-result c =
    rw (c.in_order.ensures, c.in_ok-cells.ensures.items) (is_pattern-set_of c.args.cells.now (none_off (goal.at.invariant_of-result c).After-loop-index))

pub returns-clause-members : goal.returns-clause-members
returns-clause-members c = λ x.
    ap (λ (cs : List Cell). has cs x) (c.in_order.ensures ∙ ap set_of c.in_ok-cells.ensures.items) ∙ has-set_of c.args.cells.now x

pub returns-clause-plane : goal.returns-clause-plane
returns-clause-plane c = none_off (goal.at.returns-clause-plane c).After-loop-index
