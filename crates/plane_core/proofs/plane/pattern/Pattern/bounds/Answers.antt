use Rattle.std.proofs.Common.{◌≡◌, ◌∙◌, Some, ap, sym}
use Rattle.std.proofs.lemmas.List.{take_all}
use Rattle.plane_core.specs.plane.Bounds.{box_of, grown}
use Rattle.plane_core.proofs.lemmas.plane.BoundsLemmas.{box_more, box_of-none, box_of-least}
use Rattle.plane_core.proofs.plane.pattern.Pattern.bounds.Goals.{After-loop-cell}
use Rattle.plane_core.proofs.plane.pattern.Pattern.bounds.Goals as goal

pub loop-cell-preserved : goal.loop-cell-preserved
loop-cell-preserved c =
    ap Some (c.grown.ensures ∙ ap (grown _) c.loop-cell.invariant)
    ∙ sym (box_more c.cells-cell-items.result.now c.loop-cell.cell-index _ c.loop-cell-test.true)

-- after the loop, `bounds` is the box of all cells
all : (c : After-loop-cell) → c.loop-cell.bounds ≡ box_of c.args.self.now
all c = c.loop-cell.invariant ∙ ap box_of (take_all c.loop-cell.cell-index c.cells-cell-items.result.now c.loop-cell-test.false ∙ c.cells-cell-items.ensures.cells)

pub returns-clause-bounds : goal.returns-clause-bounds
returns-clause-bounds c = all c

pub returns-clause-none : goal.returns-clause-none
returns-clause-none c = rw (all c) (box_of-none c.args.self.now)

pub returns-clause-least : goal.returns-clause-least
returns-clause-least c = rw (all c) (box_of-least c.args.self.now)
