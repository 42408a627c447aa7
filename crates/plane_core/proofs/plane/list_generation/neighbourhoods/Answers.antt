use Rattle.std.proofs.Common.{◌∙◌, ◌++◌, [], ap, sym, take}
use Rattle.std.specs.List.{flat_map}
use Rattle.std.proofs.lemmas.List.{flat_map_more, take_all, take_more}
use Rattle.plane_core.specs.plane.Cells.{on_plane}
use Rattle.plane_core.specs.plane.Generations.{neighbourhood}
use Rattle.plane_core.proofs.lemmas.plane.CellLemmas.{on_then_near}
use Rattle.plane_core.proofs.lemmas.plane.TransformLemmas.{all_at}
use Rattle.plane_core.proofs.plane.list_generation.neighbourhoods.Goals as goal

pub neighbourhood-requires : goal.neighbourhood-requires
neighbourhood-requires c = on_then_near _ (all_at on_plane c.args.cells.now c.loop-cell.cell-index _ c.loop-cell-test.true c.requires)

pub loop-cell-preserved : goal.loop-cell-preserved
loop-cell-preserved c =
    c.in_ok-extend_from_slice.ensures.items ∙ (λ i. c.loop-cell.invariant i ++ c.neighbourhood.ensures i)
    ∙ flat_map_more neighbourhood [] (take c.loop-cell.cell-index c.args.cells.now) _
    ∙ ap (flat_map neighbourhood) (sym (take_more c.args.cells.now c.loop-cell.cell-index _ c.loop-cell-test.true))

pub returns : goal.returns
returns c = c.loop-cell.invariant ∙ ap (flat_map neighbourhood) (take_all c.loop-cell.cell-index c.args.cells.now c.loop-cell-test.false)
