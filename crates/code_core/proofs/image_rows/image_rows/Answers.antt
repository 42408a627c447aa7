use Rattle.std.proofs.Common.{◌<◌, ◌∙◌, get_or, length-set, pos, refl, replicate}
use Rattle.std.proofs.lemmas.List.{take_all}
use Rattle.plane_core.proofs.lemmas.engine.WindowRoundLemmas.{default_cell, none_shown, window_at, zeros}
use Rattle.code_core.proofs.ImageRows.{image_put, image_shown, place_low, within_at}
use Rattle.code_core.proofs.image_rows.image_rows.Goals.{After-place_in_image-place}
use Rattle.code_core.proofs.image_rows.image_rows.Goals as goal

-- the column and the row of the cell's image are below 64
low : (c : After-place_in_image-place) → (c.place_in_image-place.result.column < 64) × (c.place_in_image-place.result.row < 64)
low c =
    place_low c.args.orientation c.args.bounds (get_or c.args.cells.now c.loop-cell.cell-index default_cell) c.place_in_image-place.result.column
    c.place_in_image-place.result.row (within_at c.args.cells.now c.args.bounds c.loop-cell.cell-index c.requires.bounds c.loop-cell-test.true)
    c.requires.width c.requires.height c.place_in_image-place.ensures

pub overflow_shl-rows : goal.overflow_shl-rows
overflow_shl-rows c = (low (goal.at.overflow_shl-rows c).After-place_in_image-place).0

pub bounds-rows-row : goal.bounds-rows-row
bounds-rows-row c = (low (goal.at.bounds-rows-row c).After-place_in_image-place).1

pub bounds-rows-row-in-loop-cell : goal.bounds-rows-row-in-loop-cell
bounds-rows-row-in-loop-cell c = (low (goal.at.bounds-rows-row-in-loop-cell c).After-place_in_image-place).1

pub loop-cell-init : goal.loop-cell-init
loop-cell-init c = record { long = refl; shown = none_shown (window_at (pos 0) (pos 0)) (replicate 64 0) (zeros 64) }

pub loop-cell-preserved : goal.loop-cell-preserved
loop-cell-preserved c = record {
  long = length-set c.loop-cell.rows _ _ ∙ c.loop-cell.invariant.long;
  shown = image_put c.args.orientation c.args.bounds c.loop-cell.rows c.args.cells.now c.loop-cell.cell-index c.place_in_image-place.result.column
      c.place_in_image-place.result.row c.loop-cell.invariant.long c.loop-cell-test.true (low (goal.at.loop-cell-preserved c).After-place_in_image-place)
      c.place_in_image-place.ensures c.loop-cell.invariant.shown;
}

pub returns : goal.returns
returns c =
    image_shown c.args.orientation c.args.bounds c.loop-cell.rows c.args.cells.now c.loop-cell.cell-index c.requires.bounds
    (take_all c.loop-cell.cell-index c.args.cells.now c.loop-cell-test.false) c.loop-cell.invariant.shown
