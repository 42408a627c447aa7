use Rattle.std.proofs.Common.{get_or, rules, ◌∙◌, length-set, refl, replicate, subst}
use Rattle.std.proofs.lemmas.List.{take_all}
use Rattle.plane_core.proofs.lemmas.engine.WindowRoundLemmas.{apart_across, apart_down, default_cell, in_rows, inside_at, low_across, low_down, spot_of, none_shown, put_shown, shown_taken, zeros}
use Rattle.plane_core.proofs.engine.lone_window.rows_of.Goals as goal
use Rattle.plane_core.proofs.lemmas.Between.{ShowsRows}

pub overflow_sub-across : goal.overflow_sub-across
overflow_sub-across c =
    (apart_across c.args.origin (get_or c.args.cells.now c.loop-cell.cell-index default_cell) (search rules) (search rules)
    (inside_at c.args.origin c.args.cells.now c.loop-cell.cell-index c.requires.inside c.loop-cell-test.true)).fits

pub overflow_cast-across : goal.overflow_cast-across
overflow_cast-across c =
    (apart_across c.args.origin (get_or c.args.cells.now c.loop-cell.cell-index default_cell) (search rules) (search rules)
    (inside_at c.args.origin c.args.cells.now c.loop-cell.cell-index c.requires.inside c.loop-cell-test.true)).counts

pub overflow_sub-down : goal.overflow_sub-down
overflow_sub-down c =
    (apart_down c.args.origin (get_or c.args.cells.now c.loop-cell.cell-index default_cell) (search rules) (search rules)
    (inside_at c.args.origin c.args.cells.now c.loop-cell.cell-index c.requires.inside c.loop-cell-test.true)).fits

pub overflow_cast-down : goal.overflow_cast-down
overflow_cast-down c =
    (apart_down c.args.origin (get_or c.args.cells.now c.loop-cell.cell-index default_cell) (search rules) (search rules)
    (inside_at c.args.origin c.args.cells.now c.loop-cell.cell-index c.requires.inside c.loop-cell-test.true)).counts

pub overflow_shl-rows : goal.overflow_shl-rows
overflow_shl-rows c =
    low_across c.args.origin (get_or c.args.cells.now c.loop-cell.cell-index default_cell) (search rules) (search rules)
    (inside_at c.args.origin c.args.cells.now c.loop-cell.cell-index c.requires.inside c.loop-cell-test.true)

pub bounds-rows-down : goal.bounds-rows-down
bounds-rows-down c =
    low_down c.args.origin (get_or c.args.cells.now c.loop-cell.cell-index default_cell) (search rules) (search rules)
    (inside_at c.args.origin c.args.cells.now c.loop-cell.cell-index c.requires.inside c.loop-cell-test.true)

pub bounds-rows-down-in-loop-cell : goal.bounds-rows-down-in-loop-cell
bounds-rows-down-in-loop-cell c =
    low_down c.args.origin (get_or c.args.cells.now c.loop-cell.cell-index default_cell) (search rules) (search rules)
    (inside_at c.args.origin c.args.cells.now c.loop-cell.cell-index c.requires.inside c.loop-cell-test.true)

pub loop-cell-init : goal.loop-cell-init
loop-cell-init c = record { long = refl; shown = none_shown c.args.origin (replicate 64 0) (zeros 64) }

pub loop-cell-preserved : goal.loop-cell-preserved
loop-cell-preserved c =
    let origin = c.args.origin in
    let cell = get_or c.args.cells.now c.loop-cell.cell-index default_cell in
    let low = inside_at c.args.origin c.args.cells.now c.loop-cell.cell-index c.requires.inside c.loop-cell-test.true in
    record {
      long = length-set c.loop-cell.rows _ _ ∙ c.loop-cell.invariant.long;
      shown = shown_taken origin _ c.args.cells.now c.loop-cell.cell-index default_cell c.loop-cell-test.true
          (put_shown origin c.loop-cell.rows _ cell _ _ (spot_of origin cell (search rules) (search rules) (search rules) (search rules) low)
          (low_across origin cell (search rules) (search rules) low)
          (in_rows _ _ c.loop-cell.invariant.long (low_down origin cell (search rules) (search rules) low)) c.loop-cell.invariant.shown);
    }

pub returns : goal.returns
returns c =
    let cells = c.args.cells.now in
    record {
      in_order = c.requires.order;
      inside = c.requires.inside;
      shown = subst (ShowsRows c.args.origin c.loop-cell.rows) (take_all c.loop-cell.cell-index cells c.loop-cell-test.false) c.loop-cell.invariant.shown;
    }
