use Rattle.std.proofs.Common.{to_z-of_z, FitsSigned, rules, w32, ◌≡◌, ◌<◌, arith, pos, negsuc, subst}
use Rattle.std.proofs.lemmas.Int.{ints}
use Rattle.plane_core.specs.declared.plane.cell.Cell.{Cell}
use Rattle.plane_core.specs.plane.Cells.{moved_by, on_plane}
use Rattle.plane_core.specs.clusters.UnionFind.{AreRowsAbove, cell_of}
use Rattle.plane_core.proofs.lemmas.plane.CellLemmas.{on_then_near}
use Rattle.plane_core.proofs.lemmas.plane.TransformLemmas.{all_at}
use Rattle.plane_core.proofs.lemmas.clusters.UnionFindLemmas.{JoinsRow, joins_before, joins_more, joins_near, joins_rows, keeps-then, later_rows, near_row}
use Rattle.plane_core.proofs.clusters.union_find.join_all.Goals as goal

pub loop-place-preserved : goal.loop-place-preserved
loop-place-preserved c =
    let cells = c.args.cells.now in
    let place = c.loop-place.place in
    let o = c.requires.pattern.in_order in
    let low = c.loop-place-test.true in
    let old = c.loop-place.parents in
    let a = c.join_before-fresh.new.parents in
    let b = c.join_row-rows.new.parents in
    let d = c.join_row-rows-in-loop-place.new.parents in
    let from_above : c.moved.result ≡ moved_by (negsuc 1) (negsuc 0) (cell_of cells place) = c.moved.ensures in
    let to_above : c.moved-in-loop-place.result ≡ moved_by (pos 2) (negsuc 0) (cell_of cells place) = c.moved-in-loop-place.ensures in
    let from_top : c.moved-in-loop-place-2.result ≡ moved_by (negsuc 1) (negsuc 1) (cell_of cells place) = c.moved-in-loop-place-2.ensures in
    let to_top : c.moved-in-loop-place-3.result ≡ moved_by (pos 2) (negsuc 1) (cell_of cells place) = c.moved-in-loop-place-3.ensures in
    let keeps = keeps-then old a d c.join_before-fresh.ensures.keeps (keeps-then a b d c.join_row-rows.ensures.keeps c.join_row-rows-in-loop-place.ensures.keeps) in
    let joined = joins_rows cells a b d place o low c.join_row-rows.ensures.keeps c.join_row-rows-in-loop-place.ensures.keeps
    (joins_before cells a place c.join_before-fresh.ensures.joined)
    (subst (λ (x : Cell). JoinsRow cells b place x (moved_by (pos 2) (negsuc 0) (cell_of cells place))) from_above
    (subst (λ (x : Cell). JoinsRow cells b place c.moved.result x) to_above c.join_row-rows.ensures.joined))
    (subst (λ (x : Cell). JoinsRow cells d place x (moved_by (pos 2) (negsuc 1) (cell_of cells place))) from_top
    (subst (λ (x : Cell). JoinsRow cells d place c.moved-in-loop-place-2.result x) to_top c.join_row-rows-in-loop-place.ensures.joined)) in (
      omega (arith, c.loop-place.invariant.0),
      c.join_row-rows-in-loop-place.ensures.forest,
      joins_more cells old d place keeps c.loop-place.invariant.2 (joins_near cells old d place keeps c.loop-place.invariant.2 joined),
      subst (AreRowsAbove cells _) (omega arith)
          (later_rows cells c.rows_above-rows.result place c.join_row-rows.result c.join_row-rows-in-loop-place.result c.moved.result
          c.moved-in-loop-place-2.result c.rows_above-rows.ensures from_above from_top c.join_row-rows.ensures.row c.join_row-rows-in-loop-place.ensures.row),
    )

pub returns-clause-joined : goal.returns-clause-joined
returns-clause-joined c j k less low near =
    let few : k < c.loop-place.place = omega (arith, low, c.loop-place-test.false) in c.loop-place.invariant.2 j k less few near

pub moved-requires-clause-near : goal.moved-requires-clause-near
moved-requires-clause-near c = on_then_near _ (all_at on_plane c.args.cells.now c.loop-place.place _ c.loop-place-test.true c.requires.pattern.on_plane)

pub moved-requires-in-loop-place-clause-near : goal.moved-requires-in-loop-place-clause-near
moved-requires-in-loop-place-clause-near c = on_then_near _ (all_at on_plane c.args.cells.now c.loop-place.place _ c.loop-place-test.true c.requires.pattern.on_plane)

pub moved-requires-in-loop-place-2-clause-near : goal.moved-requires-in-loop-place-2-clause-near
moved-requires-in-loop-place-2-clause-near c = on_then_near _ (all_at on_plane c.args.cells.now c.loop-place.place _ c.loop-place-test.true c.requires.pattern.on_plane)

pub moved-requires-in-loop-place-3-clause-near : goal.moved-requires-in-loop-place-3-clause-near
moved-requires-in-loop-place-3-clause-near c = on_then_near _ (all_at on_plane c.args.cells.now c.loop-place.place _ c.loop-place-test.true c.requires.pattern.on_plane)

pub join_row-rows-requires-clause-near : goal.join_row-rows-requires-clause-near
join_row-rows-requires-clause-near c d = near_row d _ _ _ (negsuc 0) c.moved.ensures c.moved-in-loop-place.ensures (omega (arith, ints)) (omega (arith, ints))

pub join_row-rows-requires-in-loop-place-clause-near : goal.join_row-rows-requires-in-loop-place-clause-near
join_row-rows-requires-in-loop-place-clause-near c d =
    near_row d _ _ _ (negsuc 1) c.moved-in-loop-place-2.ensures c.moved-in-loop-place-3.ensures (omega (arith, ints)) (omega (arith, ints))

pub join_row-rows-requires-clause-fresh : goal.join_row-rows-requires-clause-fresh
join_row-rows-requires-clause-fresh c =
    let fits : FitsSigned w32 c.join_before-fresh.result = search rules in simp to_z-of_z c.join_before-fresh.ensures.fresh

pub join_row-rows-requires-in-loop-place-clause-fresh : goal.join_row-rows-requires-in-loop-place-clause-fresh
join_row-rows-requires-in-loop-place-clause-fresh c =
    let fits : FitsSigned w32 c.join_before-fresh.result = search rules in simp to_z-of_z c.join_before-fresh.ensures.fresh
