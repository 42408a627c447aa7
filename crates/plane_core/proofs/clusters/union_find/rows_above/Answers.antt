use Rattle.std.proofs.Common.{◌≡◌, ◌≢◌, ◌-◌, ◌<◌, ◌≤◌, ◌+ℤ◌, ◌<ℤ◌, ◌≤ℤ◌, ℕ, ℤ, FitsSigned, ap, negsuc, rules, subst, w32}
use Rattle.std.proofs.lemmas.Int.{to_z-of_z}
use Rattle.plane_core.specs.declared.plane.cell.Cell.{Cell}
use Rattle.plane_core.specs.plane.Cells.{on_plane}
use Rattle.plane_core.specs.clusters.UnionFind.{cell_of}
use Rattle.plane_core.proofs.lemmas.plane.CellLemmas.{on_then_near}
use Rattle.plane_core.proofs.lemmas.plane.TransformLemmas.{all_at}
use Rattle.plane_core.proofs.lemmas.clusters.UnionFindLemmas.{new_rows, same_rows}
use Rattle.plane_core.proofs.clusters.union_find.rows_above.Goals as goal

pub returns-then-cells-place : goal.returns-then-cells-place
returns-then-cells-place c =
    let level : (cell_of c.args.cells.now (c.args.place - 1)).y ≡ (cell_of c.args.cells.now c.args.place).y = search rules in
    same_rows c.args.cells.now c.args.rows c.args.place c.requires.pattern.in_order c.requires.place.0 c.requires.place.1 level c.requires.rows

pub moved-requires-clause-near : goal.moved-requires-clause-near
moved-requires-clause-near c = on_then_near _ (all_at on_plane c.args.cells.now c.args.place _ c.requires.place.1 c.requires.pattern.on_plane)

pub moved-requires-2-clause-near : goal.moved-requires-2-clause-near
moved-requires-2-clause-near c = on_then_near _ (all_at on_plane c.args.cells.now c.args.place _ c.requires.place.1 c.requires.pattern.on_plane)

pub returns : goal.returns
returns c =
    let cells = c.args.cells.now in
    let new = cell_of cells c.args.place in
    let apart : (cell_of cells (c.args.place - 1)).y ≢ new.y = search rules in
    let top : FitsSigned w32 c.moved.result.y = search rules in
    let above : FitsSigned w32 c.moved-2.result.y = search rules in
    let top_is : c.moved.result.y ≡ (new.y +ℤ negsuc 1) = ap (λ (d : Cell). d.y) c.moved.ensures in
    let above_is : c.moved-2.result.y ≡ (new.y +ℤ negsuc 0) = ap (λ (d : Cell). d.y) c.moved-2.ensures in
    let before_begin : (k : ℕ) → c.args.rows.begin ≤ k → k < c.first_from-begin.result → (cell_of cells k).y <ℤ c.moved.result.y =
    simp to_z-of_z at c.first_from-begin.ensures.before in
    let at_begin : c.first_from-begin.result < c.args.place → c.moved.result.y ≤ℤ (cell_of cells c.first_from-begin.result).y =
    simp to_z-of_z at c.first_from-begin.ensures.at in
    let before_end : (k : ℕ) → c.first_from-begin.result ≤ k → k < c.first_from-end.result → (cell_of cells k).y <ℤ c.moved-2.result.y =
    simp to_z-of_z at c.first_from-end.ensures.before in
    let at_end : c.first_from-end.result < c.args.place → c.moved-2.result.y ≤ℤ (cell_of cells c.first_from-end.result).y =
    simp to_z-of_z at c.first_from-end.ensures.at in
    new_rows cells c.args.rows c.args.place c.first_from-begin.result c.first_from-end.result c.requires.pattern.in_order c.requires.place.0
    c.requires.place.1 apart c.requires.rows c.first_from-begin.ensures.low c.first_from-begin.ensures.high
    (λ k least less. subst (λ (y : ℤ). (cell_of cells k).y <ℤ y) top_is (before_begin k least less))
    (λ less. subst (λ (y : ℤ). y ≤ℤ (cell_of cells c.first_from-begin.result).y) top_is (at_begin less)) c.first_from-end.ensures.low
    c.first_from-end.ensures.high (λ k least less. subst (λ (y : ℤ). (cell_of cells k).y <ℤ y) above_is (before_end k least less))
    (λ less. subst (λ (y : ℤ). y ≤ℤ (cell_of cells c.first_from-end.result).y) above_is (at_end less))
