use Rattle.std.proofs.Common.{◌≡◌, ◌<◌, ◌≤◌, ◌-◌, ◌+ℤ◌, ◌∙◌, ℤ, FitsSigned, ap, arith, length, negsuc, of_z, pos, rules, subst, sym, w32}
use borrow.Author.Tests.{leb-true}
use Rattle.std.proofs.lemmas.Bool.{false≢true, le-leb}
use Rattle.std.proofs.lemmas.Int.{to_z-of_z}
use Rattle.plane_core.specs.declared.plane.cell.Cell.{Cell}
use Rattle.plane_core.specs.plane.Cells.{king_distance, on_plane}
use Rattle.plane_core.specs.clusters.UnionFind.{IsFresh, cell_of}
use Rattle.plane_core.proofs.lemmas.plane.CellLemmas.{on_then_near, x_passed}
use Rattle.plane_core.proofs.lemmas.plane.TransformLemmas.{all_at}
use Rattle.plane_core.proofs.lemmas.clusters.UnionFindLemmas.{bridged, fresh_first, near_linked}
use Rattle.plane_core.proofs.clusters.union_find.join_before.Goals.{then-before-cell-via-then-before-cell, then-before-cell-via-else-before-cell+then-not-are_near}
use Rattle.plane_core.proofs.clusters.union_find.join_before.Goals as goal

pub are_near-requires-clause-one : goal.are_near-requires-clause-one
are_near-requires-clause-one c =
    let low : c.args.place - 1 < length c.args.cells.now = omega (arith, c.requires.place.1) in
    all_at on_plane c.args.cells.now (c.args.place - 1) _ low c.requires.pattern.on_plane

pub are_near-requires-clause-other : goal.are_near-requires-clause-other
are_near-requires-clause-other c = all_at on_plane c.args.cells.now c.args.place _ c.requires.place.1 c.requires.pattern.on_plane

pub moved-requires-clause-near : goal.moved-requires-clause-near
moved-requires-clause-near c = on_then_near _ (all_at on_plane c.args.cells.now c.args.place _ c.requires.place.1 c.requires.pattern.on_plane)

pub along-requires-clause-from : goal.along-requires-clause-from
along-requires-clause-from c =
    let low : c.args.place - 1 < length c.args.cells.now = omega (arith, c.requires.place.1) in
    x_passed (cell_of c.args.cells.now (c.args.place - 1)) (search rules) (all_at on_plane c.args.cells.now (c.args.place - 1) _ low c.requires.pattern.on_plane)

pub returns-clause-forest : goal.returns-clause-forest
returns-clause-forest c =
    let near : king_distance (cell_of c.args.cells.now (c.args.place - 1)) (cell_of c.args.cells.now c.args.place) ≤ 2 = leb-true _ 2 (sym c.if-not-are_near.ensures) in
    c.join.ensures.forest c.args.cells.now c.requires.forest
    (near_linked c.args.cells.now (c.args.place - 1) c.args.place (omega (arith, c.requires.place.1)) c.requires.place.1 near)

pub returns-clause-fresh : goal.returns-clause-fresh
returns-clause-fresh c =
    let cells = c.args.cells.now in
    let place = c.args.place in
    let some : 1 ≤ place = c.requires.place.0 in
    let row : (cell_of cells (place - 1)).y ≡ (cell_of cells place).y = search rules in
    let near : king_distance (cell_of cells (place - 1)) (cell_of cells place) ≤ 2 = leb-true _ 2 (sym c.if-not-are_near.ensures) in
    let fits : FitsSigned w32 c.along.result = record { sfits = c.along.type_inv } in
    let before : FitsSigned w32 (cell_of cells (place - 1)).x = search rules in
    let end : c.along.result ≡ (cell_of cells (place - 1)).x +ℤ pos 3 = c.along.ensures ∙ ap (λ x. x +ℤ pos 3) (to_z-of_z w32 (cell_of cells (place - 1)).x before) in
    let fresh : IsFresh cells c.along.result place =
    subst (λ (x : ℤ). IsFresh cells x place) (sym end) (bridged cells place some c.requires.pattern.in_order c.requires.place.1 row near) in
    rw (to_z-of_z w32 c.along.result fits) fresh

pub returns-then-before-cell-clause-joined : goal.returns-then-before-cell-clause-joined
returns-then-before-cell-clause-joined c row need = elim c.then-before-cell.branch [
  | then-before-cell-via-then-before-cell w ↦ absurd (w.if-before-cell.true (ap (of_z w32) row))
  | then-before-cell-via-else-before-cell+then-not-are_near w ↦ absurd (false≢true (w.if-not-are_near.ensures ∙ le-leb _ 2 need.near))
]

pub returns-then-before-cell-clause-fresh : goal.returns-then-before-cell-clause-fresh
returns-then-before-cell-clause-fresh c =
    let fits : FitsSigned w32 c.moved.result.x = search rules in
    let first : c.moved.result.x ≡ ((cell_of c.args.cells.now c.args.place).x +ℤ negsuc 1) = ap (λ (d : Cell). d.x) c.moved.ensures in
    rw (to_z-of_z w32 c.moved.result.x fits) (fresh_first c.args.cells.now c.args.place c.moved.result.x first)

pub returns-clause-joined : goal.returns-clause-joined
returns-clause-joined c _ _ = c.join.ensures.joined

pub returns-then-before-cell-clause-keeps : goal.returns-then-before-cell-clause-keeps
returns-then-before-cell-clause-keeps c label labels = labels
