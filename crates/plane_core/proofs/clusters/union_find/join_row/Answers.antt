use Rattle.std.proofs.Common.{◌<◌, ◌<ℤ◌, ◌≤◌, ◌≤ℤ◌, ℕ, FitsSigned, arith, rules, w32}
use Rattle.std.proofs.lemmas.Int.{to_z-of_z}
use Rattle.plane_core.specs.clusters.UnionFind.{cell_of}
use Rattle.plane_core.proofs.lemmas.clusters.UnionFindLemmas.{near_linked, not_left_of, row_joined, row_skipped, scanning-more}
use Rattle.plane_core.proofs.clusters.union_find.join_row.Goals.{After-first_from-first, After-first_from-start}
use Rattle.plane_core.proofs.clusters.union_find.join_row.Goals as goal

-- Each call of `first_from` ensures that the cells it skips are left of the column that is passed to it, and that the
-- cell at its result, if the result is in the row, isn't. The column fits into 32 bits, so passing it as an `i32`
-- doesn't change it.
left : (c : After-first_from-first) → (k : ℕ) → c.args.row.from ≤ k → k < c.first_from-first.result → (cell_of c.args.cells.now k).x <ℤ c.args.from.x
left c = let fits : FitsSigned w32 c.args.from.x = search rules in simp to_z-of_z at c.first_from-first.ensures.before

right : (c : After-first_from-first) → c.first_from-first.result < c.args.row.end → c.args.from.x ≤ℤ (cell_of c.args.cells.now c.first_from-first.result).x
right c = let fits : FitsSigned w32 c.args.from.x = search rules in simp to_z-of_z at c.first_from-first.ensures.at

early : (c : After-first_from-start) → (k : ℕ) → c.first_from-first.result ≤ k → k < c.first_from-start.result → (cell_of c.args.cells.now k).x <ℤ c.args.fresh
early c = let fits : FitsSigned w32 c.args.fresh = search rules in simp to_z-of_z at c.first_from-start.ensures.before

pub loop-at-preserved : goal.loop-at-preserved
loop-at-preserved c =
    let cells = c.args.cells.now in
    let at = c.loop-at.at in
    let row = c.requires.row in
    let inside = c.loop-at-test.true in
    let most : (cell_of cells at).x ≤ℤ c.args.to.x = search rules in
    let more : c.first_from-first.result ≤ at = omega (arith, c.first_from-start.ensures.low, c.loop-at.invariant.0) in
    let near = c.requires.near (cell_of cells at) (row.level at (omega (arith, c.first_from-first.ensures.low, more)) inside)
    (not_left_of cells c.args.row c.args.place c.first_from-first.result at c.args.from c.requires.pattern.in_order c.requires.place row
    c.first_from-first.ensures.low more inside (right (goal.at.loop-at-preserved c).After-first_from-first)) most in (
      omega (arith, c.loop-at.invariant.0),
      omega (arith, inside),
      scanning-more cells c.args.parents.now c.loop-at.parents c.join.new.parents c.args.place c.first_from-start.result at c.loop-at.invariant.2
          (c.join.ensures.forest cells c.loop-at.invariant.2.forest
          (near_linked cells at c.args.place (omega (arith, inside, row.few, c.requires.place)) c.requires.place near)) c.join.ensures.keeps
          (λ need. c.join.ensures.joined),
    )

pub returns-else-cells-at-clause-joined : goal.returns-else-cells-at-clause-joined
returns-else-cells-at-clause-joined c =
    let past : c.args.to.x <ℤ (cell_of c.args.cells.now c.loop-at.at).x = search rules in
    row_joined c.args.cells.now c.args.parents.now c.loop-at.parents c.args.place c.args.row c.args.from c.args.to c.args.fresh c.first_from-first.result
    c.first_from-start.result c.loop-at.at c.requires.pattern.in_order c.requires.place c.requires.row c.requires.end c.requires.above
    c.first_from-first.ensures.low c.first_from-first.ensures.high (left (goal.at.returns-else-cells-at-clause-joined c).After-first_from-first)
    c.first_from-start.ensures.low c.first_from-start.ensures.high (early (goal.at.returns-else-cells-at-clause-joined c).After-first_from-start) c.requires.fresh
    c.loop-at.invariant.0 (λ inside. past) c.loop-at.invariant.2

pub returns-after-loop-at-clause-joined : goal.returns-after-loop-at-clause-joined
returns-after-loop-at-clause-joined c =
    row_joined c.args.cells.now c.args.parents.now c.loop-at.parents c.args.place c.args.row c.args.from c.args.to c.args.fresh c.first_from-first.result
    c.first_from-start.result c.loop-at.at c.requires.pattern.in_order c.requires.place c.requires.row c.requires.end c.requires.above
    c.first_from-first.ensures.low c.first_from-first.ensures.high (left (goal.at.returns-after-loop-at-clause-joined c).After-first_from-first)
    c.first_from-start.ensures.low c.first_from-start.ensures.high (early (goal.at.returns-after-loop-at-clause-joined c).After-first_from-start) c.requires.fresh
    c.loop-at.invariant.0 (λ inside. absurd (omega (arith, inside, c.loop-at-test.false))) c.loop-at.invariant.2

pub returns-else-cells-at-clause-row : goal.returns-else-cells-at-clause-row
returns-else-cells-at-clause-row c =
    row_skipped c.args.cells.now c.args.row c.args.place c.first_from-first.result c.args.from c.requires.row c.first_from-first.ensures.low
    c.first_from-first.ensures.high (left (goal.at.returns-else-cells-at-clause-row c).After-first_from-first)

pub returns-after-loop-at-clause-row : goal.returns-after-loop-at-clause-row
returns-after-loop-at-clause-row c =
    row_skipped c.args.cells.now c.args.row c.args.place c.first_from-first.result c.args.from c.requires.row c.first_from-first.ensures.low
    c.first_from-first.ensures.high (left (goal.at.returns-after-loop-at-clause-row c).After-first_from-first)
