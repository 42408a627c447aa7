use Rattle.std.proofs.Common.{◌∙◌, FitsSigned, arith, rules, w32}
use Rattle.std.proofs.lemmas.Int.{ints, to_z-of_z}
use Rattle.plane_core.specs.engine.Directions.{depth_in}
use Rattle.plane_core.specs.engine.Frames.{board_cell}
use Rattle.plane_core.proofs.lemmas.engine.DirectionLemmas.{enough_steps, no_deeper}
use Rattle.plane_core.proofs.lemmas.plane.OrderLemmas.{below_too, none_below, not_both}
use Rattle.plane_core.proofs.engine.board.reach.rows_to_see.Goals as goal

pub returns-then-outermost-deepest-clause-beyond : goal.returns-then-outermost-deepest-clause-beyond
returns-then-outermost-deepest-clause-beyond c =
    let o = c.depth_at-outermost.result in
    let m = c.in-Some.deepest in
    let f : FitsSigned w32 o = search rules in
    let g : FitsSigned w32 m = search rules in
    let low = rw (to_z-of_z w32 o f, to_z-of_z w32 m g) at c.if-outermost-deepest.true in
    no_deeper c.args.at c.args.way c.args.word_column c.args.rows 0 c.args.found m o c.in-Some.is
    (c.depth_at-outermost.ensures
    ∙ (λ t. depth_in c.args.way (board_cell c.args.at c.args.word_column (c.row_inwards-row.ensures.row t) (c.outer_column.ensures.column t))))
    (λ step from to. omega (arith, ints, low))

pub returns-clause-beyond : goal.returns-clause-beyond
returns-clause-beyond c =
    let o = c.depth_at-outermost.result in
    let m = c.in-Some.deepest in
    let f : FitsSigned w32 o = search rules in
    let g : FitsSigned w32 m = search rules in
    let apart = rw (to_z-of_z w32 o f, to_z-of_z w32 m g) at c.abs_diff.ensures in
    no_deeper c.args.at c.args.way c.args.word_column c.args.rows c.min.result c.args.found m o c.in-Some.is
    (c.depth_at-outermost.ensures
    ∙ (λ t. depth_in c.args.way (board_cell c.args.at c.args.word_column (c.row_inwards-row.ensures.row t) (c.outer_column.ensures.column t))))
    (λ step low high. enough_steps o m _ c.abs_diff.result c.min.result step apart c.min.ensures low high)

pub overflow_sub-count : goal.overflow_sub-count
overflow_sub-count c = c.requires.order

pub returns-in_default-clause-beyond : goal.returns-in_default-clause-beyond
returns-in_default-clause-beyond c step past near = absurd (not_both _ _ near past)

pub returns-then-count-eq0-clause-beyond : goal.returns-then-count-eq0-clause-beyond
returns-then-count-eq0-clause-beyond c step past near = absurd (none_below step _ c.if-count-eq0.true near)

pub depth_at-outermost-requires-clause-frame : goal.depth_at-outermost-requires-clause-frame
depth_at-outermost-requires-clause-frame c = c.requires.frame

pub depth_at-outermost-requires-clause-plane : goal.depth_at-outermost-requires-clause-plane
depth_at-outermost-requires-clause-plane c = c.requires.plane

pub depth_at-outermost-requires-clause-word_column : goal.depth_at-outermost-requires-clause-word_column
depth_at-outermost-requires-clause-word_column c = c.requires.word_column

pub depth_at-outermost-requires-clause-row : goal.depth_at-outermost-requires-clause-row
depth_at-outermost-requires-clause-row c = below_too _ _ _ c.row_inwards-row.ensures.high c.requires.end

pub depth_at-outermost-requires-clause-column : goal.depth_at-outermost-requires-clause-column
depth_at-outermost-requires-clause-column c = c.outer_column.ensures.small
