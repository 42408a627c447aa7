use Rattle.std.proofs.Common.{◌+◌, ◌-◌, ◌<◌, ◌≤◌, arith, subst, ℕ}
use Rattle.plane_core.specs.engine.Directions.{IsSeen}
use Rattle.plane_core.specs.engine.OnBoard.{cells_on}
use Rattle.plane_core.specs.plane.Without.{without}
use Rattle.plane_core.proofs.lemmas.engine.DirectionLemmas.{goes_deeper, goes_on, word_column_seen, rows_seen}
use Rattle.plane_core.proofs.lemmas.plane.OrderLemmas.{below_too}
use Rattle.plane_core.proofs.engine.board.reach.deepest_in_word_column.Goals as goal

nothing : (n : ℕ) → 0 ≤ n
nothing n = omega arith

none_before : (n : ℕ) → n < 0 → ⊥
none_before n low = omega (arith, low)

-- the number of steps that are left falls: if `next` isn't before `step`, fewer of the `count` steps are after `next`
-- than are at `step` or after it
falls_past : (step next count : ℕ) {end : ℕ} → next < end → step ≤ next → end ≤ count → count - (next + 1) < count - step
falls_past step next count inside later most = omega (arith, inside, later, most)

pub returns-then-step-end-clause-seen : goal.returns-then-step-end-clause-seen
returns-then-step-end-clause-seen c =
    word_column_seen c.args.at c.args.way c.args.words.now c.args.gone.now c.args.word_column c.args.rows c.loop-step.step c.next_live-step.result
    c.rows_to_see-end.result c.loop-step.deepest c.requires.word_column c.requires.end c.if-step-end.true c.loop-step.invariant.seen
    c.next_live-step.ensures.dead c.rows_to_see-end.ensures.beyond

pub loop-step-preserved : goal.loop-step-preserved
loop-step-preserved c =
    let S = without (cells_on c.args.at c.args.words.now) c.args.gone.now in
    let later = c.deepest_in_row-deepest.result in
    record {
      most = omega arith;
      deeper = goes_deeper c.args.way S c.args.found c.loop-step.deepest later c.loop-step.invariant.deeper c.deepest_in_row-deepest.ensures.deeper;
      seen = rows_seen c.args.at c.args.way c.args.words.now c.args.gone.now c.args.word_column c.args.rows c.loop-step.step c.next_live-step.result
          c.loop-step.deepest later c.requires.word_column c.requires.end (omega arith) c.loop-step.invariant.seen c.next_live-step.ensures.dead
          c.deepest_in_row-deepest.ensures.deeper
          (subst (λ (row : ℕ). IsSeen c.args.at c.args.way S c.args.word_column row later) c.row_inwards-row.ensures.row
          c.deepest_in_row-deepest.ensures.seen);
    }

pub rows_to_see-end-requires-clause-frame : goal.rows_to_see-end-requires-clause-frame
rows_to_see-end-requires-clause-frame c = c.requires.frame

pub rows_to_see-end-requires-clause-plane : goal.rows_to_see-end-requires-clause-plane
rows_to_see-end-requires-clause-plane c = c.requires.plane

pub rows_to_see-end-requires-clause-word_column : goal.rows_to_see-end-requires-clause-word_column
rows_to_see-end-requires-clause-word_column c = c.requires.word_column

pub rows_to_see-end-requires-clause-order : goal.rows_to_see-end-requires-clause-order
rows_to_see-end-requires-clause-order c = c.requires.order

pub rows_to_see-end-requires-clause-end : goal.rows_to_see-end-requires-clause-end
rows_to_see-end-requires-clause-end c = c.requires.end

pub next_live-step-requires-clause-frame : goal.next_live-step-requires-clause-frame
next_live-step-requires-clause-frame c = c.requires.frame

pub next_live-step-requires-clause-long : goal.next_live-step-requires-clause-long
next_live-step-requires-clause-long c = c.requires.long

pub next_live-step-requires-clause-word_column : goal.next_live-step-requires-clause-word_column
next_live-step-requires-clause-word_column c = c.requires.word_column

pub next_live-step-requires-clause-order : goal.next_live-step-requires-clause-order
next_live-step-requires-clause-order c = c.requires.order

pub next_live-step-requires-clause-rows : goal.next_live-step-requires-clause-rows
next_live-step-requires-clause-rows c = c.requires.end

pub next_live-step-requires-clause-end : goal.next_live-step-requires-clause-end
next_live-step-requires-clause-end c = c.rows_to_see-end.ensures.most

pub returns-then-step-end-clause-deeper : goal.returns-then-step-end-clause-deeper
returns-then-step-end-clause-deeper c = c.loop-step.invariant.deeper

pub row_inwards-row-requires : goal.row_inwards-row-requires
row_inwards-row-requires c = below_too _ _ _ c.if-step-end.false c.rows_to_see-end.ensures.most

pub deepest_in_row-deepest-requires-clause-long : goal.deepest_in_row-deepest-requires-clause-long
deepest_in_row-deepest-requires-clause-long c = c.requires.long

pub deepest_in_row-deepest-requires-clause-word_column : goal.deepest_in_row-deepest-requires-clause-word_column
deepest_in_row-deepest-requires-clause-word_column c = c.requires.word_column

pub deepest_in_row-deepest-requires-clause-row : goal.deepest_in_row-deepest-requires-clause-row
deepest_in_row-deepest-requires-clause-row c = below_too _ _ _ c.row_inwards-row.ensures.high c.requires.end

pub loop-step-init : goal.loop-step-init
loop-step-init c = record {
  most = nothing _;
  deeper = goes_on c.args.way (without (cells_on c.args.at c.args.words.now) c.args.gone.now) c.args.found;
  seen = λ step low. absurd (none_before step low);
}

pub loop-step-smaller : goal.loop-step-smaller
loop-step-smaller c = falls_past _ _ _ c.if-step-end.false c.next_live-step.ensures.later c.rows_to_see-end.ensures.most
