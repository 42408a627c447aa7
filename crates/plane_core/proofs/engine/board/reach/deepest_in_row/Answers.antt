use borrow.Author.Count.{falls}
use Rattle.std.proofs.Common.{◌≡◌, ◌==◌, ◌+ℤ◌, ◌<◌, ◌≤◌, ℕ, List, ap, length, pos, take, ◌∙◌, FitsSigned, Some, of_z, rules, subst, sym, to_z, w32, ℤ}
use Rattle.std.proofs.lemmas.Int.{to_z-of_z}
use Rattle.std.specs.Int.{bit_at}
use Rattle.std.proofs.lemmas.Nat.Bits.{bit_at-zero}
use Rattle.plane_core.specs.declared.plane.cell.Cell.{Cell}
use Rattle.plane_core.specs.plane.Cells.{cell_at, has}
use Rattle.plane_core.proofs.lemmas.engine.ActiveBoxLemmas.{take_whole}
use Rattle.plane_core.specs.engine.Directions.{GoesDeeper, IsSeen}
use Rattle.plane_core.specs.engine.OnBoard.{cells_on}
use Rattle.plane_core.specs.plane.Without.{without}
use Rattle.plane_core.proofs.lemmas.engine.DirectionLemmas.{bits_more, greater_or, none_seen, row_deeper, row_left, row_seen}
use Rattle.plane_core.proofs.engine.board.reach.deepest_in_row.Goals as goal

pub loop-cell-init : goal.loop-cell-init
loop-cell-init c = λ i low. ap (λ (n : ℕ). n == 1) (bit_at-zero i)

pub loop-cell-preserved : goal.loop-cell-preserved
loop-cell-preserved c = λ i low.
    bits_more c.args.gone.now c.loop-cell.cell-index (cell_at (pos 0) (pos 0)) c.loop-cell.gone_here c.bit_of-gone_here.result
    (cell_at (c.corner-first.result.x +ℤ pos i) c.corner-first.result.y) i c.loop-cell-test.true (c.loop-cell.invariant i low)
    (c.bit_of-gone_here.ensures i low)

pub loop-cell-smaller : goal.loop-cell-smaller
loop-cell-smaller c = falls _ _ c.loop-cell-test.true

-- once the loop has read all cells of `gone`, bit i of `bits` is 1 exactly if `gone` has the cell that is i columns to
-- the right of `first`
all_gone : (gone : List Cell) (k : ℕ) (first : Cell) (bits : ℕ) → k ≤ length gone → length gone ≤ k
    → ((i : ℕ) → i < 64 → (bit_at bits i == 1) ≡ has (take k gone) (cell_at (first.x +ℤ pos i) first.y))
    → (i : ℕ) → i < 64 → (bit_at bits i == 1) ≡ has gone (cell_at (first.x +ℤ pos i) first.y)
all_gone gone k first bits low high are i inside =
    are i inside ∙ ap (λ (cells : List Cell). has cells (cell_at (first.x +ℤ pos i) first.y)) (take_whole gone k low high)

pub returns-clause-deeper : goal.returns-clause-deeper
returns-clause-deeper c =
    let S = without (cells_on c.args.at c.args.words.now) c.args.gone.now in
    let left = row_left c.args.at c.args.words.now c.args.gone.now c.args.word_column c.args.row c.index.result c.loop-cell.gone_here c.corner-first.result
    c.requires.word_column c.requires.row c.loop-cell.auto.gone_here-fits.fits c.index.ensures.index c.corner-first.ensures.corner
    (all_gone c.args.gone.now c.loop-cell.cell-index c.corner-first.result c.loop-cell.gone_here c.loop-cell.auto.cell-index-end c.loop-cell-test.false
    c.loop-cell.invariant) in
    let f : FitsSigned w32 c.max.result = search rules in
    let g : FitsSigned w32 c.depth_at-depth.result = search rules in
    let deep = to_z w32 (of_z w32 c.depth_at-depth.result) in
    let greater = greater_or c.args.found c.depth_at-depth.result c.unwrap_or.result c.max.result (search rules) g c.unwrap_or.ensures c.max.ensures.value in
    let at_column = to_z-of_z w32 c.depth_at-depth.result g ∙ c.depth_at-depth.ensures in
    subst (λ (z : ℤ). GoesDeeper c.args.way S c.args.found (Some z)) (sym (to_z-of_z w32 c.max.result f))
    (row_deeper c.args.at c.args.way S c.args.word_column c.args.row _ c.farthest.result c.args.found deep
    c.max.result left c.farthest.ensures.small c.farthest.ensures.one at_column greater.kept greater.either)

pub returns-clause-seen : goal.returns-clause-seen
returns-clause-seen c =
    let S = without (cells_on c.args.at c.args.words.now) c.args.gone.now in
    let left = row_left c.args.at c.args.words.now c.args.gone.now c.args.word_column c.args.row c.index.result c.loop-cell.gone_here c.corner-first.result
    c.requires.word_column c.requires.row c.loop-cell.auto.gone_here-fits.fits c.index.ensures.index c.corner-first.ensures.corner
    (all_gone c.args.gone.now c.loop-cell.cell-index c.corner-first.result c.loop-cell.gone_here c.loop-cell.auto.cell-index-end c.loop-cell-test.false
    c.loop-cell.invariant) in
    let f : FitsSigned w32 c.max.result = search rules in
    let g : FitsSigned w32 c.depth_at-depth.result = search rules in
    let deep = to_z w32 (of_z w32 c.depth_at-depth.result) in
    let greater = greater_or c.args.found c.depth_at-depth.result c.unwrap_or.result c.max.result (search rules) g c.unwrap_or.ensures c.max.ensures.value in
    let at_column = to_z-of_z w32 c.depth_at-depth.result g ∙ c.depth_at-depth.ensures in
    subst (λ (z : ℤ). IsSeen c.args.at c.args.way S c.args.word_column c.args.row (Some z)) (sym (to_z-of_z w32 c.max.result f))
    (row_seen c.args.at c.args.way S c.args.word_column c.args.row _ c.farthest.result deep c.max.result
    left c.farthest.ensures.far at_column greater.least)

pub returns-then-word-eq0-clause-deeper : goal.returns-then-word-eq0-clause-deeper
returns-then-word-eq0-clause-deeper c = record { kept = λ z reached. reached; some = λ found. found }

pub depth_at-depth-requires-clause-frame : goal.depth_at-depth-requires-clause-frame
depth_at-depth-requires-clause-frame c = c.requires.frame

pub depth_at-depth-requires-clause-plane : goal.depth_at-depth-requires-clause-plane
depth_at-depth-requires-clause-plane c = c.requires.plane

pub depth_at-depth-requires-clause-word_column : goal.depth_at-depth-requires-clause-word_column
depth_at-depth-requires-clause-word_column c = c.requires.word_column

pub depth_at-depth-requires-clause-row : goal.depth_at-depth-requires-clause-row
depth_at-depth-requires-clause-row c = c.requires.row

pub depth_at-depth-requires-clause-column : goal.depth_at-depth-requires-clause-column
depth_at-depth-requires-clause-column c = c.farthest.ensures.small

pub returns-then-word-eq0-clause-seen : goal.returns-then-word-eq0-clause-seen
returns-then-word-eq0-clause-seen c =
    let left = row_left c.args.at c.args.words.now c.args.gone.now c.args.word_column c.args.row c.index.result c.loop-cell.gone_here c.corner-first.result
    c.requires.word_column c.requires.row c.loop-cell.auto.gone_here-fits.fits c.index.ensures.index c.corner-first.ensures.corner
    (all_gone c.args.gone.now c.loop-cell.cell-index c.corner-first.result c.loop-cell.gone_here c.loop-cell.auto.cell-index-end c.loop-cell-test.false
    c.loop-cell.invariant) in
    none_seen c.args.at c.args.way (without (cells_on c.args.at c.args.words.now) c.args.gone.now) c.args.word_column c.args.row _ c.args.found left
    c.if-word-eq0.true

pub index-requires : goal.index-requires
index-requires c = record { frame = c.requires.frame; word_column = c.requires.word_column; row = c.requires.row }
