use Rattle.std.proofs.Common.{arith, ap, subst, sym, ℕ, ◌<◌, ◌≤◌, ◌≡◌, ◌∙◌, IfSome, List, length}
use Rattle.plane_core.specs.declared.plane.cell.Cell.{Cell}
use Rattle.plane_core.specs.declared.engine.frame.Frame.{Frame}
use Rattle.plane_core.specs.declared.engine.row_spans.RowSpan.{RowSpan}
use Rattle.plane_core.specs.engine.Boards.{Running}
use Rattle.plane_core.specs.plane.Frontiers.{LiesUpTo}
use Rattle.plane_core.specs.engine.OnBoard.{cells_on}
use Rattle.plane_core.specs.engine.RowSpans.{LieInSpans}
use Rattle.plane_core.specs.plane.Without.{without}
use Rattle.plane_core.proofs.lemmas.engine.DirectionLemmas.{AreWordColumnsSeen, all_seen, goes_on, word_columns_seen, reaches}
use Rattle.plane_core.proofs.lemmas.plane.OrderLemmas.{at_end}
use Rattle.plane_core.proofs.engine.board.Board.frontier_without.Goals as goal

-- `LieInSpans` still holds if the words and the spans are replaced by equal ones
lie_in : (at : Frame) (ws words : List ℕ) (ss spans : List RowSpan) → ws ≡ words → ss ≡ spans → LieInSpans at spans (cells_on at words)
    → LieInSpans at ss (cells_on at ws)
lie_in at ws words ss spans same alike live =
    subst (λ (xs : List RowSpan). LieInSpans at xs (cells_on at ws)) (sym alike)
    (subst (λ (xs : List ℕ). LieInSpans at spans (cells_on at xs)) (sym same) live)

pub loop-word_column-init : goal.loop-word_column-init
loop-word_column-init c = λ word_column row low. absurd (omega (arith, low))

pub loop-word_column-preserved : goal.loop-word_column-preserved
loop-word_column-preserved c =
    word_columns_seen c.self.inside.at c.direction-direction.result c.as_slice-words.result.now c.as_slice-spans.result.now c.cells-gone.result.now c.loop-word_column.word_column
    c.below-rows.result c.loop-word_column.found c.deepest_in_word_column-found.result c.loop-word_column-test.true (lie_in c.self.inside.at _ _ _ _ c.as_slice-words.ensures.value c.as_slice-spans.ensures.value c.self.invariant.spanned.live) c.below-rows.ensures.held
    c.loop-word_column.invariant c.deepest_in_word_column-found.ensures.deeper c.deepest_in_word_column-found.ensures.seen

nothing : (from to row : ℕ) → from ≡ to → from ≤ row → row < to → ⊥
nothing from to row empty low high = omega (arith, empty, low, high)

pub loop-word_column-preserved-then-rows : goal.loop-word_column-preserved-then-rows
loop-word_column-preserved-then-rows c =
    word_columns_seen c.self.inside.at c.direction-direction.result c.as_slice-words.result.now c.as_slice-spans.result.now c.cells-gone.result.now c.loop-word_column.word_column
    c.below-rows.result c.loop-word_column.found c.loop-word_column.found c.loop-word_column-test.true (lie_in c.self.inside.at _ _ _ _ c.as_slice-words.ensures.value c.as_slice-spans.ensures.value c.self.invariant.spanned.live) c.below-rows.ensures.held c.loop-word_column.invariant
    (goes_on c.direction-direction.result _ c.loop-word_column.found) (λ row from to. absurd (nothing _ _ row c.if-rows.true from to))

pub bounds-spans-word_column : goal.bounds-spans-word_column
bounds-spans-word_column c =
    subst (λ (n : ℕ). c.loop-word_column.word_column < n) (sym (ap length c.as_slice-spans.ensures.value ∙ c.self.invariant.spanned.word_columns)) c.loop-word_column-test.true

pub deepest_in_word_column-found-requires-clause-frame : goal.deepest_in_word_column-found-requires-clause-frame
deepest_in_word_column-found-requires-clause-frame c = c.self.invariant.board.frame

pub deepest_in_word_column-found-requires-clause-plane : goal.deepest_in_word_column-found-requires-clause-plane
deepest_in_word_column-found-requires-clause-plane c = c.self.invariant.plane

pub deepest_in_word_column-found-requires-clause-long : goal.deepest_in_word_column-found-requires-clause-long
deepest_in_word_column-found-requires-clause-long c = ap length c.as_slice-words.ensures.value ∙ c.self.invariant.board.long

pub deepest_in_word_column-found-requires-clause-word_column : goal.deepest_in_word_column-found-requires-clause-word_column
deepest_in_word_column-found-requires-clause-word_column c = c.loop-word_column-test.true

pub returns : goal.returns
returns c =
    let at = c.self.inside.at in
    let words = c.as_slice-words.result.now in
    let gone = c.cells-gone.result.now in
    let found = c.loop-word_column.found in
    let direction = c.direction-direction.result in
    let all = at_end _ _ c.loop-word_column.auto.word_column-end c.loop-word_column-test.false in
    let shown : cells_on at words ≡ c.args.self.now.cells = ap (cells_on at) c.as_slice-words.ensures.value ∙ ap (λ (b : Running). b.cells) c.self.view_is in
    subst (λ (T : List Cell). IfSome found (λ m. LiesUpTo c.args.way m T)) (λ i. without (shown i) (c.cells-gone.ensures.cells i))
    (reaches c.args.way direction (without (cells_on at words) gone) found c.direction-direction.ensures
    (all_seen at direction words gone found
    (subst (λ (n : ℕ). AreWordColumnsSeen at direction (without (cells_on at words) gone) n found) all c.loop-word_column.invariant)))
