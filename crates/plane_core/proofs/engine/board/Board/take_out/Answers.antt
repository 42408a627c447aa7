use Rattle.std.proofs.Common.{◌≡◌, ◌∙◌, ℕ, List, ap, length}
use Rattle.std.proofs.lemmas.List.{with_items_is}
use Rattle.std.proofs.lemmas.Result.{IfOk-from_err, MatchResult-from_err}
use Rattle.plane_core.specs.windows.RuleLogic.{rule_of}
use Rattle.plane_core.specs.engine.Boards.{Running}
use Rattle.plane_core.specs.engine.ActiveBoxes.{box_bound}
use Rattle.plane_core.specs.engine.OnBoard.{cells_on}
use Rattle.plane_core.specs.plane.Without.{without}
use Rattle.plane_core.proofs.lemmas.engine.RemovalLemmas.{fewer_board, lies_in_bound, wider_board}
use Rattle.plane_core.proofs.engine.board.Board.take_out.Goals as goal

pub invariant_of-self : goal.invariant_of-self
invariant_of-self c =
    let inside = c.self.inside in
    wider_board inside.at (rule_of inside.logic) inside.words.items inside.boxes.items c.put_in_boxes.new.boxes.items inside.holds_all
    inside.spans.items c.self.invariant
    (c.put_in_boxes.ensures.sides box_bound (rw c.cells-gone.ensures.cells (lies_in_bound c.args.cells.now c.cells-gone.ensures.pattern))
    c.self.invariant.board.sides) c.put_in_boxes.ensures.wider

pub invariant_of-self-2 : goal.invariant_of-self-2
invariant_of-self-2 c =
    let inside = c.self.inside in
    let gone = c.cells-gone.result.now in
    let new = c.take_off.new.words in
    let kept : length new ≡ length c.as_mut_slice.result.now = c.take_off.auto.words in
    let long : length new ≡ inside.words.len = kept ∙ c.as_mut_slice.ensures.len in
    rw (with_items_is inside.words new long)
    (fewer_board inside.at (rule_of inside.logic) inside.words.items new inside.boxes.items c.put_in_boxes.new.boxes.items
    inside.holds_all inside.spans.items gone c.self.invariant (kept ∙ ap length c.as_mut_slice.ensures.value)
    (c.take_off.ensures ∙ ap (λ (words : List ℕ). without (cells_on inside.at words) gone) c.as_mut_slice.ensures.value)
    (c.put_in_boxes.ensures.sides box_bound (rw c.cells-gone.ensures.cells (lies_in_bound c.args.cells.now c.cells-gone.ensures.pattern))
    c.self.invariant.board.sides) c.put_in_boxes.ensures.wider c.in_ok-put_in_boxes.ensures.held)

pub returns-in_err-put_in_boxes-clause-rule : goal.returns-in_err-put_in_boxes-clause-rule
returns-in_err-put_in_boxes-clause-rule c = ap (λ (b : Running). b.rule) c.self.view_is

pub returns-in_err-put_in_boxes-clause-cells : goal.returns-in_err-put_in_boxes-clause-cells
returns-in_err-put_in_boxes-clause-cells c = IfOk-from_err _ _ c.from_residual.ensures.0

pub returns-in_err-put_in_boxes-clause-kept : goal.returns-in_err-put_in_boxes-clause-kept
returns-in_err-put_in_boxes-clause-kept c =
    MatchResult-from_err _ _ _ c.from_residual.ensures.0 (λ error. ap (λ (b : Running). b.cells) c.self.view_is)

pub take_off-requires-clause-frame : goal.take_off-requires-clause-frame
take_off-requires-clause-frame c = c.self.invariant.board.frame

pub take_off-requires-clause-long : goal.take_off-requires-clause-long
take_off-requires-clause-long c = ap length c.as_mut_slice.ensures.value ∙ c.self.invariant.board.long

pub returns-clause-rule : goal.returns-clause-rule
returns-clause-rule c = ap (λ (b : Running). b.rule) c.self.view_is

pub returns-clause-cells : goal.returns-clause-cells
returns-clause-cells c =
    let inside = c.self.inside in
    let new = c.take_off.new.words in
    rw (with_items_is inside.words new (c.take_off.auto.words ∙ c.as_mut_slice.ensures.len))
    (c.take_off.ensures ∙ (λ i. without (cells_on inside.at (c.as_mut_slice.ensures.value i)) (c.cells-gone.ensures.cells i))
    ∙ ap (λ (b : Running). without b.cells c.args.cells.now) c.self.view_is)

pub returns-clause-kept : goal.returns-clause-kept
returns-clause-kept c = tt
