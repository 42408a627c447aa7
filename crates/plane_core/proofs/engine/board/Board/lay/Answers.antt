use Rattle.std.proofs.Common.{◌≡◌, ◌∙◌, ℕ, List, ap, length, slice_index, true}
use Rattle.std.proofs.lemmas.List.{length-replicate, with_items_is}
use Rattle.std.proofs.lemmas.Result.{IfOk-from_err}
use Rattle.plane_core.specs.windows.RuleLogic.{rule_of}
use Rattle.plane_core.specs.engine.Boards.{IsSpannedBoard}
use Rattle.plane_core.specs.engine.OnBoard.{cells_on}
use Rattle.plane_core.proofs.lemmas.engine.AdvanceLemmas.{laid_spanned}
use Rattle.plane_core.proofs.lemmas.engine.FillLemmas.{shown-empty, zeros}
use Rattle.plane_core.proofs.engine.board.Board.lay.Goals as goal

pub count-requires : goal.count-requires
count-requires c = c.requires.frame

pub returns-in_err-words-clause-rule : goal.returns-in_err-words-clause-rule
returns-in_err-words-clause-rule c = IfOk-from_err _ _ c.from_residual.ensures.0

pub returns-in_err-words-clause-cells : goal.returns-in_err-words-clause-cells
returns-in_err-words-clause-cells c = IfOk-from_err _ _ c.from_residual.ensures.0

pub returns-in_err-spans-clause-rule : goal.returns-in_err-spans-clause-rule
returns-in_err-spans-clause-rule c = IfOk-from_err _ _ c.from_residual-in_err-spans.ensures.0

pub returns-in_err-spans-clause-cells : goal.returns-in_err-spans-clause-cells
returns-in_err-spans-clause-cells c = IfOk-from_err _ _ c.from_residual-in_err-spans.ensures.0

pub returns-in_err-boxes_round-clause-rule : goal.returns-in_err-boxes_round-clause-rule
returns-in_err-boxes_round-clause-rule c = IfOk-from_err _ _ c.from_residual-in_err-boxes_round.ensures.0

pub returns-in_err-boxes_round-clause-cells : goal.returns-in_err-boxes_round-clause-cells
returns-in_err-boxes_round-clause-cells c = IfOk-from_err _ _ c.from_residual-in_err-boxes_round.ensures.0

pub fill-requires-clause-frame : goal.fill-requires-clause-frame
fill-requires-clause-frame c = c.requires.frame

pub fill-requires-clause-on : goal.fill-requires-clause-on
fill-requires-clause-on c = rw c.cells-cells.ensures.cells c.requires.on

pub fill-requires-clause-long : goal.fill-requires-clause-long
fill-requires-clause-long c =
    ap length (c.as_mut_slice.ensures.value ∙ c.in_ok-words.ensures.items_if_clones_equal (λ y h. h)) ∙ length-replicate _ _ ∙ c.count.ensures.count

pub fill-requires-clause-empty : goal.fill-requires-clause-empty
fill-requires-clause-empty c =
    shown-empty c.args.at c.as_mut_slice.result.now
    (λ i. ap (λ (ws : List ℕ). slice_index ws i) (c.as_mut_slice.ensures.value ∙ c.in_ok-words.ensures.items_if_clones_equal (λ y h. h)) ∙ zeros _ i)

pub fill-requires-clause-word_columns : goal.fill-requires-clause-word_columns
fill-requires-clause-word_columns c =
    ap length (c.as_mut_slice-2.ensures.value ∙ c.in_ok-spans.ensures.items_if_clones_equal (λ y h. h)) ∙ length-replicate _ _

laid : (c : goal.After-new-4) → IsSpannedBoard c.args.at (rule_of c.new.result) c.fill.new.words c.boxes_round.new.boxes.items true
    c.fill.new.spans × (cells_on c.args.at c.fill.new.words ≡ c.args.pattern.now)
laid c =
    laid_spanned (rule_of c.new.result) c.args.at c.fill.new.words c.boxes_round.new.boxes.items c.fill.new.spans
    c.args.pattern.now c.cells-cells.result.now c.cells-cells.ensures.cells c.cells-cells.ensures.pattern c.requires.frame c.requires.plane
    (c.fill.auto.words ∙ ap length (c.as_mut_slice.ensures.value ∙ c.in_ok-words.ensures.items_if_clones_equal (λ y h. h)) ∙ length-replicate _ _
    ∙ c.count.ensures.count)
    (c.fill.auto.spans ∙ ap length (c.as_mut_slice-2.ensures.value ∙ c.in_ok-spans.ensures.items_if_clones_equal (λ y h. h))
    ∙ length-replicate _ _) c.requires.on c.fill.ensures.shown c.fill.ensures.held
    c.in_ok-boxes_round.ensures.held c.boxes_round.ensures.sides

pub invariant_of-result : goal.invariant_of-result
invariant_of-result c =
    rw (
      with_items_is c.in_ok-words.words c.fill.new.words (c.fill.auto.words ∙ c.as_mut_slice.ensures.len),
      with_items_is c.in_ok-spans.spans c.fill.new.spans (c.fill.auto.spans ∙ c.as_mut_slice-2.ensures.len),
    ) (laid c).0

pub returns-clause-rule : goal.returns-clause-rule
returns-clause-rule c = c.new.ensures

pub returns-clause-cells : goal.returns-clause-cells
returns-clause-cells c = rw (with_items_is c.in_ok-words.words c.fill.new.words (c.fill.auto.words ∙ c.as_mut_slice.ensures.len)) (laid c).1
