use Rattle.std.proofs.Common.{◌≡◌, ◌∙◌, List, arith, subst, sym}
use Rattle.std.proofs.lemmas.Bool.{eqb-true}
use Rattle.plane_core.specs.windows.RuleLogic.{rule_of}
use Rattle.plane_core.specs.declared.plane.bounds.Bounds.{Bounds}
use Rattle.plane_core.specs.engine.ActiveBoxes.{IsQuiet}
use Rattle.plane_core.specs.plane.Generations.{after}
use Rattle.plane_core.specs.engine.Boards.{Running}
use Rattle.plane_core.specs.engine.OnBoard.{cells_on}
use Rattle.plane_core.proofs.lemmas.engine.AdvanceLemmas.{no_boxes, still_forever}
use Rattle.plane_core.proofs.lemmas.engine.OnBoardLemmas.{cells_in_order}
use Rattle.plane_core.proofs.engine.board.Board.is_still.Goals as goal

pub returns : goal.returns
returns c none n even =
    let at = c.self.inside.at in
    let words = c.self.inside.words.items in
    let empty = no_boxes c.self.inside.boxes.items (omega (arith, eqb-true _ _ (sym c.is_empty.ensures ∙ none))) in
    subst (λ (b : Running). after b.rule b.cells n ≡ b.cells) c.self.view_is
    (still_forever (rule_of c.self.inside.logic) (cells_on at words) n (cells_in_order at words)
    (subst (λ (boxes : List Bounds). IsQuiet (rule_of c.self.inside.logic) (cells_on at words) boxes) empty c.self.invariant.board.quiet) even)
