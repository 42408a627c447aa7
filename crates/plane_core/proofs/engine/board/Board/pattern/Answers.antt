use Rattle.std.proofs.Common.{◌∙◌, ℕ, List, ap}
use Rattle.std.proofs.lemmas.Result.{IfOk-weaker}
use Rattle.plane_core.specs.engine.Boards.{Running}
use Rattle.plane_core.specs.engine.OnBoard.{cells_on}
use Rattle.plane_core.proofs.engine.board.Board.pattern.Goals as goal

pub list-requires-clause-live : goal.list-requires-clause-live
list-requires-clause-live c = rw (c.as_slice.ensures.value, c.as_slice-2.ensures.value) c.self.invariant.spanned.live

pub returns : goal.returns
returns c =
    IfOk-weaker c.list.result _ _
    (λ pattern is. is ∙ ap (λ (ws : List ℕ). cells_on c.self.inside.at ws) c.as_slice.ensures.value ∙ ap (λ (b : Running). b.cells) c.self.view_is)
    c.list.ensures
