use Rattle.std.proofs.Common.{◌≡◌, ◌∙◌, List, [], refl, subst, sym}
use Rattle.std.proofs.lemmas.Bool.{false≢true}
use Rattle.std.proofs.lemmas.Result.{IfOk-weaker}
use Rattle.plane_core.specs.declared.plane.cell.Cell.{Cell}
use Rattle.plane_core.specs.plane.Cells.{IsPattern}
use Rattle.plane_core.specs.engine.Frames.{HasFewWords, LieOn}
use Rattle.plane_core.proofs.lemmas.plane.SetLemmas.{in_order-nil}
use Rattle.plane_core.proofs.engine.board.Board.blank.Goals as goal

nothing : IsPattern []
nothing = record { in_order = in_order-nil; on_plane = refl }

pub from_ordered-none-requires : goal.from_ordered-none-requires
from_ordered-none-requires c = subst (λ (cells : List Cell). IsPattern cells) (sym c.new.ensures.items) nothing

pub lay-requires-clause-frame : goal.lay-requires-clause-frame
lay-requires-clause-frame c = c.requires.frame

pub lay-requires-clause-plane : goal.lay-requires-clause-plane
lay-requires-clause-plane c = c.requires.plane

pub lay-requires-clause-on : goal.lay-requires-clause-on
lay-requires-clause-on c =
    subst (λ (cells : List Cell). LieOn c.args.at cells) (sym (c.from_ordered-none.ensures ∙ c.new.ensures.items)) (λ d e. absurd (false≢true e))

pub lay-requires-clause-words : goal.lay-requires-clause-words
lay-requires-clause-words c =
    subst (λ (cells : List Cell). HasFewWords c.args.at cells) (sym (c.from_ordered-none.ensures ∙ c.new.ensures.items)) c.requires.words

pub returns-clause-cells : goal.returns-clause-cells
returns-clause-cells c =
    IfOk-weaker c.lay.result (λ board. board.cells ≡ c.from_ordered-none.result) (λ board. board.cells ≡ [])
    (λ board is. is ∙ c.from_ordered-none.ensures ∙ c.new.ensures.items) c.lay.ensures.cells

pub returns-clause-rule : goal.returns-clause-rule
returns-clause-rule c = c.lay.ensures.rule
