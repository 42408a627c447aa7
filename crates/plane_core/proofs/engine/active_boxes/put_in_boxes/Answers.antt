use Rattle.std.proofs.Common.{arith, get_or, length, pos, sym, subst, take, ◌<◌, ◌≡◌, List, ℕ, true}
use Rattle.std.proofs.lemmas.List.Elements.{All-more, All-same, All-weaker, recursion_from_All}
use Rattle.std.proofs.lemmas.Result.{IfOk-from_err}
use Rattle.plane_core.specs.declared.plane.bounds.Bounds.{Bounds}
use Rattle.plane_core.specs.declared.plane.cell.Cell.{Cell}
use Rattle.plane_core.specs.plane.Bounds.{AreSidesWithin, IsWithin, box_at}
use Rattle.plane_core.specs.engine.ActiveBoxes.{IsInOne}
use Rattle.plane_core.specs.plane.Cells.{cell_at, is_within}
use Rattle.plane_core.specs.plane.Generations.{lies_within}
use Rattle.plane_core.proofs.lemmas.engine.ActiveBoxLemmas.{cell_box_sides, cell_in_box, passes_at, take_whole, wider_has}
use Rattle.plane_core.proofs.lemmas.plane.SetLemmas.{has-all}
use Rattle.plane_core.proofs.engine.active_boxes.put_in_boxes.Goals as goal

-- if the cells are within `n` columns and rows of the origin, the sides of a cell's box are too
sides_at : (cells : List Cell) (i : ℕ) (d : Cell) (part : Bounds) (n : ℕ) → i < length cells → part ≡ box_at (get_or cells i d)
    → lies_within n cells ≡ true → AreSidesWithin n part
sides_at cells i d part n low is e =
    subst (λ (b : Bounds). AreSidesWithin n b) (sym is) (cell_box_sides n (get_or cells i d) (passes_at (is_within n) cells i d low e))

-- if the boxes contain all cells of `part`, the box of one cell, they contain this cell
held_at : (cells : List Cell) (i : ℕ) (d : Cell) (part : Bounds) (boxes : List Bounds) → part ≡ box_at (get_or cells i d)
    → ((c : Cell) → IsWithin part c → IsInOne boxes c) → IsInOne boxes (get_or cells i d)
held_at cells i d part boxes is held =
    held (get_or cells i d) (subst (λ (b : Bounds). IsWithin b (get_or cells i d)) (sym is) (cell_in_box (get_or cells i d)))

pub loop-cell-init : goal.loop-cell-init
loop-cell-init c = record { held = λ k d low. absurd (omega (arith, low)); wider = λ n d some. some; sides = λ n e old. old }

pub loop-cell-preserved : goal.loop-cell-preserved
loop-cell-preserved c =
    let cells = c.args.cells.now in
    let i = c.loop-cell.cell-index in
    let before = c.loop-cell.boxes.items in
    let later = c.put_in_box.new.boxes.items in
    record {
      held = All-more (λ (d : Cell). IsInOne later d) cells i (cell_at (pos 0) (pos 0)) c.loop-cell-test.true
          (All-weaker (λ (d : Cell). IsInOne before d) (λ (d : Cell). IsInOne later d) (wider_has before later c.put_in_box.ensures.wider) (take i cells)
          c.loop-cell.invariant.held)
          (held_at cells i (cell_at (pos 0) (pos 0)) c.at.result later c.at.ensures c.in_ok-put_in_box.ensures.held);
      wider = λ n d some. c.put_in_box.ensures.wider n d (c.loop-cell.invariant.wider n d some);
      sides = λ n e old.
          c.put_in_box.ensures.sides n (sides_at cells i (cell_at (pos 0) (pos 0)) c.at.result n c.loop-cell-test.true c.at.ensures e)
          (c.loop-cell.invariant.sides n e old);
    }

pub returns-clause-wider : goal.returns-clause-wider
returns-clause-wider c = c.loop-cell.invariant.wider

pub returns-clause-held : goal.returns-clause-held
returns-clause-held c = λ d h.
    has-all (λ (d : Cell). IsInOne c.loop-cell.boxes.items d) c.args.cells.now d
    (recursion_from_All (λ (d : Cell). IsInOne c.loop-cell.boxes.items d) c.args.cells.now
    (All-same (λ (d : Cell). IsInOne c.loop-cell.boxes.items d) c.args.cells.now (take c.loop-cell.cell-index c.args.cells.now)
    (sym (take_whole c.args.cells.now c.loop-cell.cell-index c.loop-cell.auto.cell-index-end c.loop-cell-test.false)) c.loop-cell.invariant.held)) h

pub returns-clause-sides : goal.returns-clause-sides
returns-clause-sides c = c.loop-cell.invariant.sides

pub returns-in_err-put_in_box-clause-wider : goal.returns-in_err-put_in_box-clause-wider
returns-in_err-put_in_box-clause-wider c n d some = c.put_in_box.ensures.wider n d (c.loop-cell.invariant.wider n d some)

pub returns-in_err-put_in_box-clause-held : goal.returns-in_err-put_in_box-clause-held
returns-in_err-put_in_box-clause-held c = IfOk-from_err _ _ c.from_residual.ensures.0

pub returns-in_err-put_in_box-clause-sides : goal.returns-in_err-put_in_box-clause-sides
returns-in_err-put_in_box-clause-sides c n e old =
    c.put_in_box.ensures.sides n (sides_at c.args.cells.now c.loop-cell.cell-index (cell_at (pos 0) (pos 0)) c.at.result n c.loop-cell-test.true c.at.ensures e)
    (c.loop-cell.invariant.sides n e old)
