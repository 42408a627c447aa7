use Rattle.std.proofs.Common.{◌+◌, pos, ◌≡◌, ◌<◌, ◌≤◌, ℕ, List, [], ◌∷◌, arith, get_or, length, subst, true, sym, take, inl, inr, ◌⊎◌}
use Rattle.std.specs.List.{All}
use Rattle.std.proofs.lemmas.Bool.{false≢true}
use Rattle.std.proofs.lemmas.List.Elements.{All-nil, All-more, All-same, All-weaker, recursion_from_All}
use Rattle.std.proofs.lemmas.Result.{IfOk-from_err, IfOk-weaker}
use Rattle.plane_core.specs.declared.plane.bounds.Bounds.{Bounds}
use Rattle.plane_core.specs.declared.plane.cell.Cell.{Cell}
use Rattle.plane_core.specs.plane.Bounds.{AreSidesWithin, IsWithin, box_at}
use Rattle.plane_core.specs.engine.ActiveBoxes.{IsInOne}
use Rattle.plane_core.specs.plane.Cells.{cell_at, has, is_within}
use Rattle.plane_core.specs.plane.Generations.{lies_within}
use Rattle.plane_core.proofs.lemmas.engine.ActiveBoxLemmas.{cell_box_sides, cell_in_box, passes_at, take_whole, wider_has, widened_has, widened_kept, widened_sides}
use Rattle.plane_core.proofs.lemmas.plane.SetLemmas.{has-all}
use Rattle.plane_core.proofs.engine.first_boxes.boxes_round.Goals as goal

abbrev origin : Cell
origin = cell_at (pos 0) (pos 0)

-- Each of the first k + 1 cells is in `next` or in a box of `new`, if each of the first k cells is in `run` or in a box
-- of `old`, cell k is in `next`, and all cells of `run` and of the boxes of `old` are in `next` or in a box of `new`.
more_held : (cells : List Cell) (k : ℕ) (x : Cell) (run next : Bounds) (old new : List Bounds) → k < length cells
    → ((d : Cell) → IsWithin run d → IsWithin next d ⊎ IsInOne new d) → ((d : Cell) → IsInOne old d → IsInOne new d) → IsWithin next (get_or cells k x)
    → All (λ (d : Cell). IsWithin run d ⊎ IsInOne old d) (take k cells) → All (λ (d : Cell). IsWithin next d ⊎ IsInOne new d) (take (k + 1) cells)
more_held cells k x run next old new low of_run of_old here held =
    All-more (λ (d : Cell). IsWithin next d ⊎ IsInOne new d) cells k x low
    (All-weaker (λ (d : Cell). IsWithin run d ⊎ IsInOne old d) (λ (d : Cell). IsWithin next d ⊎ IsInOne new d)
    (λ d h. elim h [ inl in_run ↦ of_run d in_run | inr in_box ↦ inr (of_old d in_box) ]) (take k cells) held) (inl here)

pub loop-cell-preserved-then-is_at_end : goal.loop-cell-preserved-then-is_at_end
loop-cell-preserved-then-is_at_end c =
    let cells = c.args.cells.now in
    let k = c.loop-cell.cell-index in
    let cell = get_or cells k origin in
    let run = c.loop-cell.run in
    let is = sym c.widened-run.ensures in
    record {
      held = more_held cells k origin run c.widened-run.result c.loop-cell.boxes.items c.loop-cell.boxes.items c.loop-cell-test.true
          (λ d h. inl (subst (λ (b : Bounds). IsWithin b d) is (widened_kept cell run d h))) (λ d h. h)
          (subst (λ (b : Bounds). IsWithin b cell) is (widened_has cell run)) c.loop-cell.invariant.held;
      run_sides = λ n near.
          subst (λ (b : Bounds). AreSidesWithin n b) is
          (widened_sides n cell run (passes_at (is_within n) cells k origin c.loop-cell-test.true near) (c.loop-cell.invariant.run_sides n near));
      sides = c.loop-cell.invariant.sides;
    }

pub loop-cell-preserved : goal.loop-cell-preserved
loop-cell-preserved c =
    let cells = c.args.cells.now in
    let k = c.loop-cell.cell-index in
    let cell = get_or cells k origin in
    let is = sym c.at-run-in-loop-cell.ensures in
    record {
      held = more_held cells k origin c.loop-cell.run c.at-run-in-loop-cell.result c.loop-cell.boxes.items c.put_in_box.new.boxes.items
          c.loop-cell-test.true (λ d h. inr (c.in_ok-put_in_box.ensures.held d h))
          (wider_has c.loop-cell.boxes.items c.put_in_box.new.boxes.items c.put_in_box.ensures.wider)
          (subst (λ (b : Bounds). IsWithin b cell) is (cell_in_box cell)) c.loop-cell.invariant.held;
      run_sides = λ n near.
          subst (λ (b : Bounds). AreSidesWithin n b) is
          (cell_box_sides n cell (passes_at (is_within n) cells k origin c.loop-cell-test.true near));
      sides = λ n near. c.put_in_box.ensures.sides n (c.loop-cell.invariant.run_sides n near) (c.loop-cell.invariant.sides n near);
    }

pub returns-clause-held : goal.returns-clause-held
returns-clause-held c = IfOk-weaker c.put_in_box-2.result _ _ (λ done put d h.
    has-all (λ (d : Cell). IsInOne c.put_in_box-2.new.boxes.items d) c.args.cells.now d
    (recursion_from_All (λ (d : Cell). IsInOne c.put_in_box-2.new.boxes.items d) c.args.cells.now
    (All-weaker (λ (d : Cell). IsWithin c.loop-cell.run d ⊎ IsInOne c.loop-cell.boxes.items d)
    (λ (d : Cell). IsInOne c.put_in_box-2.new.boxes.items d)
    (λ d h. elim h [
      | inl in_run ↦ put d in_run
      | inr in_box ↦ wider_has c.loop-cell.boxes.items c.put_in_box-2.new.boxes.items c.put_in_box-2.ensures.wider d in_box
    ]) c.args.cells.now
    (All-same (λ (d : Cell). IsWithin c.loop-cell.run d ⊎ IsInOne c.loop-cell.boxes.items d) c.args.cells.now
    (take c.loop-cell.cell-index c.args.cells.now)
    (sym (take_whole c.args.cells.now c.loop-cell.cell-index c.loop-cell.auto.cell-index-end c.loop-cell-test.false))
    c.loop-cell.invariant.held))) h) c.put_in_box-2.ensures.held

pub returns-clause-sides : goal.returns-clause-sides
returns-clause-sides c n near =
    c.put_in_box-2.ensures.sides n (c.loop-cell.invariant.run_sides n near) (c.loop-cell.invariant.sides n near)

pub returns-in_err-put_in_box-clause-held : goal.returns-in_err-put_in_box-clause-held
returns-in_err-put_in_box-clause-held c = IfOk-from_err _ _ c.from_residual.ensures.0

pub returns-in_err-put_in_box-clause-sides : goal.returns-in_err-put_in_box-clause-sides
returns-in_err-put_in_box-clause-sides c n near =
    c.put_in_box.ensures.sides n (c.loop-cell.invariant.run_sides n near) (c.loop-cell.invariant.sides n near)

no_boxes_sides : (n : ℕ) (boxes : List Bounds) → boxes ≡ [] → All (AreSidesWithin n) boxes
no_boxes_sides n boxes none = subst (λ (bs : List Bounds). All (AreSidesWithin n) bs) (sym none) (All-nil (AreSidesWithin n))

-- if all cells are within n of the origin, the sides of the first cell's box are too
first_sides : (n : ℕ) (cells : List Cell) (first : Cell) (run : Bounds) → run ≡ box_at first → first ≡ get_or cells 0 first → 0 < length cells
    → lies_within n cells ≡ true → AreSidesWithin n run
first_sides n cells first run is same low near =
    subst (λ (b : Bounds). AreSidesWithin n b) (sym is)
    (cell_box_sides n first (subst (λ (c : Cell). is_within n c ≡ true) (sym same) (passes_at (is_within n) cells 0 first low near)))

pub loop-cell-init : goal.loop-cell-init
loop-cell-init c = record {
  held = λ k d low. absurd (omega (arith, low));
  run_sides = λ n near.
      first_sides n c.args.cells.now c.in-Some.first.now c.at-run.result c.at-run.ensures c.in-Some.ensures.item.1 c.in-Some.ensures.item.3.0 near;
  sides = λ n near. no_boxes_sides n c.clear.new.self.items c.clear.ensures.items;
}

pub returns-in_default-clause-sides : goal.returns-in_default-clause-sides
returns-in_default-clause-sides c n near = no_boxes_sides n c.clear.new.self.items c.clear.ensures.items

none_has : (cells : List Cell) (d : Cell) → length cells ≤ 0 → has cells d ≡ true → ⊥
none_has [] d low e = false≢true e
none_has (x ∷ xs) d low e = absurd (omega (arith, low))

pub returns-in_default-clause-held : goal.returns-in_default-clause-held
returns-in_default-clause-held c d e = absurd (none_has c.args.cells.now d c.in_default.ensures.item.3 e)
