use Rattle.std.specs.Str.Lines.{strip_carriage_return}
use Rattle.std.proofs.Common.{le_refl, ◌≡◌, map, pos, ap, ◌==◌, ◌++◌, length, sym, subst, rules, tests, ◌∙◌}
use Rattle.std.proofs.lemmas.Iterator.Consumers.{YieldsList-turn, YieldsList-end}
use Rattle.std.proofs.lemmas.Iterator.Splits.{YieldsList-from_slice_split}
use Rattle.std.proofs.lemmas.List.{length_push}
use Rattle.plane_core.proofs.lemmas.plaintext.PlaintextCells.{has-live_cells}
use Rattle.plane_core.specs.plane.Cells.{cell_at, has, IsPattern}
use Rattle.plane_core.proofs.lemmas.plaintext.PlaintextOrder.{IsPattern-live_cells}
use Rattle.plane_core.specs.Plaintext.{first_fault, live_cells}
use Rattle.plane_core.specs.PlaintextPlaces.{line_feed, is_comment, places_of_row}
use Rattle.plane_core.proofs.lemmas.plaintext.PlaintextLines.{IsNext, places_after, places_are, parts_of, no_fault_in_comment, no_fault_later, row_is_small, one_row_more, one_line_more, fits_one_more}
use Rattle.plane_core.proofs.lemmas.plaintext.PlaintextLines.{cells_of_row, no_cell_in_comment, no_cell_past_lines, moved_over}
use Rattle.plane_core.proofs.plaintext.pattern_in.Goals as goal
use Rattle.plane_core.proofs.plaintext.pattern_in.Goals.{In-Some, In-None}

-- the line that an iteration gets is the next part of the text
next_line : (c : In-Some) → IsNext (parts_of c.args.text.now) (length c.loop-line.yielded) c.in-Some.line.now
next_line c =
    YieldsList-turn (YieldsList-from_slice_split _ (λ b. b == line_feed) c.args.text.now (cc) (cc) (cc) (λ x b q k. search (rules, tests)))
    c.loop-line.yielded _ c.loop-line.yielded_by _ _ c.in-Some.line c.in-Some.is c.next.ensures.steps

no_line_left : (c : In-None) → (map (λ x. x.now) c.loop-line.yielded ≡ parts_of c.args.text.now) × (length c.loop-line.yielded ≡ length (parts_of c.args.text.now))
no_line_left c =
    YieldsList-end (YieldsList-from_slice_split _ (λ b. b == line_feed) c.args.text.now (cc) (cc) (cc) (λ x b q k. search (rules, tests)))
    c.loop-line.yielded _ c.loop-line.yielded_by _ _ c.in-None.is c.next.ensures.steps

pub loop-line-init : goal.loop-line-init
loop-line-init c =
    let all = sym (places_are c.args.text.now) in
    (le_refl 0, ap first_fault all ∙ c.requires, ap (λ cells. cells ++ live_cells (places_after 1 0 (parts_of c.args.text.now))) c.new-cells.ensures.items ∙ ap live_cells all)

pub push_row-requires : goal.push_row-requires
push_row-requires c =
    let t = next_line (goal.at.push_row-requires c).In-Some in
    let row = ap is_comment (sym c.without_return-row.ensures) ∙ sym c.is_comment.ensures ∙ c.if-not-is_comment.true in
    rw c.without_return-row.ensures (
    row_is_small (length c.loop-line.yielded) c.loop-line.y (parts_of c.args.text.now) c.in-Some.line.now t row c.loop-line.invariant.1
    )

pub loop-line-preserved-then-not-is_comment : goal.loop-line-preserved-then-not-is_comment
loop-line-preserved-then-not-is_comment c =
    let t = next_line (goal.at.loop-line-preserved-then-not-is_comment c).In-Some in
    let parts = parts_of c.args.text.now in
    let n = length c.loop-line.yielded in
    let y = c.loop-line.y in
    let line = c.in-Some.line.now in
    let row = ap is_comment (sym c.without_return-row.ensures) ∙ sym c.is_comment.ensures ∙ c.if-not-is_comment.true in
    let pushed : c.push_row.new.cells.items ≡ c.loop-line.cells.items ++ live_cells (places_of_row (y, (0, strip_carriage_return line))) =
    c.in_ok-push_row.ensures ∙ ap (λ r. c.loop-line.cells.items ++ live_cells (places_of_row (y, (0, r)))) c.without_return-row.ensures in
    rw (length_push c.loop-line.yielded c.in-Some.line) (
      one_row_more y n c.loop-line.invariant.0,
      no_fault_later n y parts line t row c.loop-line.invariant.1,
      moved_over _ _ _ _ _ _ pushed (cells_of_row n y parts line t row) c.loop-line.invariant.2,
    )

pub loop-line-preserved : goal.loop-line-preserved
loop-line-preserved c =
    let t = next_line (goal.at.loop-line-preserved c).In-Some in
    let parts = parts_of c.args.text.now in
    let n = length c.loop-line.yielded in
    let y = c.loop-line.y in
    let comment = ap is_comment (sym c.without_return-row.ensures) ∙ sym c.is_comment.ensures ∙ c.if-not-is_comment.false in
    rw (length_push c.loop-line.yielded c.in-Some.line) (
      one_line_more y n c.loop-line.invariant.0,
      sym (no_fault_in_comment n y parts c.in-Some.line.now t comment) ∙ c.loop-line.invariant.1,
      ap (λ cells. c.loop-line.cells.items ++ cells) (sym (no_cell_in_comment n y parts c.in-Some.line.now t comment)) ∙ c.loop-line.invariant.2,
    )

pub from_ordered-requires : goal.from_ordered-requires
from_ordered-requires c =
    let t = no_line_left (goal.at.from_ordered-requires c).In-None in
    let all = sym (no_cell_past_lines (length c.loop-line.yielded) c.loop-line.y (parts_of c.args.text.now) c.loop-line.cells.items t.1)
    ∙ c.loop-line.invariant.2 in
    subst IsPattern (sym all) (IsPattern-live_cells c.args.text.now c.requires)

pub returns-clause-pattern : goal.returns-clause-pattern
returns-clause-pattern c =
    let t = no_line_left (goal.at.returns-clause-pattern c).In-None in
    let all = sym (no_cell_past_lines (length c.loop-line.yielded) c.loop-line.y (parts_of c.args.text.now) c.loop-line.cells.items t.1)
    ∙ c.loop-line.invariant.2 in
    c.from_ordered.ensures ∙ all

pub returns-clause-cells : goal.returns-clause-cells
returns-clause-cells c =
    let t = no_line_left (goal.at.returns-clause-cells c).In-None in
    let all = sym (no_cell_past_lines (length c.loop-line.yielded) c.loop-line.y (parts_of c.args.text.now) c.loop-line.cells.items t.1)
    ∙ c.loop-line.invariant.2 in
    λ x y. ap (λ cells. has cells (cell_at (pos x) (pos y))) (c.from_ordered.ensures ∙ all) ∙ has-live_cells c.args.text.now x y

pub overflow_add-y : goal.overflow_add-y
overflow_add-y c =
    fits_one_more c.args.text.now (length c.loop-line.yielded) c.loop-line.y c.well_formed.1.0.1 (next_line (goal.at.overflow_add-y c).In-Some).0
    c.loop-line.invariant.0
