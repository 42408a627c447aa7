use Rattle.std.proofs.Common.{◌≡◌, ◌+◌, ◌==◌, length, map, refl, ap, sym, ◌∙◌, rules, tests}
use Rattle.std.proofs.lemmas.Iterator.Consumers.{YieldsList-turn, YieldsList-end}
use Rattle.std.proofs.lemmas.Iterator.Splits.{YieldsList-from_slice_split}
use Rattle.std.proofs.lemmas.List.{length_push}
use Rattle.std.proofs.Common.{le_refl}
use Rattle.plane_core.proofs.lemmas.plaintext.PlaintextLines.{places_are, IsNext, parts_of, no_fault_in_comment, fault_in_row_here, no_fault_in_row_here, no_fault_past_lines, one_row_more, one_line_more, fits_one_more}
use Rattle.plane_core.specs.PlaintextPlaces.{line_feed, is_comment, places_of_row}
use Rattle.plane_core.specs.Plaintext.{first_fault}
use Rattle.plane_core.proofs.plaintext.fault_in.Goals as goal
use Rattle.plane_core.proofs.plaintext.fault_in.Goals.{In-Some, In-None}

-- the line that an iteration gets is the next part of the text
next_line : (c : In-Some) → IsNext (parts_of c.args.text.now) c.loop-line.number c.in-Some.line.now
next_line c = rw c.loop-line.invariant.0 (
    YieldsList-turn (YieldsList-from_slice_split _ (λ b. b == line_feed) c.args.text.now (cc) (cc) (cc) (λ x b q k. search (rules, tests)))
    c.loop-line.yielded _ c.loop-line.yielded_by _ _ c.in-Some.line c.in-Some.is c.next.ensures.steps)

no_line_left : (c : In-None) → (map (λ x. x.now) c.loop-line.yielded ≡ parts_of c.args.text.now) × (length c.loop-line.yielded ≡ length (parts_of c.args.text.now))
no_line_left c =
    YieldsList-end (YieldsList-from_slice_split _ (λ b. b == line_feed) c.args.text.now (cc) (cc) (cc) (λ x b q k. search (rules, tests)))
    c.loop-line.yielded _ c.loop-line.yielded_by _ _ c.in-None.is c.next.ensures.steps

pub loop-line-init : goal.loop-line-init
loop-line-init c = (refl, le_refl 0, ap first_fault (sym (places_are c.args.text.now)))

pub overflow_add-number : goal.overflow_add-number
overflow_add-number c =
    fits_one_more c.args.text.now c.loop-line.number c.loop-line.number c.well_formed.0.1 (next_line (goal.at.overflow_add-number c).In-Some).0
    (le_refl c.loop-line.number)

pub overflow_add-y : goal.overflow_add-y
overflow_add-y c =
    fits_one_more c.args.text.now c.loop-line.number c.loop-line.y c.well_formed.0.1 (next_line (goal.at.overflow_add-y c).In-Some).0
    c.loop-line.invariant.1

pub returns-in-Some-fault_in_row : goal.returns-in-Some-fault_in_row
returns-in-Some-fault_in_row c =
    let t = next_line (goal.at.returns-in-Some-fault_in_row c).In-Some in
    let n = c.loop-line.number in
    let y = c.loop-line.y in
    let row = ap is_comment (sym c.without_return-line.ensures) ∙ sym c.is_comment.ensures ∙ c.if-not-is_comment.true in
    let found = ap (λ r. first_fault (places_of_row (y, (n + 1, r)))) (sym c.without_return-line.ensures) ∙ sym c.fault_in_row.ensures
    ∙ c.in-Some-fault_in_row.is in
    sym (fault_in_row_here n y (parts_of c.args.text.now) c.in-Some.line.now c.in-Some-fault_in_row.fault t row found)
    ∙ c.loop-line.invariant.2

pub loop-line-preserved-then-not-is_comment : goal.loop-line-preserved-then-not-is_comment
loop-line-preserved-then-not-is_comment c =
    let t = next_line (goal.at.loop-line-preserved-then-not-is_comment c).In-Some in
    let n = c.loop-line.number in
    let y = c.loop-line.y in
    let row = ap is_comment (sym c.without_return-line.ensures) ∙ sym c.is_comment.ensures ∙ c.if-not-is_comment.true in
    let none = ap (λ r. first_fault (places_of_row (y, (n + 1, r)))) (sym c.without_return-line.ensures) ∙ sym c.fault_in_row.ensures
    ∙ c.in_default.is in
    rw (length_push c.loop-line.yielded c.in-Some.line) (
      ap (λ k. k + 1) c.loop-line.invariant.0,
      one_row_more y n c.loop-line.invariant.1,
      sym (no_fault_in_row_here n y (parts_of c.args.text.now) c.in-Some.line.now t row none) ∙ c.loop-line.invariant.2,
    )

pub loop-line-preserved : goal.loop-line-preserved
loop-line-preserved c =
    let t = next_line (goal.at.loop-line-preserved c).In-Some in
    let n = c.loop-line.number in
    let y = c.loop-line.y in
    let comment = ap is_comment (sym c.without_return-line.ensures) ∙ sym c.is_comment.ensures ∙ c.if-not-is_comment.false in
    rw (length_push c.loop-line.yielded c.in-Some.line) (
      ap (λ k. k + 1) c.loop-line.invariant.0,
      one_line_more y n c.loop-line.invariant.1,
      sym (no_fault_in_comment n y (parts_of c.args.text.now) c.in-Some.line.now t comment) ∙ c.loop-line.invariant.2,
    )

pub returns : goal.returns
returns c =
    let t = no_line_left (goal.at.returns c).In-None in
    sym (no_fault_past_lines c.loop-line.number c.loop-line.y (parts_of c.args.text.now) (c.loop-line.invariant.0 ∙ t.1)) ∙ c.loop-line.invariant.2
