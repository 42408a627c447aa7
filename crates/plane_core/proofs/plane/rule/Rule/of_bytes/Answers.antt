use Rattle.std.proofs.Common.{◌≡◌, ◌==◌, sym, ◌∙◌, ap, true, false, List, ℕ, length, codes, refl}
use Rattle.plane_core.specs.plane.Rules.{Reading, begins}
use Rattle.plane_core.proofs.lemmas.plane.RuleReading.{length-births, length-survivals, births_in, survivals_in, sliced, births_sliced, survivals_sliced}
use Rattle.plane_core.proofs.lemmas.plane.RuleReading.{rule_read-no_b, rule_read-zero, rule_read-no_s, rule_read-more}
use Rattle.plane_core.proofs.lemmas.plane.RuleReading.{rule_read-all}
use Rattle.plane_core.proofs.plane.rule.Rule.of_bytes.Goals as goal

pub returns-then-not-starts_with : goal.returns-then-not-starts_with
returns-then-not-starts_with c = sym (rule_read-no_b c.args.text.now (sym c.starts_with.ensures.value ∙ c.if-not-starts_with.true))

pub returns-then-starts_with : goal.returns-then-starts_with
returns-then-starts_with c =
    sym (rule_read-zero c.args.text.now (sym c.starts_with.ensures.value ∙ c.if-not-starts_with.false) (sym c.starts_with-2.ensures.value
    ∙ c.if-starts_with.true))

pub overflow_sub-place : goal.overflow_sub-place
overflow_sub-place c =
    let text = c.args.text.now in
    let remainder = births_sliced text c.read_numbers.result.1.now c.read_numbers.ensures.remainder in
    rw remainder (length-births text)

pub returns-then-not-starts_with-2 : goal.returns-then-not-starts_with-2
returns-then-not-starts_with-2 c =
    let text = c.args.text.now in
    let remainder = births_sliced text c.read_numbers.result.1.now c.read_numbers.ensures.remainder in
    let s : begins (births_in text).remainder (codes "s") ≡ false =
    ap (λ (xs : List ℕ). begins xs (codes "s")) (sym remainder) ∙ sym c.starts_with-3.ensures.value ∙ c.if-not-starts_with-2.true in
    rw remainder (sym (rule_read-no_s text (sym c.starts_with.ensures.value ∙ c.if-not-starts_with.false) (sym c.starts_with-2.ensures.value
    ∙ c.if-starts_with.false) s))

pub overflow_sub-place-then-not-is_empty : goal.overflow_sub-place-then-not-is_empty
overflow_sub-place-then-not-is_empty c =
    let text = c.args.text.now in
    let remainder = births_sliced text c.read_numbers.result.1.now c.read_numbers.ensures.remainder in
    let end = c.read_numbers-2.ensures.remainder ∙ ap (λ (r : Reading). r.remainder) (survivals_sliced text c.read_numbers.result.1.now remainder) in
    rw end (length-survivals text)

pub returns-then-not-is_empty : goal.returns-then-not-is_empty
returns-then-not-is_empty c =
    let text = c.args.text.now in
    let remainder = births_sliced text c.read_numbers.result.1.now c.read_numbers.ensures.remainder in
    let end = c.read_numbers-2.ensures.remainder ∙ ap (λ (r : Reading). r.remainder) (survivals_sliced text c.read_numbers.result.1.now remainder) in
    let s : begins (births_in text).remainder (codes "s") ≡ true =
    ap (λ (xs : List ℕ). begins xs (codes "s")) (sym remainder) ∙ sym c.starts_with-3.ensures.value ∙ c.if-not-starts_with-2.false in
    let more : (length (survivals_in text).remainder == 0) ≡ false =
    ap (λ (xs : List ℕ). length xs == 0) (sym end) ∙ sym c.is_empty.ensures ∙ c.if-not-is_empty.true in
    rw end (sym (rule_read-more text (sym c.starts_with.ensures.value ∙ c.if-not-starts_with.false) (sym c.starts_with-2.ensures.value
    ∙ c.if-starts_with.false) s more))

pub returns : goal.returns
returns c =
    let text = c.args.text.now in
    let remainder = births_sliced text c.read_numbers.result.1.now c.read_numbers.ensures.remainder in
    let survivals = survivals_sliced text c.read_numbers.result.1.now remainder in
    let end = c.read_numbers-2.ensures.remainder ∙ ap (λ (r : Reading). r.remainder) survivals in
    let s : begins (births_in text).remainder (codes "s") ≡ true =
    ap (λ (xs : List ℕ). begins xs (codes "s")) (sym remainder) ∙ sym c.starts_with-3.ensures.value ∙ c.if-not-starts_with-2.false in
    let none : (length (survivals_in text).remainder == 0) ≡ true =
    ap (λ (xs : List ℕ). length xs == 0) (sym end) ∙ sym c.is_empty.ensures ∙ c.if-not-is_empty.false in
    let births : c.read_numbers.result.0 ≡ (births_in text).logic = c.read_numbers.ensures.logic ∙ ap (λ (r : Reading). r.logic) (sliced 8 1 text) in
    let others : c.read_numbers-2.result.0 ≡ (survivals_in text).logic = c.read_numbers-2.ensures.logic ∙ ap (λ (r : Reading). r.logic) survivals in
    rw (births, others) (sym (rule_read-all text (sym c.starts_with.ensures.value ∙ c.if-not-starts_with.false) (sym c.starts_with-2.ensures.value
    ∙ c.if-starts_with.false) s none))

pub slice_bounds-read_numbers-count : goal.slice_bounds-read_numbers-count
slice_bounds-read_numbers-count c = c.if-not-starts_with.ensures.bound refl

pub slice_bounds-read_numbers-count-2 : goal.slice_bounds-read_numbers-count-2
slice_bounds-read_numbers-count-2 c = c.if-not-starts_with-2.ensures.bound refl
