use Rattle.std.proofs.Common.{◌≡◌, ◌∙◌, ◌+◌, ◌<◌, ◌≤◌, ◌++◌, ◌∷◌, [], ℕ, Bool, cond, List, ap, sym, length, get_or, take, le-ltb}
use Rattle.std.specs.List.{filter}
use Rattle.std.proofs.lemmas.Bool.{lt-ltb}
use Rattle.std.proofs.lemmas.List.{append-nil, take_all}
use Rattle.std.proofs.lemmas.List.Elements.{filter_more}
use Rattle.ranges.specs.RangeSteps.{has_numbers}
use Rattle.ranges.specs.declared.range.Range.{Range}
use Rattle.ranges.proofs.range.with_numbers.Goals as goal
use Rattle.ranges.proofs.range.with_numbers.Goals.{then-range-gt0+in_ok-push, else-range-gt0}

-- if the next range has numbers, it is kept
kept : (rs : List Range) (i : ℕ) (d : Range) (some new : List Range) → i < length rs → 0 < (get_or rs i d).count → some ≡ filter has_numbers (take i rs)
    → new ≡ some ++ get_or rs i d ∷ [] → new ≡ filter has_numbers (take (i + 1) rs)
kept rs i d some new low some_count so_far is =
    is ∙ ap (λ (xs : List Range). xs ++ get_or rs i d ∷ []) so_far
    ∙ sym (filter_more has_numbers rs i d low
    ∙ ap (λ (b : Bool). filter has_numbers (take i rs) ++ cond b (get_or rs i d ∷ []) []) (lt-ltb 0 (get_or rs i d).count some_count))

-- if the next range is empty, it is left out
left_out : (rs : List Range) (i : ℕ) (d : Range) (some : List Range) → i < length rs → (get_or rs i d).count ≤ 0 → some ≡ filter has_numbers (take i rs)
    → some ≡ filter has_numbers (take (i + 1) rs)
left_out rs i d some low no_count so_far =
    so_far ∙ sym (filter_more has_numbers rs i d low
    ∙ ap (λ (b : Bool). filter has_numbers (take i rs) ++ cond b (get_or rs i d ∷ []) []) (le-ltb 0 (get_or rs i d).count no_count)
    ∙ append-nil (filter has_numbers (take i rs)))

pub loop-range-preserved : goal.loop-range-preserved
loop-range-preserved c = elim c.if-range-gt0.branch [
  | then-range-gt0+in_ok-push w ↦ ap (λ v. v.items) w.some-is
      ∙ kept c.args.ranges.now c.loop-range.range-index (record { first = 0; count = 0 }) c.loop-range.some.items w.push.new.self.items c.loop-range-test.true
      w.if-range-gt0.true c.loop-range.invariant w.in_ok-push.ensures.items
  | else-range-gt0 w ↦ ap (λ v. v.items) w.some-is
      ∙ left_out c.args.ranges.now c.loop-range.range-index (record { first = 0; count = 0 }) c.loop-range.some.items c.loop-range-test.true
      w.if-range-gt0.false c.loop-range.invariant
]

pub returns : goal.returns
returns c = c.loop-range.invariant ∙ ap (λ (rs : List Range). filter has_numbers rs) (take_all c.loop-range.range-index c.args.ranges.now c.loop-range-test.false)
