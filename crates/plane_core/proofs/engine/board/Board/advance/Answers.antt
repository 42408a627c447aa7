use Rattle.std.proofs.Common.{◌≡◌, ◌≢◌, ◌∙◌, ◌+◌, ◌-◌, ◌*◌, ◌/◌, ◌%◌, ◌<◌, ◌≤◌, ℕ, ap, arith, min, sym}
use Rattle.std.proofs.lemmas.Result.{IfOk-from_err}
use Rattle.plane_core.specs.engine.Boards.{Running}
use Rattle.plane_core.specs.plane.Generations.{after}
use Rattle.plane_core.proofs.lemmas.engine.AdvanceLemmas.{fits_below}
use Rattle.plane_core.proofs.lemmas.plane.GenerationLemmas.{after-none}
use Rattle.plane_core.proofs.lemmas.plane.RunLemmas.{after-plus}
use Rattle.plane_core.proofs.engine.board.Board.advance.Goals as goal
use Rattle.plane_core.proofs.engine.board.Board.advance.Goals.{then-most-eq1+in_ok-made, else-most-eq1}

-- the number of generations left, rounded down to a multiple of 2, is even
left_even : (most made : ℕ) → ((most - made) / 2 * 2) % 2 ≡ 0
left_even most made = omega arith

halves : (n : ℕ) → n / 2 * 2 ≤ n
halves n = omega arith

with_left : (most made : ℕ) → made ≤ most → made + (most - made) / 2 * 2 ≤ most
with_left most made low = omega arith

fewer_left : (most made count leapt : ℕ) → leapt ≢ 0 → count ≤ most - made → leapt ≤ count → most - (made + leapt) < most - made
fewer_left most made count leapt some few all = omega arith

less : (most made : ℕ) → most - made ≤ most
less most made = omega arith

-- If `few` is the smaller of `left` and 4, `few / 2 * 2` is at most 4 and at most `left`, and at least 1 if `left` is
-- at least 2.
some_even : (left few : ℕ) → 2 ≤ left → few ≡ min left 4 → 1 ≤ few / 2 * 2
some_even left few some is = omega arith

few_even : (left few : ℕ) → few ≡ min left 4 → few / 2 * 2 ≤ 4
few_even left few is = omega arith

most_even : (left few : ℕ) → few ≡ min left 4 → few / 2 * 2 ≤ left
most_even left few is = omega arith

fewer : {a b c : ℕ} → a ≤ b → b ≤ c → a ≤ c
fewer low high = omega (arith, low, high)

odd_few : (most made start : ℕ) → start ≡ made → made ≤ most % 4 → start ≤ most
odd_few most made start is low = omega (arith, is, low)

none : (most start : ℕ) → start ≡ 0 → start ≤ most
none most start is = omega (arith, is)

few : (most : ℕ) → most % 4 ≤ 4
few most = omega arith

some_of_odd : (most : ℕ) → most % 2 ≡ 1 → 1 ≤ most % 4
some_of_odd most odd = omega (arith, odd)

pub leap-requires-clause-some : goal.leap-requires-clause-some
leap-requires-clause-some c = some_of_odd c.args.most c.if-most-eq1.true

pub leap-requires-clause-few : goal.leap-requires-clause-few
leap-requires-clause-few c = few c.args.most

pub loop-made-init : goal.loop-made-init
loop-made-init c =
    let rule = c.args.self.now.rule in
    let cells = c.args.self.now.cells in
    elim c.if-most-eq1.branch [
      | then-most-eq1+in_ok-made w ↦ record {
        rule = ap (λ (b : Running). b.rule) w.self-is ∙ w.leap.ensures.rule;
        most = odd_few c.args.most w.in_ok-made.made c.if-most-eq1.made w.made-is w.in_ok-made.ensures.most;
        after = ap (λ (b : Running). b.cells) w.self-is ∙ w.in_ok-made.ensures.after ∙ ap (λ (n : ℕ). after rule cells n) (sym w.made-is);
      }
      | else-most-eq1 w ↦ record {
        rule = ap (λ (b : Running). b.rule) w.self-is;
        most = none c.args.most c.if-most-eq1.made w.made-is;
        after = ap (λ (b : Running). b.cells) w.self-is ∙ sym (after-none rule cells) ∙ ap (λ (n : ℕ). after rule cells n) (sym w.made-is);
      }
    ]

pub returns-in_err-made-clause-rule : goal.returns-in_err-made-clause-rule
returns-in_err-made-clause-rule c = c.leap.ensures.rule

pub returns-in_err-made-clause-most : goal.returns-in_err-made-clause-most
returns-in_err-made-clause-most c = IfOk-from_err _ _ c.from_residual.ensures.0

pub returns-in_err-made-clause-after : goal.returns-in_err-made-clause-after
returns-in_err-made-clause-after c = IfOk-from_err _ _ c.from_residual.ensures.0

pub returns-then-still-clause-after : goal.returns-then-still-clause-after
returns-then-still-clause-after c =
    let before = c.loop-made.invariant in
    let rule = c.args.self.now.rule in
    let cells = c.args.self.now.cells in
    let made = c.loop-made.made in
    let left = (c.args.most - made) / 2 * 2 in
    sym (c.is_still-still.ensures c.if-still.true left (left_even c.args.most made))
    ∙ (λ i. after (before.rule i) (before.after i) left) ∙ after-plus rule cells made left

-- after one more leap, at most `most` generations were made
more_made : (most made count leapt : ℕ) → made ≤ most → count ≤ most - made → leapt ≤ count → made + leapt ≤ most
more_made most made count leapt low few all = omega arith

pub loop-made-preserved : goal.loop-made-preserved
loop-made-preserved c =
    let before = c.loop-made.invariant in
    let rule = c.args.self.now.rule in
    let cells = c.args.self.now.cells in
    let made = c.loop-made.made in
    let leapt = c.in_ok-leapt.leapt in
    record {
      rule = c.leap-in-loop-made.ensures.rule ∙ before.rule;
      most = more_made c.args.most made _ leapt before.most (most_even (c.args.most - c.loop-made.made) c.min.result c.min.ensures) c.in_ok-leapt.ensures.most;
      after = c.in_ok-leapt.ensures.after ∙ (λ i. after (before.rule i) (before.after i) leapt) ∙ after-plus rule cells made leapt;
    }

pub overflow_sub-most : goal.overflow_sub-most
overflow_sub-most c = c.loop-made.invariant.most

pub overflow_mul-result : goal.overflow_mul-result
overflow_mul-result c = fits_below _ _ (halves (c.args.most - c.loop-made.made)) (fits_below _ c.args.most (less c.args.most c.loop-made.made) c.ranges.most)

pub overflow_add-result : goal.overflow_add-result
overflow_add-result c = fits_below _ c.args.most (with_left c.args.most c.loop-made.made c.loop-made.invariant.most) c.ranges.most

pub returns-then-still-clause-rule : goal.returns-then-still-clause-rule
returns-then-still-clause-rule c = c.loop-made.invariant.rule

pub returns-then-still-clause-most : goal.returns-then-still-clause-most
returns-then-still-clause-most c = with_left c.args.most c.loop-made.made c.loop-made.invariant.most

pub overflow_sub-most-in-loop-made : goal.overflow_sub-most-in-loop-made
overflow_sub-most-in-loop-made c = c.loop-made.invariant.most

pub overflow_mul-count : goal.overflow_mul-count
overflow_mul-count c =
    fits_below _ c.args.most (fewer (most_even (c.args.most - c.loop-made.made) c.min.result c.min.ensures) (less c.args.most c.loop-made.made)) c.ranges.most

pub leap-requires-in-loop-made-clause-some : goal.leap-requires-in-loop-made-clause-some
leap-requires-in-loop-made-clause-some c = some_even (c.args.most - c.loop-made.made) c.min.result c.loop-made-test.true c.min.ensures

pub leap-requires-in-loop-made-clause-few : goal.leap-requires-in-loop-made-clause-few
leap-requires-in-loop-made-clause-few c = few_even (c.args.most - c.loop-made.made) c.min.result c.min.ensures

pub returns-in_err-leapt-clause-rule : goal.returns-in_err-leapt-clause-rule
returns-in_err-leapt-clause-rule c = c.leap-in-loop-made.ensures.rule ∙ c.loop-made.invariant.rule

pub returns-in_err-leapt-clause-most : goal.returns-in_err-leapt-clause-most
returns-in_err-leapt-clause-most c = IfOk-from_err _ _ c.from_residual-in_err-leapt.ensures.0

pub returns-in_err-leapt-clause-after : goal.returns-in_err-leapt-clause-after
returns-in_err-leapt-clause-after c = IfOk-from_err _ _ c.from_residual-in_err-leapt.ensures.0

pub returns-then-leapt-eq0-clause-rule : goal.returns-then-leapt-eq0-clause-rule
returns-then-leapt-eq0-clause-rule c = c.leap-in-loop-made.ensures.rule ∙ c.loop-made.invariant.rule

pub returns-then-leapt-eq0-clause-most : goal.returns-then-leapt-eq0-clause-most
returns-then-leapt-eq0-clause-most c = c.loop-made.invariant.most

pub returns-then-leapt-eq0-clause-after : goal.returns-then-leapt-eq0-clause-after
returns-then-leapt-eq0-clause-after c =
    let before = c.loop-made.invariant in
    c.in_ok-leapt.ensures.after ∙ (λ i. after (before.rule i) (before.after i) (c.if-leapt-eq0.true i))
    ∙ after-none c.args.self.now.rule (after c.args.self.now.rule c.args.self.now.cells c.loop-made.made)

pub overflow_add-made : goal.overflow_add-made
overflow_add-made c =
    fits_below _ c.args.most (more_made c.args.most c.loop-made.made _ c.in_ok-leapt.leapt c.loop-made.invariant.most
    (most_even (c.args.most - c.loop-made.made) c.min.result c.min.ensures) c.in_ok-leapt.ensures.most) c.ranges.most

pub loop-made-smaller : goal.loop-made-smaller
loop-made-smaller c =
    fewer_left c.args.most c.loop-made.made _ c.in_ok-leapt.leapt c.if-leapt-eq0.false (most_even (c.args.most - c.loop-made.made) c.min.result c.min.ensures) c.in_ok-leapt.ensures.most

pub returns-clause-rule : goal.returns-clause-rule
returns-clause-rule c = c.loop-made.invariant.rule

pub returns-clause-most : goal.returns-clause-most
returns-clause-most c = c.loop-made.invariant.most

pub returns-clause-after : goal.returns-clause-after
returns-clause-after c = c.loop-made.invariant.after
