use Rattle.std.proofs.Common.{◌≡◌, ◌∙◌, ◌+◌, ◌-◌, ◌%◌, ◌≤◌, ℕ, All, List, ap, arith, refl, subst, sym}
use Rattle.plane_core.specs.declared.plane.cell.Cell.{Cell}
use Rattle.plane_core.specs.plane.Generations.{after, lies_within}
use Rattle.survey_core.specs.declared.evolution.escaped_spaceships.Spaceship.{Spaceship}
use Rattle.survey_core.specs.evolution.SplitPatterns.{IsTraced, whole_at, whole_of}
use Rattle.survey_core.proofs.lemmas.evolution.SplitPatternLemmas.{board_later, split_later, traced_later, whole_later}
use Rattle.survey_core.specs.UnderWay.{survey_reach}
use Rattle.survey_core.proofs.lemmas.evolution.EvolutionLemmas.{in_parts}
use Rattle.survey_core.proofs.evolution.on_board.Goals as goal

-- n is the sum of n - n % 2, which is even, and n % 2
both_parts : (n : ℕ) → (n - n % 2) + n % 2 ≡ n
both_parts n = omega arith

rest_made : (made n : ℕ) → made ≤ n - n % 2 → made + (n - made) ≡ n
rest_made made n low = omega arith

is_even : (n : ℕ) → (n - n % 2) % 2 ≡ 0
is_even n = omega arith

part_within : (n g : ℕ) → g ≤ n - n % 2 → g ≤ n
part_within n g low = omega arith

rest_few : (n made : ℕ) → n ≤ 10001 → n - made ≤ 10001
rest_few n made few = omega arith

at_most_one : (n : ℕ) → n % 2 ≤ 1
at_most_one n = omega arith

-- the case of a board that was advanced by all n - n % 2 generations, to a time that isn't past `LATEST_TIME`
pub returns-then-time-le-LATEST_TIME-clause-kept : goal.returns-then-time-le-LATEST_TIME-clause-kept
returns-then-time-le-LATEST_TIME-clause-kept c =
    let n = c.args.generations in
    let rule = c.args.rule.now in
    let h = c.args.split in
    let made = c.in_ok-made.made in
    let board = c.advance.new.self.cells in (
      (
        c.in_ok-made.ensures.rule ∙ c.requires.is_split.0,
        split_later rule rule h.time made (n - n % 2) h.board.cells board h.spaceships.items c.requires.is_split.1 (is_even n) c.if-made-most.true refl
            (board_later rule h made board c.requires.is_split c.in_ok-made.ensures.after) c.if-time-le-LATEST_TIME.true,
      ),
      at_most_one n,
      ap (lies_within survey_reach) (whole_later rule h made board c.requires.is_split c.in_ok-made.ensures.after)
          ∙ c.requires.near made (part_within n made c.in_ok-made.ensures.most),
    )

pub returns-then-time-le-LATEST_TIME-clause-cells : goal.returns-then-time-le-LATEST_TIME-clause-cells
returns-then-time-le-LATEST_TIME-clause-cells c =
    let n = c.args.generations in
    let rule = c.args.rule.now in
    let h = c.args.split in
    ap (λ (S : List Cell). after rule S (n % 2)) (whole_later rule h c.in_ok-made.made c.advance.new.self.cells c.requires.is_split c.in_ok-made.ensures.after
    ∙ ap (after rule (whole_of rule h)) c.if-made-most.true)
    ∙ in_parts rule (whole_of rule h) (n - n % 2) (n % 2) n (both_parts n)

-- the case of a board that had no room, or of a time past `LATEST_TIME`: the pattern becomes a list
pub overflow_add-time : goal.overflow_add-time
overflow_add-time c = omega (arith, c.requires.is_split.1.early, c.in_ok-made.ensures.most, c.requires.few)

pub overflow_sub-generations : goal.overflow_sub-generations
overflow_sub-generations c = part_within c.args.generations c.in_ok-made.made c.in_ok-made.ensures.most

pub whole-requires-clause-traced : goal.whole-requires-clause-traced
whole-requires-clause-traced c =
    let h = c.args.split in
    let rule = c.args.rule.now in
    subst (λ (spaceships : List Spaceship). All (IsTraced rule (h.time + c.in_ok-made.made)) spaceships) (sym c.as_slice.ensures.value)
    (traced_later rule h.time c.in_ok-made.made h.board.cells h.spaceships.items c.requires.is_split.1)

pub whole-requires-clause-early : goal.whole-requires-clause-early
whole-requires-clause-early c = omega (arith, c.requires.is_split.1.early, c.in_ok-made.ensures.most, c.requires.few)

pub run_on-requires-clause-near : goal.run_on-requires-clause-near
run_on-requires-clause-near c =
    ap (lies_within survey_reach) (c.in_ok-pattern.ensures
    ∙ ap (whole_at c.args.rule.now (c.args.split.time + c.in_ok-made.made) c.advance.new.self.cells) c.as_slice.ensures.value
    ∙ whole_later c.args.rule.now c.args.split c.in_ok-made.made c.advance.new.self.cells c.requires.is_split c.in_ok-made.ensures.after)
    ∙ c.requires.near c.in_ok-made.made (part_within c.args.generations c.in_ok-made.made c.in_ok-made.ensures.most)

pub run_on-requires-clause-few : goal.run_on-requires-clause-few
run_on-requires-clause-few c = rest_few c.args.generations c.in_ok-made.made c.requires.few

pub returns-clause-kept : goal.returns-clause-kept
returns-clause-kept c =
    let n = c.args.generations in
    let rule = c.args.rule.now in
    let made = c.in_ok-made.made in
    ap (lies_within survey_reach) (c.in_ok-later.ensures ∙ ap (λ (S : List Cell). after rule S (n - made)) (c.in_ok-pattern.ensures
    ∙ ap (whole_at c.args.rule.now (c.args.split.time + c.in_ok-made.made) c.advance.new.self.cells) c.as_slice.ensures.value
    ∙ whole_later c.args.rule.now c.args.split c.in_ok-made.made c.advance.new.self.cells c.requires.is_split c.in_ok-made.ensures.after)
    ∙ in_parts rule (whole_of rule c.args.split) made (n - made) n (rest_made made n c.in_ok-made.ensures.most))
    ∙ c.requires.near n (omega arith)

pub returns-clause-cells : goal.returns-clause-cells
returns-clause-cells c =
    let n = c.args.generations in
    let rule = c.args.rule.now in
    let made = c.in_ok-made.made in
    c.in_ok-later.ensures ∙ ap (λ (S : List Cell). after rule S (n - made)) (c.in_ok-pattern.ensures
    ∙ ap (whole_at c.args.rule.now (c.args.split.time + c.in_ok-made.made) c.advance.new.self.cells) c.as_slice.ensures.value
    ∙ whole_later c.args.rule.now c.args.split c.in_ok-made.made c.advance.new.self.cells c.requires.is_split c.in_ok-made.ensures.after)
    ∙ in_parts rule (whole_of rule c.args.split) made (n - made) n (rest_made made n c.in_ok-made.ensures.most)
