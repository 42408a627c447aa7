use Rattle.std.proofs.Common.{◌≡◌, ◌+◌, ◌-◌, ◌*◌, ◌≤◌, ℕ, Fits, arith, refl, w32}
use Rattle.plane_core.specs.plane.Cells.{plane_bound}
use Rattle.plane_core.proofs.lemmas.engine.FrameLemmas.{box_in_order, lie_on}
use Rattle.plane_core.proofs.lemmas.plane.BoxRoundLemmas.{lies_round, fewer_sides}
use Rattle.plane_core.proofs.engine.frame.Frame.round.Goals as goal

fits_margin : (generations : ℕ) → generations ≤ 1000 → Fits w32 (generations + 40)
fits_margin generations low = record { fits = omega arith }

below_bound : (generations : ℕ) → generations ≤ 1000 → generations + 40 ≤ plane_bound
below_bound generations low = omega arith

word_column_below : (generations : ℕ) → generations ≤ 1000 → 64 ≤ plane_bound - (generations + 40)
word_column_below generations low = omega arith

small_margin : (generations : ℕ) → generations ≤ 1000 → generations + 40 ≤ 2000
small_margin generations low = omega arith

inside : (far generations : ℕ) → far ≤ plane_bound - (generations + 40) - 64 → far ≤ plane_bound - generations
inside far generations low = omega arith

few_words : (words n population : ℕ) → words ≤ 256 * n + 262400 → n ≡ population → words ≤ 256 * population + 271000
few_words words n population low is = omega (arith, low, is)

pub returns-clause-on : goal.returns-clause-on
returns-clause-on c = lie_on c.args.pattern.now c.in-Some.bounds c.round_box-at.result c.in-Some.ensures.least c.round_box-at.ensures.on

pub returns-clause-inside : goal.returns-clause-inside
returns-clause-inside c =
    lies_round c.args.pattern.now c.in-Some.bounds _ c.in-Some.ensures.least (fewer_sides _ _ _
    (inside c.farthest.result c.args.generations c.if-farthest-margin.false) c.farthest.ensures)

pub round_box-at-requires-clause-across : goal.round_box-at-requires-clause-across
round_box-at-requires-clause-across c = (box_in_order c.args.pattern.now c.in-Some.bounds c.in-Some.ensures.least).0

pub round_box-at-requires-clause-down : goal.round_box-at-requires-clause-down
round_box-at-requires-clause-down c = (box_in_order c.args.pattern.now c.in-Some.bounds c.in-Some.ensures.least).1

pub returns-in_default-clause-frame : goal.returns-in_default-clause-frame
returns-in_default-clause-frame c = tt

pub returns-in_default-clause-plane : goal.returns-in_default-clause-plane
returns-in_default-clause-plane c = tt

pub returns-in_default-clause-on : goal.returns-in_default-clause-on
returns-in_default-clause-on c = tt

pub returns-in_default-clause-inside : goal.returns-in_default-clause-inside
returns-in_default-clause-inside c = tt

pub returns-in_default-clause-words : goal.returns-in_default-clause-words
returns-in_default-clause-words c = tt

pub returns-then-farthest-margin-clause-frame : goal.returns-then-farthest-margin-clause-frame
returns-then-farthest-margin-clause-frame c = tt

pub returns-then-farthest-margin-clause-plane : goal.returns-then-farthest-margin-clause-plane
returns-then-farthest-margin-clause-plane c = tt

pub returns-then-farthest-margin-clause-on : goal.returns-then-farthest-margin-clause-on
returns-then-farthest-margin-clause-on c = tt

pub returns-then-farthest-margin-clause-inside : goal.returns-then-farthest-margin-clause-inside
returns-then-farthest-margin-clause-inside c = tt

pub returns-then-farthest-margin-clause-words : goal.returns-then-farthest-margin-clause-words
returns-then-farthest-margin-clause-words c = tt

pub returns-then-is_sparse-clause-frame : goal.returns-then-is_sparse-clause-frame
returns-then-is_sparse-clause-frame c = tt

pub returns-then-is_sparse-clause-plane : goal.returns-then-is_sparse-clause-plane
returns-then-is_sparse-clause-plane c = tt

pub returns-then-is_sparse-clause-on : goal.returns-then-is_sparse-clause-on
returns-then-is_sparse-clause-on c = tt

pub returns-then-is_sparse-clause-inside : goal.returns-then-is_sparse-clause-inside
returns-then-is_sparse-clause-inside c = tt

pub returns-then-is_sparse-clause-words : goal.returns-then-is_sparse-clause-words
returns-then-is_sparse-clause-words c = tt

pub overflow_add-margin : goal.overflow_add-margin
overflow_add-margin c = fits_margin c.args.generations c.requires

pub overflow_sub-margin : goal.overflow_sub-margin
overflow_sub-margin c = below_bound c.args.generations c.requires

pub overflow_sub-margin-2 : goal.overflow_sub-margin-2
overflow_sub-margin-2 c = word_column_below c.args.generations c.requires

pub round_box-at-requires-clause-margin : goal.round_box-at-requires-clause-margin
round_box-at-requires-clause-margin c = small_margin c.args.generations c.requires

pub round_box-at-requires-clause-sides : goal.round_box-at-requires-clause-sides
round_box-at-requires-clause-sides c = fewer_sides c.farthest.result _ c.in-Some.bounds c.if-farthest-margin.false c.farthest.ensures

pub is_sparse-requires : goal.is_sparse-requires
is_sparse-requires c = c.round_box-at.ensures.frame

pub returns-clause-frame : goal.returns-clause-frame
returns-clause-frame c = c.round_box-at.ensures.frame

pub returns-clause-plane : goal.returns-clause-plane
returns-clause-plane c = c.round_box-at.ensures.plane

pub returns-clause-words : goal.returns-clause-words
returns-clause-words c = few_words _ c.population.result _ (c.if-is_sparse.ensures refl) c.population.ensures
