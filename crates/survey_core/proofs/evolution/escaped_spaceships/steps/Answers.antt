use Rattle.std.proofs.Common.{◌∙◌, ◌<◌, ◌≤◌, ◌^◌, ◌*ℤ◌, ℕ, ℤ, FitsSigned, arith, of_z, pos, subst₂, sym, to_z, unsigned_abs, w32}
use Rattle.std.proofs.lemmas.Int.{fits_signed_from_abs, fits_signed_mul, to_z-of_z, to_z_pos}
use Rattle.survey_core.proofs.lemmas.evolution.SpaceshipLemmas.{times-product}
use Rattle.survey_core.proofs.evolution.escaped_spaceships.steps.Goals as goal

low : (n : ℕ) → n ≤ 1000000 → n < 2 ^ 31
low n few = omega arith

product_fits : (n : ℕ) (step : ℤ) → n ≤ 1000000 → unsigned_abs step ≤ 64 → FitsSigned w32 (pos n *ℤ step)
product_fits n step few small = fits_signed_mul w32 (pos n) step 1000000 64 few small (omega arith)

pub overflow_cast-result : goal.overflow_cast-result
overflow_cast-result c = fits_signed_from_abs w32 (pos c.args.count) (low c.args.count c.requires.few)

pub overflow_mul-result : goal.overflow_mul-result
overflow_mul-result c =
    subst₂ (λ (a b : ℤ). FitsSigned w32 (a *ℤ b)) (sym (to_z_pos w32 c.args.count (low c.args.count c.requires.few)))
    (sym (to_z-of_z w32 c.args.step c.ranges.step)) (product_fits c.args.count c.args.step c.requires.few c.requires.small)

pub returns : goal.returns
returns c =
    let n = c.args.count in
    let step = c.args.step in
    (λ i. to_z w32 (of_z w32 (to_z_pos w32 n (low n c.requires.few) i *ℤ to_z-of_z w32 step c.ranges.step i)))
    ∙ to_z-of_z w32 (pos n *ℤ step) (product_fits n step c.requires.few c.requires.small) ∙ sym (times-product n step)
