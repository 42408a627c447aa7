use Rattle.std.proofs.Common.{◌≡◌, ◌∙◌, ◌+ℤ◌, ◌-ℤ◌, ◌≤ℤ◌, ◌≤◌, ◌^◌, subst, sym, unsigned_abs, ℤ, FitsSigned, rules, w32}
use Rattle.std.proofs.lemmas.Int.{to_z-of_z}
use Rattle.plane_core.specs.plane.Frontiers.{depth}
use Rattle.plane_core.specs.plane.Orientations.{turned_cell}
use Rattle.survey_core.proofs.lemmas.evolution.SpaceshipLemmas.{both_turned, bottom_turned, is_told, is_told_small, minus_fits, minus_small, minus_told, none_turned, right_turned}
use Rattle.survey_core.proofs.evolution.escaped_spaceships.least_depth.Goals as goal

pub returns-in-Same-clause-least : goal.returns-in-Same-clause-least
returns-in-Same-clause-least c d within =
    let b = c.args.bounds in
    let s = c.sum.result in
    let first : FitsSigned w32 b.left = search rules in
    let second : FitsSigned w32 b.top = search rules in
    let is : s ≡ b.left +ℤ b.top =
    c.sum.ensures.sum ∙ (λ i. to_z-of_z w32 b.left first i +ℤ to_z-of_z w32 b.top second i) in
    subst (λ (v : ℤ). v ≤ℤ depth (turned_cell c.args.way d)) (sym (is_told s c.sum.ensures.small)) (none_turned c.args.way b s d c.in-Same.is is within)

pub returns-in-Same-clause-small : goal.returns-in-Same-clause-small
returns-in-Same-clause-small c = is_told_small c.sum.result c.sum.ensures.small

pub returns-in-Quarter-clause-least : goal.returns-in-Quarter-clause-least
returns-in-Quarter-clause-least c d within =
    let b = c.args.bounds in
    let s = c.difference.result in
    let first : FitsSigned w32 b.left = search rules in
    let second : FitsSigned w32 b.bottom = search rules in
    let is : s ≡ b.left -ℤ b.bottom =
    c.difference.ensures.step ∙ (λ i. to_z-of_z w32 b.left first i -ℤ to_z-of_z w32 b.bottom second i) in
    subst (λ (v : ℤ). v ≤ℤ depth (turned_cell c.args.way d)) (sym (is_told s c.difference.ensures.small)) (bottom_turned c.args.way b s d c.in-Quarter.is is within)

pub returns-in-Quarter-clause-small : goal.returns-in-Quarter-clause-small
returns-in-Quarter-clause-small c = is_told_small c.difference.result c.difference.ensures.small

pub returns-in-ThreeQuarter-clause-least : goal.returns-in-ThreeQuarter-clause-least
returns-in-ThreeQuarter-clause-least c d within =
    let b = c.args.bounds in
    let s = c.difference-in-ThreeQuarter.result in
    let first : FitsSigned w32 b.top = search rules in
    let second : FitsSigned w32 b.right = search rules in
    let is : s ≡ b.top -ℤ b.right =
    c.difference-in-ThreeQuarter.ensures.step ∙ (λ i. to_z-of_z w32 b.top first i -ℤ to_z-of_z w32 b.right second i) in
    subst (λ (v : ℤ). v ≤ℤ depth (turned_cell c.args.way d)) (sym (is_told s c.difference-in-ThreeQuarter.ensures.small)) (right_turned c.args.way b s d c.in-ThreeQuarter.is is within)

pub returns-in-ThreeQuarter-clause-small : goal.returns-in-ThreeQuarter-clause-small
returns-in-ThreeQuarter-clause-small c = is_told_small c.difference-in-ThreeQuarter.result c.difference-in-ThreeQuarter.ensures.small

pub overflow_sub-result : goal.overflow_sub-result
overflow_sub-result c = minus_fits c.sum-in-Half.result c.sum-in-Half.ensures.small

pub returns-in-Half-clause-least : goal.returns-in-Half-clause-least
returns-in-Half-clause-least c d within =
    let b = c.args.bounds in
    let s = c.sum-in-Half.result in
    let first : FitsSigned w32 b.right = search rules in
    let second : FitsSigned w32 b.bottom = search rules in
    let is : s ≡ b.right +ℤ b.bottom =
    c.sum-in-Half.ensures.sum ∙ (λ i. to_z-of_z w32 b.right first i +ℤ to_z-of_z w32 b.bottom second i) in
    subst (λ (v : ℤ). v ≤ℤ depth (turned_cell c.args.way d)) (sym (minus_told s c.sum-in-Half.ensures.small))
    (both_turned c.args.way b s d c.in-Half.is is within)

pub returns-in-Half-clause-small : goal.returns-in-Half-clause-small
returns-in-Half-clause-small c =
    subst (λ (v : ℤ). unsigned_abs v ≤ 2 ^ 33) (sym (minus_told c.sum-in-Half.result c.sum-in-Half.ensures.small))
    (minus_small c.sum-in-Half.result c.sum-in-Half.ensures.small)
