use Rattle.std.proofs.Common.{rules, w32, FitsSigned}
use Rattle.std.proofs.lemmas.Int.{to_z-of_z}
use Rattle.plane_core.specs.plane.Bounds.{IsRoundBoth}
use Rattle.plane_core.proofs.lemmas.engine.CoverLemmas.{joined_one, joined_other, joined_sides}
use Rattle.plane_core.proofs.plane.bounds.Bounds.joined.Goals as goal

is_joined : (c : goal.After-max-2) → IsRoundBoth c.args.self c.args.other (record {
  left = c.min.result;
  top = c.min-2.result;
  right = c.max.result;
  bottom = c.max-2.result;
})
is_joined c =
    let l : FitsSigned w32 c.args.self.left = search rules in
    let t : FitsSigned w32 c.args.self.top = search rules in
    let r : FitsSigned w32 c.args.self.right = search rules in
    let b : FitsSigned w32 c.args.self.bottom = search rules in
    let m : FitsSigned w32 c.args.other.left = search rules in
    let u : FitsSigned w32 c.args.other.top = search rules in
    let s : FitsSigned w32 c.args.other.right = search rules in
    let d : FitsSigned w32 c.args.other.bottom = search rules in
    record {
      left = simp to_z-of_z at c.min.ensures.value;
      top = simp to_z-of_z at c.min-2.ensures.value;
      right = simp to_z-of_z at c.max.ensures.value;
      bottom = simp to_z-of_z at c.max-2.ensures.value;
    }

pub returns-clause-least : goal.returns-clause-least
returns-clause-least c =
    let left : FitsSigned w32 c.min.result = search rules in
    let top : FitsSigned w32 c.min-2.result = search rules in
    let right : FitsSigned w32 c.max.result = search rules in
    let bottom : FitsSigned w32 c.max-2.result = search rules in
    simp to_z-of_z (is_joined c)

pub returns-clause-one : goal.returns-clause-one
returns-clause-one c = λ d h. joined_one c.args.self c.args.other _ d (returns-clause-least c) h

pub returns-clause-other : goal.returns-clause-other
returns-clause-other c = λ d h. joined_other c.args.self c.args.other _ d (returns-clause-least c) h

pub returns-clause-sides : goal.returns-clause-sides
returns-clause-sides c = λ n h k. joined_sides n c.args.self c.args.other _ (returns-clause-least c) h k
