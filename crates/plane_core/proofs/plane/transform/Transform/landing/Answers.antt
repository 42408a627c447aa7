use Rattle.std.proofs.Common.{◌≡◌, true, FitsSigned, rules, subst, w32}
use Rattle.std.proofs.lemmas.Int.{to_z-of_z}
use Rattle.plane_core.specs.declared.plane.cell.Cell.{Cell}
use Rattle.plane_core.specs.plane.Cells.{cell_at, moved_by, on_plane}
use Rattle.plane_core.proofs.lemmas.plane.TransformLemmas.{lands_plane, lands_there}
use Rattle.plane_core.proofs.plane.transform.Transform.landing.Goals as goal

pub returns-clause-plane : goal.returns-clause-plane
returns-clause-plane c =
    let x : FitsSigned w32 c.saturating_add.result = search rules in
    let y : FitsSigned w32 c.saturating_add-2.result = search rules in
    let left : FitsSigned w32 c.image_of-y.result.x = search rules in
    let top : FitsSigned w32 c.image_of-y.result.y = search rules in
    let right : FitsSigned w32 c.args.self.dx = search rules in
    let down : FitsSigned w32 c.args.self.dy = search rules in
    let plane = lands_plane c.args.self.dx c.args.self.dy c.image_of-y.result (cell_at c.saturating_add.result c.saturating_add-2.result)
    (simp to_z-of_z at c.saturating_add.ensures) (simp to_z-of_z at c.saturating_add-2.ensures) in
    simp to_z-of_z (subst (λ (turned : Cell). on_plane (cell_at c.saturating_add.result c.saturating_add-2.result)
    ≡ on_plane (moved_by c.args.self.dx c.args.self.dy turned)) c.image_of-y.ensures plane)

pub returns-clause-landed : goal.returns-clause-landed
returns-clause-landed c =
    let x : FitsSigned w32 c.saturating_add.result = search rules in
    let y : FitsSigned w32 c.saturating_add-2.result = search rules in
    let left : FitsSigned w32 c.image_of-y.result.x = search rules in
    let top : FitsSigned w32 c.image_of-y.result.y = search rules in
    let right : FitsSigned w32 c.args.self.dx = search rules in
    let down : FitsSigned w32 c.args.self.dy = search rules in
    let there = lands_there c.args.self.dx c.args.self.dy c.image_of-y.result (cell_at c.saturating_add.result c.saturating_add-2.result)
    (simp to_z-of_z at c.saturating_add.ensures) (simp to_z-of_z at c.saturating_add-2.ensures) in
    simp to_z-of_z (subst (λ (turned : Cell). on_plane (cell_at c.saturating_add.result c.saturating_add-2.result) ≡ true
    → cell_at c.saturating_add.result c.saturating_add-2.result ≡ moved_by c.args.self.dx c.args.self.dy turned) c.image_of-y.ensures there)
