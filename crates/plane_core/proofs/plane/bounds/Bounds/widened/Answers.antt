use Rattle.std.proofs.Common.{◌≡◌, w32, FitsSigned, rules}
use Rattle.std.specs.Int.{int_min, int_max}
use Rattle.std.proofs.lemmas.Int.{to_z-of_z}
use Rattle.plane_core.proofs.plane.bounds.Bounds.widened.Goals as goal

pub returns : goal.returns
returns c =
    let box = c.args.self in
    let cell = c.args.cell in
    let fits_x : FitsSigned w32 cell.x = search rules in
    let fits_y : FitsSigned w32 cell.y = search rules in
    let fits_left : FitsSigned w32 box.left = search rules in
    let fits_top : FitsSigned w32 box.top = search rules in
    let fits_right : FitsSigned w32 box.right = search rules in
    let fits_bottom : FitsSigned w32 box.bottom = search rules in
    let fits_min_x : FitsSigned w32 c.min.result = search rules in
    let fits_min_y : FitsSigned w32 c.min-2.result = search rules in
    let fits_max_x : FitsSigned w32 c.max.result = search rules in
    let fits_max_y : FitsSigned w32 c.max-2.result = search rules in
    let left : c.min.result ≡ int_min cell.x box.left = simp to_z-of_z at c.min.ensures.value in
    let top : c.min-2.result ≡ int_min cell.y box.top = simp to_z-of_z at c.min-2.ensures.value in
    let right : c.max.result ≡ int_max cell.x box.right = simp to_z-of_z at c.max.ensures.value in
    let bottom : c.max-2.result ≡ int_max cell.y box.bottom = simp to_z-of_z at c.max-2.ensures.value in
    simp to_z-of_z (λ i. record { left = left i; top = top i; right = right i; bottom = bottom i })
