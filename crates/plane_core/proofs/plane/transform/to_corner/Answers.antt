use Rattle.std.proofs.Common.{◌≡◌, ◌∙◌, ℕ, Bool, true, false, is_some, leb, max, refl, List, ap, sym, map, Some, w32, FitsSigned, rules}
use Rattle.std.specs.Bool.{then_some}
use Rattle.std.specs.Prelude.{IfSome}
use Rattle.std.proofs.lemmas.Int.{to_z-of_z}
use Rattle.std.proofs.lemmas.List.{take_all}
use Rattle.plane_core.specs.declared.plane.cell.Cell.{Cell}
use Rattle.plane_core.specs.plane.Bounds.{box_of, grown}
use Rattle.plane_core.specs.plane.Cells.{on_plane, plane_bound}
use Rattle.plane_core.specs.declared.plane.transform.Transform.{Transform}
use Rattle.plane_core.specs.plane.Orientations.{turned_cell}
use Rattle.plane_core.proofs.lemmas.plane.BoundsLemmas.{image_box_more}
use Rattle.plane_core.proofs.lemmas.plane.TransformLemmas.{all_at}
use Rattle.plane_core.proofs.lemmas.plane.TurnLemmas.{image_corner_small, nothing_on_plane, turned_on_plane}
use Rattle.plane_core.proofs.plane.transform.to_corner.Goals.{After-loop-cell}
use Rattle.plane_core.proofs.plane.transform.to_corner.Goals as goal

pub image_of-requires : goal.image_of-requires
image_of-requires c = all_at on_plane c.args.cells.now c.loop-cell.cell-index _ c.loop-cell-test.true c.requires

pub loop-cell-preserved : goal.loop-cell-preserved
loop-cell-preserved c =
    ap Some (c.grown.ensures ∙ (λ i. grown (c.image_of.ensures i) (c.loop-cell.invariant i)))
    ∙ sym (image_box_more (turned_cell c.args.orientation) c.args.cells.now c.loop-cell.cell-index _ c.loop-cell-test.true)

-- after the loop, `bounds` is the box of the images of all cells
all : (c : After-loop-cell) → c.loop-cell.bounds ≡ box_of (map (turned_cell c.args.orientation) c.args.cells.now)
all c =
    c.loop-cell.invariant
    ∙ ap (λ (cells : List Cell). box_of (map (turned_cell c.args.orientation) cells)) (take_all c.loop-cell.cell-index c.args.cells.now c.loop-cell-test.false)

pub negated-requires : goal.negated-requires
negated-requires c =
    let fits : FitsSigned w32 c.in-Some.bounds.left = search rules in
    let box = sym (all (goal.at.negated-requires c).After-loop-cell) ∙ c.in-Some.is in
    simp to_z-of_z ((image_corner_small c.args.orientation c.args.cells.now c.in-Some.bounds box c.requires).0)

pub negated-requires-2 : goal.negated-requires-2
negated-requires-2 c =
    let fits : FitsSigned w32 c.in-Some.bounds.top = search rules in
    let box = sym (all (goal.at.negated-requires-2 c).After-loop-cell) ∙ c.in-Some.is in
    simp to_z-of_z ((image_corner_small c.args.orientation c.args.cells.now c.in-Some.bounds box c.requires).1)

pub returns-in_default-clause-plane : goal.returns-in_default-clause-plane
returns-in_default-clause-plane c =
    nothing_on_plane c.args.orientation c.args.cells.now (sym (all (goal.at.returns-in_default-clause-plane c).After-loop-cell) ∙ c.in_default.is)

told : (b : Bool) (x y : Transform) → x ≡ y → IfSome (then_some b x) (λ p. p ≡ y)
told true x y same = same
told false x y same = tt

is_told : (b : Bool) (x : Transform) → is_some (then_some b x) ≡ b
is_told true x = refl
is_told false x = refl

pub returns-clause-transform : goal.returns-clause-transform
returns-clause-transform c =
    let box : box_of (map (turned_cell c.args.orientation) c.args.cells.now) ≡ Some c.in-Some.bounds =
    sym (all (goal.at.returns-clause-transform c).After-loop-cell) ∙ c.in-Some.is in
    rw (c.then_some.ensures, box) (told _ _ _ (search rules))

pub returns-clause-plane : goal.returns-clause-plane
returns-clause-plane c =
    let left : FitsSigned w32 c.in-Some.bounds.left = search rules in
    let top : FitsSigned w32 c.in-Some.bounds.top = search rules in
    let right : FitsSigned w32 c.in-Some.bounds.right = search rules in
    let bottom : FitsSigned w32 c.in-Some.bounds.bottom = search rules in
    let box = sym (all (goal.at.returns-clause-plane c).After-loop-cell) ∙ c.in-Some.is in
    let across = simp to_z-of_z at c.abs_diff-across.ensures in
    let down = simp to_z-of_z at c.abs_diff-down.ensures in
    ap is_some c.then_some.ensures ∙ is_told _ _ ∙ ap (λ (n : ℕ). leb n plane_bound) (c.max.ensures ∙ (λ i. max (across i) (down i)))
    ∙ turned_on_plane c.args.orientation c.args.cells.now c.in-Some.bounds box
