use Rattle.std.proofs.Common.{◌≡◌, ◌∙◌, ◌<◌, ◌≤◌, ℕ, ap, get_or, length, pos, subst, sym, true}
use Rattle.std.proofs.lemmas.List.{with_items_is}
use Rattle.plane_core.specs.declared.plane.cell.Cell.{Cell}
use Rattle.plane_core.specs.plane.Cells.{on_plane}
use Rattle.plane_core.specs.plane.Orientations.{landed}
use Rattle.plane_core.proofs.lemmas.plane.TransformLemmas.{all_at, all_changed, all_images_at, as_it_was, change_more}
use Rattle.plane_core.proofs.plane.transform.Transform.transform_all.Goals.{In-loop-cell}
use Rattle.plane_core.proofs.plane.transform.Transform.transform_all.Goals as goal

low : (c : In-loop-cell) → c.loop-cell.cell-index < length c.args.cells.now
low c = subst (λ (n : ℕ). c.loop-cell.cell-index < n) (ap length (c.deref_mut-cell-items.ensures.value ∙ c.in_ok-placed.ensures.items)) c.loop-cell-test.true

-- the next cell is still unchanged
same : (c : In-loop-cell) → get_or c.loop-cell.cell-items c.loop-cell.cell-index (record { y = pos 0; x = pos 0 })
    ≡ get_or c.args.cells.now c.loop-cell.cell-index (record { y = pos 0; x = pos 0 })
same c = as_it_was (landed c.args.self) c.args.cells.now c.loop-cell.cell-items c.loop-cell.cell-index _ (low c) c.loop-cell.invariant

pub landing-requires : goal.landing-requires
landing-requires c =
    let at = (goal.at.landing-requires c).In-loop-cell in
    subst (λ (cell : Cell). on_plane cell ≡ true) (sym (same at)) (all_at on_plane c.args.cells.now c.loop-cell.cell-index _ (low at) c.requires.cells)

pub loop-cell-preserved : goal.loop-cell-preserved
loop-cell-preserved c =
    let at = (goal.at.loop-cell-preserved c).In-loop-cell in
    let plane = rw (same at) at c.landing.ensures.plane in
    let there = rw (same at) at c.landing.ensures.landed in
    let on = plane ∙ all_images_at on_plane (landed c.args.self) c.args.cells.now c.loop-cell.cell-index _ (low at) c.requires.landed in
    change_more (landed c.args.self) c.args.cells.now c.loop-cell.cell-items c.loop-cell.cell-index _ c.landing.result (low at) c.loop-cell.invariant
    (there on)

pub returns : goal.returns
returns c =
    let end : length c.args.cells.now ≤ c.loop-cell.cell-index =
    subst (λ (n : ℕ). n ≤ c.loop-cell.cell-index) (ap length (c.deref_mut-cell-items.ensures.value ∙ c.in_ok-placed.ensures.items)) c.loop-cell-test.false in
    with_items_is c.in_ok-placed.placed c.loop-cell.cell-items (c.loop-cell.auto.cell-items ∙ c.deref_mut-cell-items.ensures.len)
    ∙ all_changed (landed c.args.self) c.args.cells.now c.loop-cell.cell-items c.loop-cell.cell-index end c.loop-cell.invariant
