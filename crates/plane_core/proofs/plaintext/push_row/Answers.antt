use Rattle.std.proofs.Common.{◌≡◌, ◌∙◌, ◌+◌, ◌++◌, ◌<◌, ◌∷◌, [], List, ℕ, ap, arith, drop, pos, sym, to_z, w32}
use Rattle.std.proofs.lemmas.Int.{ints}
use Rattle.plane_core.specs.declared.plane.cell.Cell.{Cell}
use Rattle.plane_core.specs.plane.Cells.{cell_at}
use Rattle.plane_core.specs.Plaintext.{live_cells}
use Rattle.plane_core.specs.PlaintextPlaces.{side_limit}
use Rattle.plane_core.proofs.lemmas.plaintext.PlaintextRows.{live_here, dead_here, no_cell_past, places_from}
use Rattle.plane_core.proofs.plaintext.push_row.Goals as goal
use Rattle.plane_core.proofs.plaintext.push_row.Goals.{then-is_live+in_ok-push, else-is_live}

-- a number below `side_limit` keeps its value when it is cast to `i32`
to_z_small : (n : ℕ) → n < side_limit → to_z w32 n ≡ pos n
to_z_small n small = omega (arith, ints, small)

pub loop-x-preserved : goal.loop-x-preserved
loop-x-preserved c =
    let x = c.loop-x.x in
    let y = c.args.y in
    let row = c.args.row.now in
    let cells = c.loop-x.cells.items in
    let small = c.requires x c.loop-x-test.true in
    let cell : record { y = to_z w32 y; x = to_z w32 x } ≡ cell_at (pos x) (pos y) =
    λ i. record { y = to_z_small y small.1 i; x = to_z_small x small.0 i } in
    elim c.if-is_live.branch [
      | then-is_live+in_ok-push w ↦
          ap (λ (cs : List Cell). cs ++ live_cells (places_from 0 y (x + 1) (drop (x + 1) row)))
          (ap (λ v. v.items) w.cells-is ∙ w.in_ok-push.ensures.items ∙ ap (λ (c : Cell). cells ++ c ∷ []) cell)
          ∙ sym (live_here 0 y x row cells c.loop-x-test.true (sym c.is_live.ensures ∙ w.if-is_live.true)) ∙ c.loop-x.invariant
      | else-is_live w ↦ grind (arith, dead_here)
    ]

pub returns : goal.returns
returns c = sym (no_cell_past 0 c.args.y c.loop-x.x c.args.row.now c.loop-x.cells.items c.loop-x-test.false) ∙ c.loop-x.invariant
