use Rattle.std.proofs.Common.{◌≡◌, ◌+◌, ◌-◌, ◌<◌, ◌≤◌, ◌∙◌, ℕ, List, arith, inl, inr}
use Rattle.std.specs.declared.cmp.Ordering.TheVariants.{Less}
use Rattle.std.proofs.lemmas.Bool.{and_parts, cases_lt}
use Rattle.std.proofs.lemmas.Map.Keys.{sorted_from_all_adjacent}
use Rattle.plane_core.specs.declared.plane.cell.Cell.{Cell}
use Rattle.plane_core.specs.plane.Cells.{cell_cmp}
use Rattle.plane_core.specs.clusters.UnionFind.{cell_of}
use Rattle.plane_core.proofs.lemmas.plane.CellLemmas.{cell_cmp_total}
use Rattle.plane_core.proofs.plane.pattern.are_in_order.Goals as goal

-- if the first cells are in order and the next one comes after the last of them, one more cell is in order
more : (cells : List Cell) (place : ℕ) → 1 ≤ place
    → ((k : ℕ) → k + 1 < place → cell_cmp (cell_of cells k) (cell_of cells (k + 1)) ≡ Less)
    → cell_cmp (cell_of cells (place - 1)) (cell_of cells place) ≡ Less
    → (k : ℕ) → k + 1 < place + 1 → cell_cmp (cell_of cells k) (cell_of cells (k + 1)) ≡ Less
more cells place some before last k low = elim (cases_lt (k + 1) place) [
  | inl earlier ↦ before k earlier
  | inr late ↦
      let here : k ≡ place - 1 = omega (arith, low, late) in
      let next : k + 1 ≡ place = omega (arith, low, late) in
      (λ i. cell_cmp (cell_of cells (here i)) (cell_of cells (next i))) ∙ last
]

pub returns : goal.returns
returns c all =
    sorted_from_all_adjacent cell_cmp_total c.args.cells.now _ (λ k low. c.loop-place.invariant.1 all k (omega (arith, low, c.loop-place-test.false)))

pub loop-place-preserved : goal.loop-place-preserved
loop-place-preserved c =
    let place = c.loop-place.place in (
      omega arith,
      λ all. let both = and_parts _ _ all in
          more c.args.cells.now place c.loop-place.invariant.0 (c.loop-place.invariant.1 both.0) (c.comes_before-ordered.ensures both.1),
    )
