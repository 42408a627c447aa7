use Rattle.std.proofs.Common.{◌≡◌, ◌+◌, ◌-◌, ◌<◌, ◌≤◌, ℕ, arith, get_or, length, pos, subst, take}
use Rattle.std.proofs.lemmas.List.{get_or_default}
use Rattle.plane_core.specs.declared.plane.cell.Cell.{Cell}
use Rattle.plane_core.specs.plane.Cells.{cell_at}
use Rattle.plane_core.proofs.lemmas.plane.MergeLemmas.{AreTogether, all_merged, merged_first, merged_second, none_merged}
use Rattle.plane_core.proofs.plane.pattern.merge.Goals as goal

pub loop-j-init : goal.loop-j-init
loop-j-init c = record {
  first = omega arith;
  second = omega arith;
  together = none_merged c.args.cells.now c.args.others.now c.args.count c.requires;
}

abbrev origin : Cell
origin = cell_at (pos 0) (pos 0)

pub loop-j-preserved : goal.loop-j-preserved
loop-j-preserved c =
    let before = take c.args.count c.args.cells.now in
    let others = c.args.others.now in
    let cells = c.loop-j.cells in
    let i = c.loop-j.i in
    let j = c.loop-j.j - 1 in
    let one : c.loop-j.j ≡ j + 1 = omega (arith, c.loop-j-test.true) in
    let there : j < length others = omega (arith, c.loop-j.invariant.second, c.loop-j-test.true) in
    let low : i + j < length cells = omega (arith, c.loop-j.invariant.first, there, c.loop-j.auto.cells, c.requires) in
    record {
      first = c.loop-j.invariant.first;
      second = omega (arith, there);
      together = merged_second before others cells i j (get_or others j origin) low there (get_or_default others j origin _ there)
          (subst (AreTogether before others cells i) one c.loop-j.invariant.together);
    }

pub loop-j-preserved-then-comes_later : goal.loop-j-preserved-then-comes_later
loop-j-preserved-then-comes_later c =
    let before = take c.args.count c.args.cells.now in
    let others = c.args.others.now in
    let cells = c.loop-j.cells in
    let i = c.loop-j.i - 1 in
    let j = c.loop-j.j in
    let some : 1 ≤ c.loop-j.i = c.comes_later-comes_later.ensures c.if-comes_later.true in
    let one : c.loop-j.i ≡ i + 1 = omega (arith, some) in
    let low : i + j < length cells = omega (arith, some, c.loop-j.invariant.first, c.loop-j.invariant.second, c.loop-j.auto.cells, c.requires) in
    let here : i < length cells = omega (arith, low) in
    record {
      first = omega (arith, c.loop-j.invariant.first);
      second = c.loop-j.invariant.second;
      together = merged_first before others cells i j (get_or cells i origin) low (get_or_default cells i origin _ here)
          (subst (λ (k : ℕ). AreTogether before others cells k j) one c.loop-j.invariant.together);
    }

pub returns : goal.returns
returns c =
    let none : c.loop-j.j ≡ 0 = omega arith in
    all_merged (take c.args.count c.args.cells.now) c.args.others.now c.loop-j.cells c.loop-j.i
    (subst (AreTogether (take c.args.count c.args.cells.now) c.args.others.now c.loop-j.cells c.loop-j.i) none c.loop-j.invariant.together)
