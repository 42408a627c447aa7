use Rattle.std.proofs.Common.{◌-◌, ◌<◌, ℕ, FitsSigned, List, Option, get_or, pos, rules, subst, sym, w32}
use Rattle.std.specs.Prelude.{IfSome}
use Rattle.std.proofs.lemmas.Int.{to_z-of_z}
use Rattle.plane_core.specs.declared.plane.cell.Cell.{Cell}
use Rattle.plane_core.specs.plane.Parts.{IsCut}
use Rattle.plane_core.proofs.lemmas.plane.CutLemmas.{is_cut}
use Rattle.plane_core.proofs.plane.pattern.Pattern.cut.Goals.{After-abs_diff, then-abs_diff-far+else-i-cells, else-abs_diff-far}
use Rattle.plane_core.proofs.plane.pattern.Pattern.cut.Goals as goal

found : (c : After-abs_diff) → c.args.far < c.abs_diff.result → IsCut c.args.far c.args.self.now c.loop-i.i
found c far =
    let i = c.loop-i.i in
    let cells = c.cells-cells.result.now in
    let below : FitsSigned w32 (get_or cells i (record { y = pos 0; x = pos 0 })).y = search rules in
    let above : FitsSigned w32 (get_or cells (i - 1) (record { y = pos 0; x = pos 0 })).y = search rules in
    let apart = simp to_z-of_z at c.abs_diff.ensures in
    subst (λ (S : List Cell). IsCut c.args.far S i) c.cells-cells.ensures.cells
    (is_cut cells i c.args.far (record { y = pos 0; x = pos 0 }) (rw (sym c.cells-cells.ensures.cells) at c.cells-cells.ensures.pattern.in_order)
    c.loop-i.auto.i c.loop-i-test.true (subst (λ (n : ℕ). c.args.far < n) apart far))

pub returns-then-i-cells-clause-cut : goal.returns-then-i-cells-clause-cut
returns-then-i-cells-clause-cut c = found (goal.at.returns-then-i-cells-clause-cut c).After-abs_diff c.if-abs_diff-far.true

pub loop-i-preserved : goal.loop-i-preserved
loop-i-preserved c = elim c.if-abs_diff-far.branch [
  | then-abs_diff-far+else-i-cells w ↦ subst (λ (o : Option ℕ). IfSome o (IsCut c.args.far c.args.self.now)) (sym w.cut-is)
      (found (goal.at.loop-i-preserved c).After-abs_diff w.if-abs_diff-far.true)
  | else-abs_diff-far w ↦ subst (λ (o : Option ℕ). IfSome o (IsCut c.args.far c.args.self.now)) (sym w.cut-is) c.loop-i.invariant
]
