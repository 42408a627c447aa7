use Rattle.std.proofs.Common.{◌≡◌, ℕ, arith, subst}
use Rattle.plane_core.specs.windows.Windows.{IsLaterWindow}
use Rattle.plane_core.proofs.lemmas.windows.WindowLemmas.{none_made, one_made}
use Rattle.plane_core.proofs.windows.window.generations_with_logic.Goals as goal

pub loop-init : goal.loop-init
loop-init g c = none_made (g.A.CellLogic.rule c.args.rule.now) g.row.N c.args.window.now

pub loop-preserved : goal.loop-preserved
loop-preserved g c =
    one_made (g.A.CellLogic.rule c.args.rule.now) g.row.N c.args.window.now c.loop.window c.generation_with_logic.new.window c.loop.counter c.loop.invariant
    c.generation_with_logic.ensures

pub returns : goal.returns
returns g c =
    let all : c.loop.counter ≡ c.args.count = omega arith in
    subst (λ (n : ℕ). IsLaterWindow (g.A.CellLogic.rule c.args.rule.now) g.row.N c.args.window.now c.loop.window n) all c.loop.invariant
