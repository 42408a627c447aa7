use Rattle.std.proofs.Common.{List, subst}
use Rattle.plane_core.specs.declared.plane.cell.Cell.{Cell}
use Rattle.plane_core.specs.windows.LonePatterns.{Holds}
use Rattle.plane_core.specs.one_sided.RestlessClusters.{AreAllRestless}
use Rattle.plane_core.specs.plane.Rules.{Numbers}
use Rattle.plane_core.proofs.plane.pattern.Pattern.rules_out_rest.Goals as goal

pub returns : goal.returns
returns c seen =
    let left = c.in-Some.origin.left in
    let top = c.in-Some.origin.top in
    let held = subst (λ (S : List Cell). Holds 16 left top c.window_of-window.result S) c.cells.ensures.cells c.window_of-window.ensures in
    subst (λ (rule : Numbers). AreAllRestless rule 16 c.window_of-window.result 0 c.args.horizon c.args.period) c.new.ensures
    (c.rules_out_rest.ensures seen) c.args.self.now left top held.in_order held.shown
