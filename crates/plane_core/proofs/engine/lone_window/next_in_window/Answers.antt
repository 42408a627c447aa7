use Rattle.std.proofs.Common.{◌∙◌, List, ap, arith, refl, rules, subst, sym, w32}
use Rattle.std.proofs.lemmas.Int.{to_z-of_z}
use Rattle.plane_core.specs.declared.plane.cell.Cell.{Cell}
use Rattle.plane_core.specs.plane.Cells.{has}
use Rattle.plane_core.specs.plane.Generations.{next}
use Rattle.plane_core.specs.plane.Rules.{Numbers}
use Rattle.plane_core.specs.windows.Windows.{IsNextWindow}
use Rattle.plane_core.proofs.lemmas.one_sided.NeverRecursLemmas.{next_held}
use Rattle.plane_core.proofs.lemmas.engine.LoneWindowLemmas.{held_pattern}
use Rattle.plane_core.proofs.engine.lone_window.next_in_window.Goals as goal

pub returns : goal.returns
returns c =
    let rule = c.args.rule.now in
    let origin = c.in-Some.origin in
    let cells = c.cells.result.now in
    let later = next_held rule 16 origin.left origin.top c.window_of-window.result c.generation.new.window cells (omega arith) c.columns_of.ensures.whole
    (c.if-not-is_rim_clear.ensures refl) (subst (λ (r : Numbers). IsNextWindow r 16 c.window_of-window.result c.generation.new.window) c.new.ensures c.generation.ensures) c.window_of-window.ensures in
    c.in_ok-later.ensures
    ∙ held_pattern _ origin c.generation.new.window c.unpacked.result (next rule cells) (to_z-of_z w32 origin.left (search rules))
    (to_z-of_z w32 origin.top (search rules)) refl refl later c.unpacked.ensures
    ∙ ap (next rule) c.cells.ensures.cells

pub window_of-window-requires-clause-inside : goal.window_of-window-requires-clause-inside
window_of-window-requires-clause-inside c = λ d e.
    c.in-Some.ensures.inside d (ap (λ (cells : List Cell). has cells d) (sym c.cells.ensures.cells) ∙ e)
