use Rattle.std.proofs.Common.{◌∙◌, sym}
use Rattle.std.proofs.lemmas.Bool.Decides.{Decides-and}
use Rattle.std.specs.Cmp.{booleans_Decides}
use Rattle.std.specs.Cmp.Lexicographic.{pointwise_decides}
use Rattle.plane_core.proofs.windows.rule_logic.RuleLogic.new.Goals as goal

pub returns-then-eq : goal.returns-then-eq
returns-then-eq c =
    let rule = c.args.rule.now in
    let made = c.life.result in
    let tables =
    Decides-and _ _ (pointwise_decides booleans_Decides rule.births made.births) (pointwise_decides booleans_Decides rule.survivals made.survivals) in
    let same = tables.0 (sym c.eq.ensures ∙ c.if-eq.true) in
    λ i. record { births = sym (same.0 ∙ c.life.ensures.births) i; survivals = sym (same.1 ∙ c.life.ensures.survivals) i }
