use Rattle.std.proofs.Common.{◌≡◌, ◌∷◌, ◌++◌, ◌∙◌, List, ℕ, ap, subst, take}
use Rattle.plane_core.specs.plane.Rules.{IsRule, digits, rule_text}
use Rattle.plane_core.proofs.plane.rule.Rule.put_text.Goals as goal

pub returns-clause-text : goal.returns-clause-text
unfolding rule_text
returns-clause-text c =
    let rule = c.self.inside in
    let text : take c.put_numbers.result c.put_numbers.new.text ≡ (98 ∷ digits 1 rule.births) ++ 115 ∷ digits 0 rule.survivals =
    c.put_numbers.ensures.text ∙ ap (λ (prefix : List ℕ). prefix ++ 115 ∷ digits 0 rule.survivals) c.put_numbers-middle.ensures.text in
    text ∙ ap rule_text c.self.view_is

pub returns-clause-rule : goal.returns-clause-rule
returns-clause-rule c = subst IsRule c.self.view_is (record { births = c.self.told.0; survivals = c.self.told.1 })
