use Rattle.std.proofs.Common.{◌≡◌, arith, false, get_or, subst}
use Rattle.plane_core.specs.plane.Rules.{Numbers, IsRule, is_survival}
use Rattle.plane_core.proofs.lemmas.plane.RuleLemmas.{survival_at, no_survival}
use Rattle.plane_core.proofs.plane.rule.Rule.survives.Goals as goal

pub returns-in-0-to-8-clause-survival : goal.returns-in-0-to-8-clause-survival
returns-in-0-to-8-clause-survival c =
    subst (λ (rule : Numbers). get_or c.self.inside.survivals c.args.n false ≡ is_survival rule c.args.n) c.self.view_is
    (survival_at (record { births = c.self.inside.births; survivals = c.self.inside.survivals }) c.args.n c.self.told.1 (omega arith))

pub returns-in_default-clause-survival : goal.returns-in_default-clause-survival
returns-in_default-clause-survival c =
    subst (λ (rule : Numbers). false ≡ is_survival rule c.args.n) c.self.view_is (no_survival (record { births = c.self.inside.births; survivals = c.self.inside.survivals }) c.args.n c.self.told.1 (omega arith))

pub returns-in_default-clause-rule : goal.returns-in_default-clause-rule
returns-in_default-clause-rule c = subst IsRule c.self.view_is (record { births = c.self.told.0; survivals = c.self.told.1 })

pub returns-in-0-to-8-clause-rule : goal.returns-in-0-to-8-clause-rule
returns-in-0-to-8-clause-rule c = subst IsRule c.self.view_is (record { births = c.self.told.0; survivals = c.self.told.1 })
