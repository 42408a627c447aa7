use Rattle.std.proofs.Common.{◌≡◌, ◌-◌, arith, false, get_or, inl, inr, subst}
use Rattle.plane_core.specs.plane.Rules.{Numbers, IsRule, is_birth}
use Rattle.plane_core.proofs.lemmas.plane.RuleLemmas.{birth_at, no_birth}
use Rattle.plane_core.proofs.plane.rule.Rule.births.Goals as goal

pub returns-in-1-to-8-clause-birth : goal.returns-in-1-to-8-clause-birth
returns-in-1-to-8-clause-birth c =
    subst (λ (rule : Numbers). get_or c.self.inside.births (c.args.n - 1) false ≡ is_birth rule c.args.n) c.self.view_is
    (birth_at (record { births = c.self.inside.births; survivals = c.self.inside.survivals }) c.args.n c.self.told.0 (omega arith) (omega arith))

pub returns-in_default-clause-birth : goal.returns-in_default-clause-birth
returns-in_default-clause-birth c =
    subst (λ (rule : Numbers). false ≡ is_birth rule c.args.n) c.self.view_is (no_birth (record { births = c.self.inside.births; survivals = c.self.inside.survivals }) c.args.n c.self.told.0 (inl (omega arith)))

pub returns-in_default-2-clause-birth : goal.returns-in_default-2-clause-birth
returns-in_default-2-clause-birth c =
    subst (λ (rule : Numbers). false ≡ is_birth rule c.args.n) c.self.view_is (no_birth (record { births = c.self.inside.births; survivals = c.self.inside.survivals }) c.args.n c.self.told.0 (inr (omega arith)))

pub returns-in_default-clause-rule : goal.returns-in_default-clause-rule
returns-in_default-clause-rule c = subst IsRule c.self.view_is (record { births = c.self.told.0; survivals = c.self.told.1 })

pub returns-in_default-2-clause-rule : goal.returns-in_default-2-clause-rule
returns-in_default-2-clause-rule c = subst IsRule c.self.view_is (record { births = c.self.told.0; survivals = c.self.told.1 })

pub returns-in-1-to-8-clause-rule : goal.returns-in-1-to-8-clause-rule
returns-in-1-to-8-clause-rule c = subst IsRule c.self.view_is (record { births = c.self.told.0; survivals = c.self.told.1 })
