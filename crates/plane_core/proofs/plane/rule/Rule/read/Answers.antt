use Rattle.std.proofs.Common.{◌≡◌, ◌∙◌, ap, List, ℕ, Result, Ok, Err}
use Rattle.std.specs.Prelude.{IfOk}
use Rattle.plane_core.specs.declared.plane.rule.RuleFault.{RuleFault}
use Rattle.plane_core.specs.plane.Rules.{Numbers, IsRule, rule_read, rule_text}
use Rattle.plane_core.proofs.lemmas.plane.RuleReading.{reads_complete, reads_first, reads_rule, reads_text, reads_zero}
use Rattle.plane_core.proofs.plane.rule.Rule.read.Goals as goal

pub returns-clause-exact : goal.returns-clause-exact
returns-clause-exact c = c.of_bytes.ensures ∙ ap rule_read c.as_bytes.ensures.value

is_rule : (text : List ℕ) (read : Result Numbers RuleFault) → read ≡ rule_read text → IfOk read IsRule
is_rule text (Ok rule) e = reads_rule text rule e
is_rule text (Err fault) e = tt

has_text : (text : List ℕ) (read : Result Numbers RuleFault) → read ≡ rule_read text → IfOk read (λ rule. rule_text rule ≡ text)
has_text text (Ok rule) e = reads_text text rule e
has_text text (Err fault) e = tt

pub returns-clause-rule : goal.returns-clause-rule
returns-clause-rule c = is_rule c.args.text.now c.of_bytes.result (returns-clause-exact c)

pub returns-clause-text : goal.returns-clause-text
returns-clause-text c = has_text c.args.text.now c.of_bytes.result (returns-clause-exact c)

pub returns-clause-complete : goal.returns-clause-complete
returns-clause-complete c = reads_complete c.args.text.now _ (returns-clause-exact c)

pub returns-clause-bad_rule : goal.returns-clause-bad_rule
returns-clause-bad_rule c = reads_first c.args.text.now _ (returns-clause-exact c)

pub returns-clause-birth_zero : goal.returns-clause-birth_zero
returns-clause-birth_zero c = reads_zero c.args.text.now _ (returns-clause-exact c)
