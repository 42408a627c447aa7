use Rattle.std.proofs.Common.{◌∙◌, ◌++◌, ℕ, List, ap, codes, subst, sym}
use Rattle.std.proofs.lemmas.List.{append_cancel_left}
use Rattle.std.specs.Str.{IsUtf8}
use Rattle.plane_core.specs.plane.Rules.{rule_text}
use Rattle.haul_core.proofs.FieldLemmas.{rule_is_text}
use Rattle.haul_core.proofs.report.claim.read_field.rule_in.Goals as goal

pub returns-in_err-after : goal.returns-in_err-after
returns-in_err-after c = rw c.from_residual.ensures (λ rule lawful e. c.in_err-after.ensures (rule_text rule) e)

pub returns-in_default : goal.returns-in_default
returns-in_default c = λ rule lawful e.
    let same = append_cancel_left (codes "rule=") c.in_ok-after.field-0.now (rule_text rule) (sym c.in_ok-after.ensures ∙ e) in
    c.in_default.ensures.cases.0 (subst IsUtf8 (sym same) (rule_is_text rule lawful))

pub returns-in-Ok-read : goal.returns-in-Ok-read
returns-in-Ok-read c = (
  c.in-Ok-read.ensures.rule,
  c.in_ok-after.ensures ∙ ap (λ (text : List ℕ). codes "rule=" ++ text) (sym c.in-Ok.ensures.cases.0 ∙ sym c.in-Ok-read.ensures.text),
)

pub returns-in-Err : goal.returns-in-Err
returns-in-Err c = λ rule lawful e.
    let same = append_cancel_left (codes "rule=") c.in_ok-after.field-0.now (rule_text rule) (sym c.in_ok-after.ensures ∙ e) in
    let told = sym (c.read.ensures.complete rule lawful (sym (c.in-Ok.ensures.cases.0 ∙ same))) ∙ c.in-Err.is in
    absurd (cc)
