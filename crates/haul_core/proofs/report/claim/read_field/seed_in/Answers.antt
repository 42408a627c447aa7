use Rattle.std.proofs.Common.{◌∙◌, ap, codes, subst, sym}
use Rattle.std.proofs.lemmas.List.{append_cancel_left}
use Rattle.std.specs.Str.{IsUtf8}
use Rattle.survey_core.specs.Seeds.{seed_read}
use Rattle.haul_core.proofs.FieldLemmas.{seed_accepted, seed_is_text}
use Rattle.haul_core.proofs.report.claim.read_field.seed_in.Goals as goal

pub returns-in_err-after : goal.returns-in_err-after
returns-in_err-after c = rw c.from_residual.ensures (λ seed lawful e. c.in_err-after.ensures seed e)

pub returns-in_default : goal.returns-in_default
returns-in_default c = λ seed lawful e.
    let same = append_cancel_left (codes "seed=") c.in_ok-after.field-0.now seed (sym c.in_ok-after.ensures ∙ e) in
    c.in_default.ensures.cases.0 (subst IsUtf8 (sym same) (seed_is_text seed lawful))

pub returns-in-Err : goal.returns-in-Err
returns-in-Err c = λ seed lawful e.
    let same = append_cancel_left (codes "seed=") c.in_ok-after.field-0.now seed (sym c.in_ok-after.ensures ∙ e) in
    let told = sym (seed_accepted seed lawful) ∙ ap seed_read (sym same ∙ sym c.in-Ok.ensures.cases.0) ∙ sym c.new.ensures ∙ c.in-Err.is in
    absurd (cc)
