use Rattle.std.proofs.Common.{◌≡◌, ◌∙◌, ap, true, arith, option_map, subst, sym, []}
use Rattle.code_core.specs.Apgcodes.{HasCodeShape}
use Rattle.haul_core.specs.FieldSteps.{Cuts}
use Rattle.haul_core.proofs.CountLemmas.{same_count}
use Rattle.haul_core.proofs.FieldLemmas.{one_number}
use Rattle.haul_core.proofs.report.claim.read_field.count_in.Goals as goal

pub returns-then-not-is_code : goal.returns-then-not-is_code
returns-then-not-is_code c =
    let cut = subst (λ o. Cuts 42 c.args.field.now c.cut_at.result.0.now (option_map (λ r. r.now) o)) c.in_default-Some.is-1 c.cut_at.ensures in
    λ a lawful e.
    let same = same_count c.args.field.now c.cut_at.result.0.now c.in_default-Some.text.now a cut lawful e in
    let found : c.is_code.result ≡ true = c.is_code.ensures.1 (subst HasCodeShape (sym same.0) lawful.code) in
    absurd (let none = c.if-not-is_code.true in cc)

pub returns-in_err-count : goal.returns-in_err-count
returns-in_err-count c =
    let cut = subst (λ o. Cuts 42 c.args.field.now c.cut_at.result.0.now (option_map (λ r. r.now) o)) c.in_default-Some.is-1 c.cut_at.ensures in
    rw c.from_residual.ensures (λ a lawful e.
    let same = same_count c.args.field.now c.cut_at.result.0.now c.in_default-Some.text.now a cut lawful e in
    c.in_err-count.ensures a.1 lawful.fits (ap (λ r. r.now) c.in_default-Some.text-is ∙ same.1))

pub returns-then-count-eq0 : goal.returns-then-count-eq0
returns-then-count-eq0 c =
    let cut = subst (λ o. Cuts 42 c.args.field.now c.cut_at.result.0.now (option_map (λ r. r.now) o)) c.in_default-Some.is-1 c.cut_at.ensures in
    λ a lawful e.
    let same = same_count c.args.field.now c.cut_at.result.0.now c.in_default-Some.text.now a cut lawful e in
    let told = c.in_ok-count.ensures in
    let n : c.in_ok-count.count ≡ a.1 = one_number [] c.in_default-Some.text.now c.in_ok-count.count a.1 told.0 lawful.fits
    (sym (ap (λ r. r.now) c.in_default-Some.text-is) ∙ told.1) same.1 in
    let some = lawful.some in
    let zero = c.if-count-eq0.true in
    absurd (omega arith)
