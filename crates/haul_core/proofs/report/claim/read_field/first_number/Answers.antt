use Rattle.std.proofs.Common.{arith, option_map, refl, subst, sym, decimal, ◌∙◌}
use Rattle.haul_core.specs.FieldSteps.{Cuts}
use Rattle.haul_core.proofs.SpaceLemmas.{cut_once, decimal_lacks}
use Rattle.haul_core.proofs.report.claim.read_field.first_number.Goals as goal

pub returns-in_err-number : goal.returns-in_err-number
returns-in_err-number c =
    let cut = subst (λ o. Cuts 44 c.args.text.now c.cut_at.result.0.now (option_map (λ r. r.now) o)) c.in_default-Some.is-1 c.cut_at.ensures in
    rw c.from_residual.ensures (λ n remainder small e.
    let same = cut_once 44 c.cut_at.result.0.now (decimal n) c.in_default-Some.remainder.now remainder cut.1 (decimal_lacks 44 n refl (omega arith)) (sym cut.0 ∙ e) in
    c.in_err-number.ensures n small same.0)
