use Rattle.std.proofs.Common.{◌≡◌, ◌∙◌, ap, option_map, subst, sym, true}
use Rattle.haul_core.specs.ClaimSteps.{IsAfter}
use Rattle.haul_core.proofs.CountedLemmas.{one_count}
use Rattle.haul_core.proofs.report.claim.read_line.count_after.Goals as goal

pub returns-else-is_after : goal.returns-else-is_after
returns-else-is_after c =
    λ object may e.
    let told = c.in_ok-code.ensures in
    let same = one_count object (c.in_ok-code.code.now, c.in_ok-code.count) may.0 told.0 (sym e ∙ told.1) in
    let after = subst (IsAfter (option_map (λ own. own.now) c.args.last)) (ap (λ o. o.0) same) may.1 in
    let found : c.is_after.result ≡ true = c.is_after.ensures.1 after in
    absurd (let none = c.if-is_after.false in cc)
