use Rattle.std.proofs.Common.{◌≡◌, ◌↔◌, ℕ, subst}
use Rattle.haul_core.specs.Missing.{IsComplete}
use Rattle.haul_core.proofs.book.haul.Haul.recall_complete_if_none_missing.Goals as goal

pub returns : goal.returns
returns c =
    let haul = c.args.self.now in
    subst (λ (n : ℕ). (n ≡ 0) ↔ IsComplete haul.terms.ranges haul.taken) c.missing_count.ensures.count c.missing_count.ensures.none
