use Rattle.std.proofs.Common.{Ok, Some}
use Rattle.code_core.specs.declared.recurrence.Cycle.{Cycle}
use Rattle.code_core.specs.Recurrences.{IsCycle, SearchEnds}
use Rattle.code_core.proofs.RecurrenceLemmas.{found_as}
use Rattle.code_core.proofs.name.name.Goals as goal

-- the apgcode made from the phases is the apgcode of the pattern
pub returns-in_ok-name_of-in-Some : goal.returns-in_ok-name_of-in-Some
returns-in_ok-name_of-in-Some c =
    let rule = c.args.rule.now in
    let cells = c.args.pattern.now in
    let ends : SearchEnds (λ (cycle : Cycle). IsCycle rule cells c.args.limit cycle.phases.items cycle.recurrence) rule cells c.args.limit
    (Ok (Some c.in-Some.cycle)) = rw c.in-Some.is at c.in_ok-cycle.ensures in
    found_as _ _ rule cells c.args.limit c.in-Some.cycle c.in_ok-name_of-in-Some.field-0 ends
    (c.in_ok-name_of-in-Some.ensures rule c.args.limit ends.found)
