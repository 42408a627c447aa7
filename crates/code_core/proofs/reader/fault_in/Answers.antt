use Rattle.std.proofs.Common.{length, ◌-◌, rules, sym}
use Rattle.code_core.specs.ReadingSteps.{IsStuck}
use Rattle.code_core.proofs.ReaderLoops.{Passed_fault, Passed_empty, Passed_cells}
use Rattle.code_core.proofs.reader.fault_in.Goals as goal

pub returns-in-Some-fault_at : goal.returns-in-Some-fault_at
returns-in-Some-fault_at c =
    let stuck : IsStuck c.loop-token.remainder.now = search rules in
    sym (Passed_fault c.args.text.now c.loop-token.remainder.now c.loop-token.has_cell c.in-Some-fault_at.fault c.loop-token.invariant stuck (search rules))

pub returns-then-has_cell : goal.returns-then-has_cell
returns-then-has_cell c =
    sym (Passed_cells c.args.text.now c.loop-token.remainder.now c.loop-token.has_cell (length c.args.text.now - length c.loop-token.remainder.now)
    c.loop-token.invariant (search rules) c.if-has_cell.true)

pub returns-else-has_cell : goal.returns-else-has_cell
returns-else-has_cell c =
    sym (Passed_empty c.args.text.now c.loop-token.remainder.now c.loop-token.has_cell (length c.args.text.now - length c.loop-token.remainder.now)
    c.loop-token.invariant (search rules) c.if-has_cell.false)
