use Rattle.std.proofs.Common.{◌≡◌, ◌==◌, ◌∙◌, ◌||◌, Bool, ap, get_or, sym}
use Rattle.plane_core.specs.Plaintext.{is_cell}
use Rattle.plane_core.specs.PlaintextPlaces.{dot}
use Rattle.plane_core.proofs.lemmas.plaintext.PlaintextRows.{bad_byte, no_fault_past, past_limits, within_limits}
use Rattle.plane_core.proofs.plaintext.fault_in_row.Goals as goal
use Rattle.plane_core.proofs.plaintext.fault_in_row.Goals.{After-is_live}

cell_is : (c : After-is_live) → (get_or c.args.row.now c.loop-x.x 0 == dot || c.is_live.result) ≡ is_cell (get_or c.args.row.now c.loop-x.x 0)
cell_is c = ap (λ (live : Bool). get_or c.args.row.now c.loop-x.x 0 == dot || live) c.is_live.ensures

pub returns-then-not-is_cell : goal.returns-then-not-is_cell
returns-then-not-is_cell c =
    sym (bad_byte c.args.line c.args.y c.loop-x.x c.args.row.now c.loop-x-test.true
    (sym (cell_is (goal.at.returns-then-not-is_cell c).After-is_live) ∙ c.if-not-is_cell.true))
    ∙ c.loop-x.invariant

pub returns-then-not-is_small : goal.returns-then-not-is_small
returns-then-not-is_small c =
    sym (past_limits c.args.line c.args.y c.loop-x.x c.args.row.now c.loop-x-test.true
    (sym (cell_is (goal.at.returns-then-not-is_small c).After-is_live) ∙ c.if-not-is_cell.false) c.if-not-is_small.true)
    ∙ c.loop-x.invariant

pub loop-x-preserved : goal.loop-x-preserved
loop-x-preserved c =
    sym (within_limits c.args.line c.args.y c.loop-x.x c.args.row.now c.loop-x-test.true
    (sym (cell_is (goal.at.loop-x-preserved c).After-is_live) ∙ c.if-not-is_cell.false) c.if-not-is_small.false)
    ∙ c.loop-x.invariant

pub returns : goal.returns
returns c = sym (no_fault_past c.args.line c.args.y c.loop-x.x c.args.row.now c.loop-x-test.false) ∙ c.loop-x.invariant
