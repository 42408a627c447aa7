use Rattle.std.proofs.Common.{rules}
use Rattle.std.proofs.lemmas.Result.{IfOk-from_err}
use Rattle.code_core.proofs.ReaderCells.{cells_from-column, cells_from-gap, cells_from-next_strip}
use Rattle.code_core.proofs.reader.push_token.Goals as goal

pub returns-in_ok-push_column-in-Column-clause-cells : goal.returns-in_ok-push_column-in-Column-clause-cells
returns-in_ok-push_column-in-Column-clause-cells c = λ tokens.
    cells_from-column c.args.cells.now.items c.push_column.new.cells.items c.args.head.strip c.args.head.x c.in-Column.value c.args.token tokens
    c.in-Column.is (search rules)

pub returns-in-Gap-clause-cells : goal.returns-in-Gap-clause-cells
returns-in-Gap-clause-cells c = λ tokens.
    let e = cells_from-gap c.args.head.strip c.args.head.x c.in-Gap.count c.args.token tokens c.in-Gap.is in
    cc

pub returns-in-NextStrip-clause-cells : goal.returns-in-NextStrip-clause-cells
returns-in-NextStrip-clause-cells c = λ tokens.
    let e = cells_from-next_strip c.args.head.strip c.args.head.x c.args.token tokens c.in-NextStrip.is in
    cc

pub returns-in_err-push_column-in-Column-clause-cells : goal.returns-in_err-push_column-in-Column-clause-cells
returns-in_err-push_column-in-Column-clause-cells c = IfOk-from_err _ _ c.from_residual.ensures.0

pub returns-in_err-push_column-in-Column-clause-strip : goal.returns-in_err-push_column-in-Column-clause-strip
returns-in_err-push_column-in-Column-clause-strip c = IfOk-from_err _ _ c.from_residual.ensures.0

pub returns-in_err-push_column-in-Column-clause-column : goal.returns-in_err-push_column-in-Column-clause-column
returns-in_err-push_column-in-Column-clause-column c = IfOk-from_err _ _ c.from_residual.ensures.0
