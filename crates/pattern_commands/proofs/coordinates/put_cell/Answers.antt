use Rattle.std.proofs.Common.{◌++◌, FitsSigned, ap, codes, rules, w32}
use Rattle.std.specs.Fmt.{signed_decimal}
use Rattle.plane_core.proofs.lemmas.OutputLemmas.{Writes_same, Writes_then, Writes_stops}
use Rattle.pattern_commands.proofs.CoordinateLemmas.{shown}
use Rattle.pattern_commands.proofs.coordinates.put_cell.Goals as goal

pub returns-in_err-put_number : goal.returns-in_err-put_number
returns-in_err-put_number g c =
    let x : FitsSigned w32 c.args.cell.x = search rules in
    Writes_stops ((codes " " ++ signed_decimal c.args.cell.y) ++ codes "\n") c.from_residual.ensures.0
    (Writes_same (shown c.args.cell.x x) c.in_err-put_number.ensures)

pub returns-in_err-put_number-2 : goal.returns-in_err-put_number-2
returns-in_err-put_number-2 g c =
    let x : FitsSigned w32 c.args.cell.x = search rules in
    let y : FitsSigned w32 c.args.cell.y = search rules in
    Writes_then (Writes_same (shown c.args.cell.x x) c.in_ok-put_number.ensures)
    (Writes_stops (codes "\n") c.from_residual-in_err-put_number-2.ensures.0
    (Writes_same (ap (λ text. codes " " ++ text) (shown c.args.cell.y y)) c.in_err-put_number-2.ensures))

pub returns : goal.returns
returns g c =
    let x : FitsSigned w32 c.args.cell.x = search rules in
    let y : FitsSigned w32 c.args.cell.y = search rules in
    Writes_then (Writes_same (shown c.args.cell.x x) c.in_ok-put_number.ensures)
    (Writes_then (Writes_same (ap (λ text. codes " " ++ text) (shown c.args.cell.y y)) c.in_ok-put_number-2.ensures) c.put.ensures)
