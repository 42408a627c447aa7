use Rattle.std.proofs.Common.{◌++◌, codes, decimal}
use Rattle.plane_core.proofs.lemmas.OutputLemmas.{Writes_then, Writes_stops}
use Rattle.pattern_commands.specs.Sizes.{sides, after_space}
use Rattle.pattern_commands.proofs.sizes.size.Size.put_line.Goals as goal

pub returns-in_err-put_number : goal.returns-in_err-put_number
returns-in_err-put_number g c =
    Writes_stops (after_space (decimal c.args.self.population) ++ (sides c.args.self.bounds ++ codes "\n")) c.from_residual.ensures.0 c.in_err-put_number.ensures

pub returns-in_err-put_number-2 : goal.returns-in_err-put_number-2
returns-in_err-put_number-2 g c =
    Writes_then c.in_ok-put_number.ensures
    (Writes_stops (sides c.args.self.bounds ++ codes "\n") c.from_residual-in_err-put_number-2.ensures.0 c.in_err-put_number-2.ensures)

pub returns-in_err-put_sides : goal.returns-in_err-put_sides
returns-in_err-put_sides g c =
    Writes_then c.in_ok-put_number.ensures
    (Writes_then c.in_ok-put_number-2.ensures (Writes_stops (codes "\n") c.from_residual-in_err-put_sides.ensures.0 c.in_err-put_sides.ensures))

pub returns : goal.returns
returns g c =
    Writes_then c.in_ok-put_number.ensures
    (Writes_then c.in_ok-put_number-2.ensures (Writes_then c.in_ok-put_sides.ensures c.put.ensures))
