use Rattle.plane_core.proofs.lemmas.OutputLemmas.{Writes_same, Writes_then, Writes_stops}
use Rattle.haul_core.proofs.TextLemmas.{after_for_good, after_soups, after_unsettled, sums_spelled}
use Rattle.haul_core.proofs.book.haul_text.put_sums.Goals as goal

pub returns-in_err-put_line : goal.returns-in_err-put_line
returns-in_err-put_line g c =
    Writes_same (sums_spelled c.args.census.now) (Writes_stops (after_soups c.args.census.now) c.from_residual.ensures.0 c.in_err-put_line.ensures)

pub returns-in_err-put_line-2 : goal.returns-in_err-put_line-2
returns-in_err-put_line-2 g c =
    Writes_same (sums_spelled c.args.census.now)
    (Writes_then c.in_ok-put_line.ensures
    (Writes_stops (after_unsettled c.args.census.now) c.from_residual-in_err-put_line-2.ensures.0 c.in_err-put_line-2.ensures))

pub returns-in_err-put_line-3 : goal.returns-in_err-put_line-3
returns-in_err-put_line-3 g c =
    Writes_same (sums_spelled c.args.census.now)
    (Writes_then c.in_ok-put_line.ensures (Writes_then c.in_ok-put_line-2.ensures
    (Writes_stops (after_for_good c.args.census.now) c.from_residual-in_err-put_line-3.ensures.0 c.in_err-put_line-3.ensures)))

pub returns : goal.returns
returns g c =
    Writes_same (sums_spelled c.args.census.now)
    (Writes_then c.in_ok-put_line.ensures (Writes_then c.in_ok-put_line-2.ensures (Writes_then c.in_ok-put_line-3.ensures c.put_line-4.ensures)))
