use Rattle.std.proofs.Common.{ap}
use Rattle.plane_core.proofs.lemmas.OutputLemmas.{Writes_same, Writes_then, Writes_stops}
use Rattle.haul_core.specs.HaulTexts.{range_lines, sample_lines, text_of, total_lines}
use Rattle.haul_core.proofs.TextLemmas.{after_head, after_ranges, after_sums, haul_spelled}
use Rattle.haul_core.proofs.book.haul_text.write_haul.Goals as goal

pub returns-in_err-put_head : goal.returns-in_err-put_head
returns-in_err-put_head g c =
    Writes_same (haul_spelled c.args.census.now) (Writes_stops (after_head c.args.census.now) c.from_residual.ensures.0 c.in_err-put_head.ensures)

pub returns-in_err-put_ranges : goal.returns-in_err-put_ranges
returns-in_err-put_ranges g c =
    let ranges = ap (λ ranges. text_of (range_lines ranges)) c.as_slice.ensures.ranges in
    Writes_same (haul_spelled c.args.census.now) (Writes_then c.in_ok-put_head.ensures
    (Writes_stops (after_ranges c.args.census.now) c.from_residual-in_err-put_ranges.ensures.0 (Writes_same ranges c.in_err-put_ranges.ensures)))

pub returns-in_err-put_sums : goal.returns-in_err-put_sums
returns-in_err-put_sums g c =
    let ranges = ap (λ ranges. text_of (range_lines ranges)) c.as_slice.ensures.ranges in
    Writes_same (haul_spelled c.args.census.now) (Writes_then c.in_ok-put_head.ensures (Writes_then (Writes_same ranges c.in_ok-put_ranges.ensures)
    (Writes_stops (after_sums c.args.census.now) c.from_residual-in_err-put_sums.ensures.0 c.in_err-put_sums.ensures)))

pub returns-in_err-put_totals : goal.returns-in_err-put_totals
returns-in_err-put_totals g c =
    let ranges = ap (λ ranges. text_of (range_lines ranges)) c.as_slice.ensures.ranges in
    let totals = ap (λ rows. text_of (total_lines rows)) c.as_slice-2.ensures.rows in
    Writes_same (haul_spelled c.args.census.now) (Writes_then c.in_ok-put_head.ensures (Writes_then (Writes_same ranges c.in_ok-put_ranges.ensures)
    (Writes_then c.in_ok-put_sums.ensures (Writes_stops (text_of (sample_lines c.args.census.now.rows))
    c.from_residual-in_err-put_totals.ensures.0 (Writes_same totals c.in_err-put_totals.ensures)))))

pub returns : goal.returns
returns g c =
    let ranges = ap (λ ranges. text_of (range_lines ranges)) c.as_slice.ensures.ranges in
    let totals = ap (λ rows. text_of (total_lines rows)) c.as_slice-2.ensures.rows in
    let samples = ap (λ rows. text_of (sample_lines rows)) c.as_slice-3.ensures.rows in
    Writes_same (haul_spelled c.args.census.now) (Writes_then c.in_ok-put_head.ensures (Writes_then (Writes_same ranges c.in_ok-put_ranges.ensures)
    (Writes_then c.in_ok-put_sums.ensures (Writes_then (Writes_same totals c.in_ok-put_totals.ensures) (Writes_same samples c.put_samples.ensures)))))
