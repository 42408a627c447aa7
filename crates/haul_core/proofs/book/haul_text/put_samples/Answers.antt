use Rattle.std.proofs.Common.{◌∙◌, codes, flat_map, sym}
use Rattle.plane_core.proofs.lemmas.OutputLemmas.{Writes_same, Writes_stops}
use Rattle.haul_core.specs.HaulTexts.{ended, line_of_numbers, sample_line, sample_lines, text_of}
use Rattle.haul_core.proofs.TextLemmas.{item_more, item_stops, items_done, samples_spelled}
use Rattle.haul_core.proofs.book.haul_text.put_samples.Goals as goal

pub returns-in_err-put : goal.returns-in_err-put
returns-in_err-put g c =
    Writes_same (samples_spelled c.args.rows.now)
    (Writes_stops (flat_map (λ row. ended (sample_line row)) c.args.rows.now) c.from_residual.ensures.0 c.in_err-put.ensures)

pub loop-row-init : goal.loop-row-init
loop-row-init g c = (codes "\n@SAMPLE_SOUPIDS\n", sym (samples_spelled c.args.rows.now), c.in_ok-put.ensures)

pub loop-row-preserved : goal.loop-row-preserved
loop-row-preserved g c =
    item_more (λ row. ended (sample_line row)) c.args.rows.now (text_of (sample_lines c.args.rows.now)) c.loop-row.row-index c.row-item.result
    c.loop-row-test.true c.row-item.is c.loop-row.invariant
    (Writes_same (λ i. ended (line_of_numbers ((c.as_bytes.ensures.value ∙ c.text.ensures.text) i) (c.as_slice.ensures.samples i)))
    c.in_ok-put_line.ensures)

pub returns-in_err-put_line : goal.returns-in_err-put_line
returns-in_err-put_line g c =
    item_stops (λ row. ended (sample_line row)) c.args.rows.now (text_of (sample_lines c.args.rows.now)) c.loop-row.row-index c.row-item.result
    c.loop-row-test.true c.row-item.is c.loop-row.invariant c.from_residual-in_err-put_line.ensures.0
    (Writes_same (λ i. ended (line_of_numbers ((c.as_bytes.ensures.value ∙ c.text.ensures.text) i) (c.as_slice.ensures.samples i)))
    c.in_err-put_line.ensures)

pub put_line-requires : goal.put_line-requires
put_line-requires g c = c.loop-row.invariant.2.remembers

pub returns : goal.returns
returns g c =
    items_done (λ row. ended (sample_line row)) c.args.rows.now (text_of (sample_lines c.args.rows.now)) c.loop-row.row-index c.loop-row-test.false
    c.loop-row.invariant
