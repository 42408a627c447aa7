use Rattle.std.proofs.Common.{◌++◌, ◌+◌, ℕ, List, drop, sym}
use Rattle.plane_core.proofs.lemmas.OutputLemmas.{Writes_same, Writes_then, Writes_stops}
use Rattle.haul_core.specs.HaulTexts.{spaced}
use Rattle.haul_core.specs.ReportLines.{count_field}
use Rattle.haul_core.proofs.ReportLemmas.{counts_text}
use Rattle.haul_core.proofs.TextLemmas.{text_more}
use Rattle.haul_core.proofs.report.write.put_counts.Goals as goal

pub loop-object-preserved : goal.loop-object-preserved
loop-object-preserved g c =
    let prefix = c.loop-object.invariant in
    let counts = c.args.counts.now in
    let i = c.loop-object.object-index in
    let text : (List ℕ × ℕ) → List ℕ = (λ object. spaced (count_field object)) in (
      prefix.0 ++ text c.object-item.result,
      text_more text counts i c.object-item.result (counts_text counts) prefix.0 c.loop-object-test.true c.object-item.is prefix.1,
      Writes_then prefix.2 c.in_ok-put_count.ensures,
    )

pub returns-in_err-put_count : goal.returns-in_err-put_count
returns-in_err-put_count g c =
    let prefix = c.loop-object.invariant in
    let counts = c.args.counts.now in
    let i = c.loop-object.object-index in
    let text : (List ℕ × ℕ) → List ℕ = (λ object. spaced (count_field object)) in
    let more = text_more text counts i c.object-item.result (counts_text counts) prefix.0 c.loop-object-test.true c.object-item.is prefix.1 in
    Writes_same (sym more) (Writes_stops (counts_text (drop (i + 1) counts)) c.from_residual.ensures.0
    (Writes_then prefix.2 c.in_err-put_count.ensures))
