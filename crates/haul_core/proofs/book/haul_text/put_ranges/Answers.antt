use Rattle.std.proofs.Common.{◌∙◌, ◌++◌, ◌+◌, [], ℕ, List, drop, flat_map, get_or, sym}
use Rattle.plane_core.proofs.lemmas.OutputLemmas.{Writes_nothing, Writes_same, Writes_then, Writes_stops}
use Rattle.ranges.specs.declared.range.Range.{Range}
use Rattle.haul_core.specs.HaulTexts.{ended, range_line, range_lines, text_of}
use Rattle.haul_core.proofs.TextLemmas.{none_spelled, some_spelled, text_done, text_more_at}
use Rattle.haul_core.proofs.book.haul_text.put_ranges.Goals as goal

pub returns-then-is_empty : goal.returns-then-is_empty
returns-then-is_empty g c = Writes_same (none_spelled c.args.ranges.now (sym c.is_empty.ensures ∙ c.if-is_empty.true)) c.put_range.ensures

pub loop-range-init : goal.loop-range-init
loop-range-init g c =
    ([], sym (some_spelled c.args.ranges.now (sym c.is_empty.ensures ∙ c.if-is_empty.false)), Writes_nothing c.args.out.now c.requires)

pub loop-range-preserved : goal.loop-range-preserved
loop-range-preserved g c =
    let prefix = c.loop-range.invariant in
    let ranges = c.args.ranges.now in
    let i = c.loop-range.range-index in
    let none : Range = record { first = 0; count = 0 } in
    let text : Range → List ℕ = (λ range. ended (range_line range)) in (
      prefix.0 ++ text (get_or ranges i none),
      text_more_at text ranges i none (text_of (range_lines ranges)) prefix.0 c.loop-range-test.true prefix.1,
      Writes_then prefix.2 c.in_ok-put_range.ensures,
    )

pub returns-in_err-put_range : goal.returns-in_err-put_range
returns-in_err-put_range g c =
    let prefix = c.loop-range.invariant in
    let ranges = c.args.ranges.now in
    let i = c.loop-range.range-index in
    let none : Range = record { first = 0; count = 0 } in
    let text : Range → List ℕ = (λ range. ended (range_line range)) in
    let more = text_more_at text ranges i none (text_of (range_lines ranges)) prefix.0 c.loop-range-test.true prefix.1 in
    Writes_same (sym more) (Writes_stops (flat_map text (drop (i + 1) ranges)) c.from_residual.ensures.0
    (Writes_then prefix.2 c.in_err-put_range.ensures))

pub returns : goal.returns
returns g c =
    let prefix = c.loop-range.invariant in
    let ranges = c.args.ranges.now in
    let text : Range → List ℕ = (λ range. ended (range_line range)) in
    Writes_same (text_done text ranges c.loop-range.range-index (text_of (range_lines ranges)) prefix.0 c.loop-range-test.false prefix.1) prefix.2
