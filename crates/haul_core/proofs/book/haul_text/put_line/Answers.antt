use Rattle.std.proofs.Common.{◌∙◌, ◌++◌, ◌+◌, ℕ, List, ap, append_assoc, codes, drop, flat_map, refl, sym}
use Rattle.plane_core.proofs.lemmas.OutputLemmas.{Writes_longer, Writes_same, Writes_then, Writes_stops}
use Rattle.haul_core.specs.HaulTexts.{spaced}
use Rattle.haul_core.proofs.TextLemmas.{line_spelled, text_done, text_more}
use Rattle.haul_core.proofs.book.haul_text.put_line.Goals as goal

pub returns-in_err-put : goal.returns-in_err-put
returns-in_err-put g c =
    let name = c.args.name.now in
    let all : List ℕ = flat_map (λ n. spaced (g.N.Integer.text n)) c.args.numbers.now in
    Writes_same (sym (append_assoc name all (codes "\n")) ∙ line_spelled g.N.Integer.text name c.args.numbers.now)
    (Writes_stops (all ++ codes "\n") c.from_residual.ensures.0 c.in_err-put.ensures)

pub loop-number-init : goal.loop-number-init
loop-number-init g c = (c.args.name.now, refl, c.in_ok-put.ensures)

pub put_number-requires : goal.put_number-requires
put_number-requires g c = c.loop-number.invariant.2.remembers

pub loop-number-preserved : goal.loop-number-preserved
loop-number-preserved g c =
    let prefix = c.loop-number.invariant in
    let numbers = c.args.numbers.now in
    let i = c.loop-number.number-index in
    let text : g.row.N.Denot → List ℕ = (λ n. spaced (g.N.Integer.text n)) in (
      prefix.0 ++ text c.number-item.result,
      text_more text numbers i c.number-item.result (c.args.name.now ++ flat_map text numbers) prefix.0 c.loop-number-test.true c.number-item.is prefix.1,
      Writes_then prefix.2 c.in_ok-put_number.ensures,
    )

pub returns-in_err-put_number : goal.returns-in_err-put_number
returns-in_err-put_number g c =
    let prefix = c.loop-number.invariant in
    let numbers = c.args.numbers.now in
    let name = c.args.name.now in
    let i = c.loop-number.number-index in
    let text : g.row.N.Denot → List ℕ = (λ n. spaced (g.N.Integer.text n)) in
    let more = text_more text numbers i c.number-item.result (name ++ flat_map text numbers) prefix.0 c.loop-number-test.true c.number-item.is prefix.1 in
    let err = c.from_residual-in_err-put_number.ensures.0 in
    Writes_same (ap (λ (t : List ℕ). t ++ codes "\n") (sym more) ∙ line_spelled g.N.Integer.text name numbers)
    (Writes_longer (codes "\n") err (Writes_stops (flat_map text (drop (i + 1) numbers)) err (Writes_then prefix.2 c.in_err-put_number.ensures)))

pub put-requires-2 : goal.put-requires-2
put-requires-2 g c = c.loop-number.invariant.2.remembers

pub returns : goal.returns
returns g c =
    let prefix = c.loop-number.invariant in
    let numbers = c.args.numbers.now in
    let name = c.args.name.now in
    let text : g.row.N.Denot → List ℕ = (λ n. spaced (g.N.Integer.text n)) in
    let all = text_done text numbers c.loop-number.number-index (name ++ flat_map text numbers) prefix.0 c.loop-number-test.false prefix.1 in
    Writes_same (ap (λ (t : List ℕ). t ++ codes "\n") all ∙ line_spelled g.N.Integer.text name numbers) (Writes_then prefix.2 c.put-2.ensures)
