use Rattle.std.proofs.Common.{◌≡◌, ◌+◌, ℕ, List, [], arith, get_or, refl, subst}
use Rattle.std.proofs.lemmas.List.{get_or_default, take_all}
use Rattle.plane_core.specs.declared.engine.board.next_pattern.NextRows.{NextRows}
use Rattle.plane_core.specs.engine.NextListing.{HasListedRows}
use Rattle.plane_core.proofs.lemmas.engine.NextListingLemmas.{HasListedRow, listed_more, row_more, row_none, rows_none}
use Rattle.plane_core.proofs.engine.board.next_pattern.list_band.Goals as goal

pub loop-r-init : goal.loop-r-init
loop-r-init c = λ next each. rows_none c.args.at c.args.y next c.args.windows.now c.args.cells.now.items

pub loop-window-init : goal.loop-window-init
loop-window-init c = λ next each. row_none c.args.at (c.args.y + c.loop-r.r) next c.loop-r.cells.items

abbrev nowhere : NextRows
nowhere = record { x = 0; rows = [] }

pub cell_on-first-requires-clause-column : goal.cell_on-first-requires-clause-column
cell_on-first-requires-clause-column c = c.requires.columns c.loop-window.window-index nowhere c.loop-window-test.true

pub loop-window-preserved : goal.loop-window-preserved
loop-window-preserved c = λ next each.
    let windows = c.args.windows.now in
    let k = c.loop-window.window-index in
    row_more c.args.at c.args.y c.loop-r.r k next windows (get_or windows k nowhere) _ c.cell_on-first.result c.loop-r.cells.items c.loop-window.cells.items
    c.read_word.new.cells.items c.loop-r.auto.r c.loop-r-test.true c.loop-window-test.true (get_or_default windows k nowhere _ c.loop-window-test.true) (each k nowhere c.loop-window-test.true) refl
    c.cell_on-first.ensures.is (c.loop-window.invariant next each) c.in_ok-read_word.ensures

pub loop-r-preserved : goal.loop-r-preserved
loop-r-preserved c = λ next each.
    listed_more c.args.at c.args.y c.loop-r.r next c.args.windows.now c.args.cells.now.items c.loop-r.cells.items c.loop-window.cells.items
    (c.loop-r.invariant next each)
    (subst (λ (windows : List NextRows). HasListedRow c.args.at (c.args.y + c.loop-r.r) next windows c.loop-r.cells.items c.loop-window.cells.items)
    (take_all c.loop-window.window-index c.args.windows.now c.loop-window-test.false) (c.loop-window.invariant next each))

pub returns : goal.returns
returns c = λ next each.
    let all : c.loop-r.r ≡ 36 = omega (arith, c.loop-r-test.false, c.loop-r.auto.r-end) in
    subst (λ (n : ℕ). HasListedRows c.args.at c.args.y n next c.args.windows.now c.args.cells.now.items c.loop-r.cells.items) all (c.loop-r.invariant next each)
