use Rattle.std.proofs.Common.{◌*◌, ◌+◌, ◌-◌, ◌/◌, ◌<◌, ◌≤◌, All, List, arith, subst, sym}
use Rattle.plane_core.specs.declared.engine.board.next_pattern.NextRows.{NextRows}
use Rattle.plane_core.specs.engine.NextListing.{AreBandOf, HasRim}
use Rattle.plane_core.specs.engine.OnBoard.{cells_on}
use Rattle.plane_core.specs.plane.Generations.{after}
use Rattle.plane_core.specs.windows.RuleLogic.{rule_of}
use Rattle.plane_core.proofs.lemmas.engine.NextListingLemmas.{above_more, above_none, all_listed}
use Rattle.plane_core.proofs.lemmas.engine.OnBoardLemmas.{cells_in_order, shows_cells}
use Rattle.plane_core.proofs.engine.board.next_pattern.list_next.Goals as goal

pub loop-y-init : goal.loop-y-init
loop-y-init c =
    let rim : HasRim c.args.at c.args.hull = c.has_rim.ensures c.if-not-has_rim.false in
    record {
      low = omega (arith, rim.rows, rim.bottom);
      listed = above_none c.args.at (rule_of c.args.rule.now) c.args.words.now c.args.hull c.in_ok-cells.cells.items rim c.requires.hull c.in_ok-cells.ensures.items;
    }

pub loop-y-preserved : goal.loop-y-preserved
loop-y-preserved c =
    let at = c.args.at in
    let words = c.args.words.now in
    let hull = c.args.hull in
    let y = c.loop-y.y in
    let next = after (rule_of c.args.rule.now) (cells_on at words) 1 in
    let rim : HasRim at hull = c.has_rim.ensures c.if-not-has_rim.false in
    let fits : y + 40 ≤ at.rows = c.in_ok-inside.ensures.rows c.if-not-inside.false in
    let windows = c.as_slice.result.now in
    let band = subst (λ (windows : List NextRows). AreBandOf at y (64 * hull.word_columns.from - 5 + 4) (64 * hull.word_columns.end + 1) next windows)
    (sym c.as_slice.ensures.value) (c.in_ok-inside.ensures.band c.if-not-inside.false (cells_on at words) (cells_in_order at words) (shows_cells at words)) in
    record {
      low = omega (arith, fits);
      listed = above_more at (rule_of c.args.rule.now) words hull y windows c.loop-y.cells.items c.list_band.new.cells.items rim c.requires.hull band
          (c.in_ok-list_band.ensures next band.each) c.loop-y.invariant.listed;
    }

pub list_band-requires-clause-columns : goal.list_band-requires-clause-columns
list_band-requires-clause-columns c =
    let at = c.args.at in
    let words = c.args.words.now in
    let band = c.in_ok-inside.ensures.band c.if-not-inside.false (cells_on at words) (cells_in_order at words) (shows_cells at words) in
    subst (All (λ (window : NextRows). window.x / 64 < at.word_columns)) (sym c.as_slice.ensures.value)
    (λ k d low. let beside = (band.each k d low).word_columns in omega (arith, beside))

pub returns : goal.returns
returns c =
    all_listed c.args.at (rule_of c.args.rule.now) c.args.words.now c.args.hull c.loop-y.y c.loop-y.cells.items (c.has_rim.ensures c.if-not-has_rim.false)
    c.requires.hull c.loop-y-test.false c.loop-y.invariant.listed
