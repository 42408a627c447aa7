use Rattle.std.proofs.Common.{◌∙◌, ◌+◌, List, ap, arith, refl, subst, sym}
use Rattle.plane_core.specs.declared.engine.board.next_pattern.NextRows.{NextRows}
use Rattle.plane_core.specs.engine.NextListing.{AreBandOf}
use Rattle.plane_core.specs.plane.Generations.{after}
use Rattle.plane_core.specs.windows.RuleLogic.{rule_of}
use Rattle.plane_core.proofs.lemmas.engine.NextListingLemmas.{band_more, band_none, band_skipped, band_within}
use Rattle.plane_core.proofs.engine.board.next_pattern.run_band.Goals.{then-not-empty+in_ok-push, else-not-empty}
use Rattle.plane_core.proofs.engine.board.next_pattern.run_band.Goals as goal

pub loop-x-init : goal.loop-x-init
loop-x-init c = record {
  low = omega (arith, c.requires.from);
  band = λ cells order shows. band_none c.args.at c.args.y (c.args.from + 4) (after (rule_of c.args.rule.now) cells 1) c.clear.new.self.items c.clear.ensures.items;
}

pub loop-x-preserved : goal.loop-x-preserved
loop-x-preserved c =
    let at = c.args.at in
    let y = c.args.y in
    let from = c.args.from + 4 in
    let x = c.loop-x.x in
    let old = c.loop-x.windows.items in
    let window : NextRows = record { x = x; rows = c.next_rows-rows.result } in
    record {
      low = omega (arith, c.loop-x-test.true);
      band = λ cells order shows.
          let next = after (rule_of c.args.rule.now) cells 1 in
          let before = c.loop-x.invariant.band cells order shows in
          let shown = c.next_rows-rows.ensures cells order shows in
          elim c.if-not-empty.branch [
            | then-not-empty+in_ok-push w ↦
                band_more at y from x next old c.if-not-empty.windows.items window refl (record { word_columns = c.if-x-at.false; shown = shown })
                (ap (λ v. v.items) w.windows-is ∙ w.in_ok-push.ensures.items) before
            | else-not-empty w ↦
                subst (λ (windows : List NextRows). AreBandOf at y from (x + 56 + 4) next windows) (ap (λ v. v.items) (sym w.windows-is))
                (band_skipped at y from x next old c.next_rows-rows.result shown (c.is_empty-empty.ensures w.if-not-empty.false) before)
          ];
    }

pub returns-clause-band : goal.returns-clause-band
returns-clause-band c = λ e cells order shows.
    band_within c.args.at c.args.y (c.args.from + 4) (c.args.end + 1) (c.loop-x.x + 4) (after (rule_of c.args.rule.now) cells 1) c.loop-x.windows.items
    (omega (arith, c.loop-x-test.false)) (c.loop-x.invariant.band cells order shows)
