use Rattle.std.proofs.Common.{◌≡◌, ◌+◌, ◌/◌, ◌∙◌, ℕ, arith, subst, sym}
use Rattle.plane_core.specs.plane.Cells.{IsPattern}
use Rattle.plane_core.specs.engine.Listing.{HasReadRows}
use Rattle.plane_core.specs.engine.OnBoard.{cells_on}
use Rattle.plane_core.proofs.lemmas.engine.BoardLemmas.{board_pattern}
use Rattle.plane_core.proofs.lemmas.engine.ListingLemmas.{bands_begin, bands_end, bands_held, bands_after, bands_before, all_read}
use borrow.Author.Count.{falls}
use Rattle.plane_core.proofs.lemmas.plane.OrderLemmas.{below_too}
use Rattle.plane_core.proofs.engine.listing.list.Goals as goal

pub loop-band-init : goal.loop-band-init
loop-band-init c =
    bands_before c.args.at c.args.words.now c.args.spans.now (record { from = c.min-first.result / 8; end = (c.min.result + 7) / 8 }) _ c.in_ok-cells.ensures.items
    (bands_begin c.hull_of-hull.result.rows.from c.args.at.rows c.min-first.result c.min-first.ensures)
    c.requires.live (λ s r hs hr inside. bands_held c.hull_of-hull.result.rows c.args.at.rows c.min-first.result c.min.result r c.min-first.ensures c.min.ensures hr (c.hull_of-hull.ensures s r hs inside).row)

pub loop-band-preserved : goal.loop-band-preserved
loop-band-preserved c =
    subst (λ (n : ℕ). HasReadRows c.args.at c.args.words.now n c.read_band.new.cells.items) (omega arith) (c.in_ok-read_band.ensures c.loop-band.invariant)

pub read_band-requires-clause-word_columns : goal.read_band-requires-clause-word_columns
read_band-requires-clause-word_columns c = λ s r hs inside. c.below-word_columns.ensures.held s hs (c.hull_of-hull.ensures s r hs inside).word_column

pub from_ordered-requires : goal.from_ordered-requires
from_ordered-requires c =
    let listed : c.in_order.result.items ≡ cells_on c.args.at c.args.words.now = all_read c.args.at c.args.words.now c.loop-band.cells.items _
    (bands_after c.args.at c.args.words.now c.args.spans.now (record { from = c.min-first.result / 8; end = (c.min.result + 7) / 8 }) c.loop-band.band c.loop-band.cells.items (omega arith) c.requires.live
    (λ s r hs hr inside. bands_held c.hull_of-hull.result.rows c.args.at.rows c.min-first.result c.min.result r c.min-first.ensures c.min.ensures hr (c.hull_of-hull.ensures s r hs inside).row) c.loop-band.invariant)
    c.in_order.ensures in
    subst IsPattern (sym listed) (board_pattern c.args.at c.args.words.now c.requires.plane)

pub returns : goal.returns
returns c =
    c.from_ordered.ensures
    ∙ all_read c.args.at c.args.words.now c.loop-band.cells.items _
    (bands_after c.args.at c.args.words.now c.args.spans.now (record { from = c.min-first.result / 8; end = (c.min.result + 7) / 8 }) c.loop-band.band c.loop-band.cells.items (omega arith) c.requires.live
    (λ s r hs hr inside. bands_held c.hull_of-hull.result.rows c.args.at.rows c.min-first.result c.min.result r c.min-first.ensures c.min.ensures hr (c.hull_of-hull.ensures s r hs inside).row) c.loop-band.invariant)
    c.in_order.ensures

pub read_band-requires-clause-frame : goal.read_band-requires-clause-frame
read_band-requires-clause-frame c = c.requires.frame

pub read_band-requires-clause-band : goal.read_band-requires-clause-band
read_band-requires-clause-band c = below_too _ _ _ c.loop-band-test.true (bands_end c.args.at c.hull_of-hull.result.rows.end c.min.result c.requires.frame c.min.ensures)

pub read_band-requires-clause-long : goal.read_band-requires-clause-long
read_band-requires-clause-long c = c.requires.long

pub read_band-requires-clause-spans : goal.read_band-requires-clause-spans
read_band-requires-clause-spans c = c.requires.spans

pub read_band-requires-clause-live : goal.read_band-requires-clause-live
read_band-requires-clause-live c = c.requires.live

pub read_band-requires-clause-order : goal.read_band-requires-clause-order
read_band-requires-clause-order c = c.below-word_columns.ensures.order

pub read_band-requires-clause-most : goal.read_band-requires-clause-most
read_band-requires-clause-most c = c.below-word_columns.ensures.most

pub loop-band-smaller : goal.loop-band-smaller
loop-band-smaller c = falls ((c.min.result + 7) / 8) c.loop-band.band c.loop-band-test.true
