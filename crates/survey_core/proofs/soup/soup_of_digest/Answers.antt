use Rattle.std.proofs.Common.{◌≡◌, ◌∙◌, List, All, ap, arith, length-set, refl, subst, sym, take}
use mir.Val.{bool_byte}
use Rattle.std.proofs.lemmas.Result.{IfOk-weaker}
use Rattle.plane_core.specs.declared.plane.cell.Cell.{Cell}
use Rattle.plane_core.specs.plane.Bounds.{IsWithin}
use Rattle.plane_core.specs.plane.Cells.{set_of}
use Rattle.plane_core.specs.plane.Generations.{lies_within}
use Rattle.survey_core.specs.Soups.{live_in_square, square}
use Rattle.survey_core.proofs.lemmas.SoupLemmas.{live_cells_none, one_more_place, soup_in_square, soup_near}
use Rattle.survey_core.proofs.soup.soup_of_digest.Goals.{After-loop-place}
use Rattle.survey_core.proofs.soup.soup_of_digest.Goals as goal

pub loop-place-init : goal.loop-place-init
loop-place-init c = (refl, omega arith, sym (live_cells_none c.args.digest.now))

pub loop-place-preserved : goal.loop-place-preserved
loop-place-preserved c =
    let (long, few, live) = c.loop-place.invariant in
    let count = c.loop-place.count in
    let place = c.loop-place.place in
    let more = one_more_place c.args.digest.now place count c.from-count.result c.loop-place.cells c.square_cell.result c.is_alive_at.result
    (omega (arith, long, few, c.loop-place-test.true)) c.is_alive_at.ensures (λ alive. c.from-count.ensures ∙ ap bool_byte alive)
    (λ dead. c.from-count.ensures ∙ ap bool_byte dead) c.square_cell.ensures live in
    (length-set c.loop-place.cells count c.square_cell.result ∙ long, omega (arith, few, more.0), more.1)

-- after the loop, the counted cells are the live cells at all 256 places
all : (c : After-loop-place) → take c.loop-place.count c.loop-place.cells ≡ live_in_square c.args.digest.now 256
all c = c.loop-place.invariant.2 ∙ ap (live_in_square c.args.digest.now) (omega arith)

pub pattern_of-requires : goal.pattern_of-requires
pattern_of-requires c = ap (lies_within 999999) (all (goal.at.pattern_of-requires c).After-loop-place) ∙ soup_near c.args.digest.now

pub returns-clause-soup : goal.returns-clause-soup
returns-clause-soup c =
    IfOk-weaker c.pattern_of.result (λ pattern. pattern ≡ set_of (take c.loop-place.count c.loop-place.cells))
    (λ pattern. pattern ≡ set_of (live_in_square c.args.digest.now 256)) (λ (pattern : List Cell) is. is ∙ ap set_of (all (goal.at.returns-clause-soup c).After-loop-place))
    c.pattern_of.ensures

pub returns-clause-small : goal.returns-clause-small
returns-clause-small c =
    IfOk-weaker c.pattern_of.result (λ pattern. pattern ≡ set_of (take c.loop-place.count c.loop-place.cells)) (All (IsWithin square))
    (λ (pattern : List Cell) is. subst (All (IsWithin square)) (sym (is ∙ ap set_of (all (goal.at.returns-clause-small c).After-loop-place)))
    (soup_in_square c.args.digest.now)) c.pattern_of.ensures
