use Rattle.std.proofs.Common.{◌∙◌, refl, subst, sym, List, ◌≡◌}
use Rattle.std.proofs.lemmas.Bool.{false≢true}
use Rattle.std.proofs.lemmas.List.{take_all}
use Rattle.survey_core.specs.declared.rest.alone.Alone.{Alone}
use Rattle.survey_core.specs.rest.Alone.{clusters_of, latest_of}
use Rattle.survey_core.proofs.lemmas.rest.RunLemmas.{back_at, back_more}
use Rattle.survey_core.proofs.rest.alone.have_recurred.Goals as goal

pub returns-then-not-same : goal.returns-then-not-same
returns-then-not-same c = (
  λ e. absurd (false≢true e),
  λ same. c.if-not-same.ensures.1 (c.cells.ensures.cells ∙ back_at c.args.clusters.now c.loop-alone.alone-index c.alone-item.result
      c.loop-alone-test.true c.alone-item.is same ∙ sym c.cells-in-loop-alone.ensures.cells),
)

pub loop-alone-preserved : goal.loop-alone-preserved
loop-alone-preserved c =
    back_more c.args.clusters.now c.loop-alone.alone-index c.alone-item.result c.loop-alone-test.true c.alone-item.is c.loop-alone.invariant
    (sym c.cells.ensures.cells ∙ c.if-not-same.ensures.0 refl ∙ c.cells-in-loop-alone.ensures.cells)

pub returns : goal.returns
returns c = (
  λ _. subst (λ (all : List Alone). latest_of all ≡ clusters_of all) (take_all c.loop-alone.alone-index c.args.clusters.now c.loop-alone-test.false)
      c.loop-alone.invariant,
  λ _. refl,
)
