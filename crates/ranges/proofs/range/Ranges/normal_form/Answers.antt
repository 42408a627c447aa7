use Rattle.std.proofs.Common.{◌∙◌, sym, subst}
use Rattle.ranges.specs.RangeSteps.{Ascending}
use Rattle.ranges.specs.Ranges.{AreBelow, IsNormalForm, number_bound, size_of}
use Rattle.ranges.proofs.RangeLemmas.{ascending_of, below_of, form_of, size_of_ordered}
use Rattle.ranges.proofs.range.Ranges.normal_form.Goals as goal

pub joined-requires-clause-ascending : goal.joined-requires-clause-ascending
joined-requires-clause-ascending c =
    subst Ascending (sym c.as_slice.ensures.value)
    (ascending_of c.args.ranges.now c.in_ok-ascending.ascending.items c.in_ok-ascending.ensures.same c.in_ok-ascending.ensures.ordered c.requires.apart)

pub joined-requires-clause-below : goal.joined-requires-clause-below
joined-requires-clause-below c =
    subst (AreBelow number_bound) (sym c.as_slice.ensures.value)
    (below_of c.args.ranges.now c.in_ok-ascending.ascending.items c.in_ok-ascending.ensures.same c.requires.below)

pub returns-clause-form : goal.returns-clause-form
returns-clause-form c =
    form_of c.args.ranges.now c.in_ok-ascending.ascending.items c.in_ok-ranges.ranges.items c.in_ok-ascending.ensures.same
    (subst (λ all. IsNormalForm all c.in_ok-ranges.ranges.items) c.as_slice.ensures.value c.in_ok-ranges.ensures.form)

pub returns-clause-size : goal.returns-clause-size
returns-clause-size c =
    c.in_ok-ranges.ensures.size ∙ (λ i. size_of (c.as_slice.ensures.value i))
    ∙ size_of_ordered c.args.ranges.now c.in_ok-ascending.ascending.items c.in_ok-ascending.ensures.same
