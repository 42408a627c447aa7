use Rattle.std.proofs.Common.{◌≡◌, ◌∙◌, ◌++◌, IfOk, List, subst, sym}
use Rattle.ranges.specs.Ranges.{IsNormalForm, Overlap}
use Rattle.ranges.specs.declared.range.Range.{Range}
use Rattle.ranges.proofs.UnionLemmas.{apart_sets}
use Rattle.ranges.proofs.range.Ranges.union.Goals as goal

pub normal_form-requires-clause-apart : goal.normal_form-requires-clause-apart
normal_form-requires-clause-apart c =
    let both : c.as_slice-3.result.now ≡ c.args.self.now ++ c.args.other.now = c.as_slice-3.ensures.value ∙ c.in_ok-extend_from_slice.ensures.items
    ∙ (λ i. (c.in_ok-both.ensures.items ∙ c.as_slice.ensures.ranges) i ++ c.as_slice-2.ensures.ranges i) in
    subst (λ (rs : List Range). ¬ Overlap rs) (sym both)
    (apart_sets c.args.self.now c.args.other.now c.as_slice.ensures.normal c.as_slice-2.ensures.normal c.requires.apart)

pub returns-clause-form : goal.returns-clause-form
returns-clause-form c =
    let both : c.as_slice-3.result.now ≡ c.args.self.now ++ c.args.other.now = c.as_slice-3.ensures.value ∙ c.in_ok-extend_from_slice.ensures.items
    ∙ (λ i. (c.in_ok-both.ensures.items ∙ c.as_slice.ensures.ranges) i ++ c.as_slice-2.ensures.ranges i) in
    subst (λ (rs : List Range). IfOk c.normal_form.result (IsNormalForm rs)) both c.normal_form.ensures.form

pub returns-clause-below : goal.returns-clause-below
returns-clause-below c = c.normal_form.ensures.below
