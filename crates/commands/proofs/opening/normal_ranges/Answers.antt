use Rattle.std.proofs.Common.{◌∙◌, refl, sym, subst}
use Rattle.commands.specs.SoupSets.{AreRangesOf, Overlapping, Too_large}
use Rattle.pattern_commands.proofs.AnswerLemmas.{err_of}
use Rattle.commands.proofs.opening.normal_ranges.Goals as goal

pub returns-in_err-ranges-clause-stops : goal.returns-in_err-ranges-clause-stops
returns-in_err-ranges-clause-stops c = rw (err_of _ _ c.from_residual.ensures.1) c.in_err-ranges.ensures.stops

pub returns-in_default-clause-stops : goal.returns-in_default-clause-stops
returns-in_default-clause-stops c =
    Too_large c.as_slice-ranges.result.now (subst (AreRangesOf c.args.set.now) (sym c.as_slice-ranges.ensures.value) c.in_ok-ranges.ensures.named)
    c.in_default.ensures.large refl

pub returns-then-shared-clause-stops : goal.returns-then-shared-clause-stops
returns-then-shared-clause-stops c =
    Overlapping c.as_slice-ranges.result.now (subst (AreRangesOf c.args.set.now) (sym c.as_slice-ranges.ensures.value) c.in_ok-ranges.ensures.named)
    c.in-Some.ensures.small.1 (c.overlap-shared.ensures.0 c.if-shared.true) refl

pub returns-clause-normal : goal.returns-clause-normal
returns-clause-normal c = record {
  ranges = c.as_slice-ranges.result.now;
  named = subst (AreRangesOf c.args.set.now) (sym c.as_slice-ranges.ensures.value) c.in_ok-ranges.ensures.named;
  only = λ others of. c.in_ok-ranges.ensures.only others of ∙ sym c.as_slice-ranges.ensures.value;
  small = c.in-Some.ensures.small.1;
  apart = λ overlap. let bad = c.overlap-shared.ensures.1 overlap in cc;
  form = c.in_ok-normal.ensures.form;
}
