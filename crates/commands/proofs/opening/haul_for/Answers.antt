use Rattle.std.proofs.Common.{◌∙◌, refl, sym, subst}
use Rattle.commands.specs.SoupSets.{AreRangesOf, Overlapping, Too_large}
use Rattle.pattern_commands.proofs.AnswerLemmas.{err_of}
use Rattle.commands.proofs.TakeLemmas.{small_from}
use Rattle.commands.proofs.opening.haul_for.Goals as goal

pub returns-in_err-ranges-clause-stops : goal.returns-in_err-ranges-clause-stops
returns-in_err-ranges-clause-stops c = rw (err_of _ _ c.from_residual.ensures.1) c.in_err-ranges.ensures.stops

pub returns-in-Ok-clause-opened : goal.returns-in-Ok-clause-opened
returns-in-Ok-clause-opened c =
    let facts = c.in-Ok.ensures in
    let small = small_from c.as_slice.result.now (λ large. let bad = facts.bad_range.1 (c.requires, large) in cc) in
    record {
      over = record {
        ranges = c.as_slice.result.now;
        named = subst (AreRangesOf c.args.set.now) (sym c.as_slice.ensures.value) c.in_ok-ranges.ensures.named;
        only = λ others of. c.in_ok-ranges.ensures.only others of ∙ sym c.as_slice.ensures.value;
        small = small;
        apart = λ overlap. let bad = facts.overlap.1 (c.requires, small, overlap) in cc;
        form = facts.ranges;
      };
      job_is = facts.job;
      workers_are = facts.workers;
      stands = facts.stands;
    }

pub returns-in-Err-BadRange-clause-stops : goal.returns-in-Err-BadRange-clause-stops
returns-in-Err-BadRange-clause-stops c =
    let facts = (rw c.in-Err-BadRange.field-0-is at c.in-Err-BadRange.ensures.bad_range).0 refl in
    Too_large c.as_slice.result.now (subst (AreRangesOf c.args.set.now) (sym c.as_slice.ensures.value) c.in_ok-ranges.ensures.named) facts.1 refl

pub returns-in-Err-Overlap-clause-stops : goal.returns-in-Err-Overlap-clause-stops
returns-in-Err-Overlap-clause-stops c =
    let facts = (rw c.in-Err-Overlap.field-0-is at c.in-Err-Overlap.ensures.overlap).0 refl in
    Overlapping c.as_slice.result.now (subst (AreRangesOf c.args.set.now) (sym c.as_slice.ensures.value) c.in_ok-ranges.ensures.named) facts.1 facts.2 refl
