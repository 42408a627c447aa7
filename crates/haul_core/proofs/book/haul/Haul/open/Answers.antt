use Rattle.std.proofs.Common.{◌≤◌, ◌^◌, ◌∙◌, refl, subst, sym}
use Rattle.std.proofs.lemmas.Bool.{false≢true}
use Rattle.std.proofs.lemmas.Result.{err_from_is_err_and}
use Rattle.haul_core.proofs.KeepLemmas.{keeps_none}
use Rattle.haul_core.proofs.book.haul.Haul.open.Goals as goal

pub returns-in_err-ranges : goal.returns-in_err-ranges
returns-in_err-ranges c =
    let known = c.is_worker-known.ensures.0 c.if-not-known.false in
    let told = err_from_is_err_and c.from_residual.result c.from_residual.ensures.1 in
    rw (told.1, told.2) (record {
      job = tt;
      ranges = tt;
      workers = tt;
      stands = tt;
      bad_workers = (λ e. absurd (cc), λ stranger. absurd (stranger known));
      bad_range = (λ e. absurd (cc), λ large. absurd (large.1 c.in-Some.ensures.small.1));
      overlap = (λ e. absurd (cc), λ shared. absurd (false≢true (c.if-shared.ensures.1 shared.2)));
    })

pub invariant_of-result : goal.invariant_of-result
invariant_of-result c =
    keeps_none c.args.job c.in_ok-ranges.ranges c.args.workers c.in-Some.count c.new.result.items c.new-2.result.entries
    (record { scores = c.none.result.scores.entries; unsettled = c.none.result.unsettled; for_good = c.none.result.for_good })
    c.in_ok-ranges.ensures.form.normal_form c.in_ok-ranges.ensures.below (c.in-Some.ensures.small.0 ∙ sym c.in_ok-ranges.ensures.size)
    (subst (λ n. n ≤ 2 ^ 24) (sym c.in-Some.ensures.small.0) c.in-Some.ensures.small.1.few)
    (c.is_worker-known.ensures.0 c.if-not-known.false) c.new.ensures.items c.new-2.ensures.empty c.none.ensures.scores c.none.ensures.unsettled c.none.ensures.for_good

pub returns-clause-stands : goal.returns-clause-stands
returns-clause-stands c = record { taken = c.new.ensures.items; closed = refl }
