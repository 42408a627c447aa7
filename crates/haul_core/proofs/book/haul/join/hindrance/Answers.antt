use Rattle.std.proofs.Common.{◌≡◌, ◌∙◌, false, sym, subst₂, true}
use Rattle.std.proofs.lemmas.Bool.{false≢true}
use Rattle.haul_core.specs.Books.{Held}
use Rattle.survey_core.specs.Jobs.{same_job}
use Rattle.haul_core.specs.Joins.{AreClosed, CanJoin}
use Rattle.ranges.specs.Ranges.{ShareNumber}
use Rattle.haul_core.proofs.book.haul.join.hindrance.Goals as goal

pub returns-then-not-is_same_job-clause-some : goal.returns-then-not-is_same_job-clause-some
returns-then-not-is_same_job-clause-some c =
    subst₂ (λ (a b : Held). AreClosed a b × (same_job a.terms.job b.terms.job ≡ false)) c.first.view_is c.second.view_is
    (record { first = c.if-not-first.false; second = c.if-not-second.false }, sym c.is_same_job.ensures ∙ c.if-not-is_same_job.true)

pub returns-then-share_number-clause-some : goal.returns-then-share_number-clause-some
returns-then-share_number-clause-some c =
    subst₂ (λ (a b : Held). AreClosed a b × (same_job a.terms.job b.terms.job ≡ true) × ShareNumber a.terms.ranges b.terms.ranges)
    c.first.view_is c.second.view_is (
      record { first = c.if-not-first.false; second = c.if-not-second.false },
      sym c.is_same_job.ensures ∙ c.if-not-is_same_job.false,
      c.share_number.ensures.0 c.if-share_number.true,
    )

pub returns-clause-none : goal.returns-clause-none
returns-clause-none c = subst₂ CanJoin c.first.view_is c.second.view_is (record {
  closed = record { first = c.if-not-first.false; second = c.if-not-second.false };
  job = sym c.is_same_job.ensures ∙ c.if-not-is_same_job.false;
  apart = λ shared. absurd (false≢true (c.if-share_number.ensures.1 shared));
})
