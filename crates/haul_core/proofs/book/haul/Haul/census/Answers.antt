use Rattle.std.proofs.Common.{◌≡◌, ◌∙◌, ◌^◌, ◌<◌, ◌≤◌, ℕ, ap, refl, sym, subst, arith, length, List, sum_by}
use Rattle.std.proofs.lemmas.List.{length-map}
use Rattle.haul_core.specs.declared.book.census.Census.{Census}
use Rattle.haul_core.specs.declared.book.census_rows.Row.{Row}
use Rattle.haul_core.specs.Books.{Held}
use Rattle.haul_core.specs.Censuses.{IsCensus}
use Rattle.haul_core.specs.Keeping.{numbers_in}
use Rattle.haul_core.specs.Rows.{AreRowsOf}
use Rattle.haul_core.proofs.BoundLemmas.{bounded, bounded_opened}
use Rattle.haul_core.proofs.KeepLemmas.{same_length}
use Rattle.haul_core.proofs.SumLemmas.{rows_of_surveys, sum_small}
use Rattle.haul_core.proofs.book.haul.Haul.census.Goals as goal

pub sum_of_totals-objects-requires : goal.sum_of_totals-objects-requires
sum_of_totals-objects-requires c =
    let k = c.self.invariant in
    let rows : AreRowsOf k.surveys c.in_ok-rows.rows =
    rows_of_surveys c.self.inside.totals.scores.entries k.surveys c.in_ok-rows.rows c.in_ok-rows.ensures k.sum.scores in
    let long : length k.surveys ≡ length c.self.inside.taken.items = same_length _ _ _ _ k in
    let small : sum_by (λ row. row.total) c.in_ok-rows.rows < 2 ^ 128 =
    sum_small k.surveys c.in_ok-rows.rows rows k.sum.few (omega (arith, c.self.inside.taken.ok.0, c.self.inside.taken.small)) in
    subst (λ (rs : List Row). sum_by (λ row. row.total) rs < 2 ^ 128) (sym c.as_slice.ensures.rows) small

pub returns-clause-counted : goal.returns-clause-counted
returns-clause-counted c =
    let k = c.self.invariant in
    let h = c.self.inside in
    let census : Census = record {
      job = h.job;
      ranges = c.in_ok-copy.field-0;
      count = h.count;
      soups = c.len.result;
      unsettled = h.totals.unsettled;
      for_good = h.totals.for_good;
      objects = c.sum_of_totals-objects.result;
      rows = c.in_ok-rows.rows;
    } in
    subst (λ (held : Held). IsCensus held.terms.job held.terms.ranges (numbers_in held.taken) census) c.self.view_is
    (record {
      surveys = k.surveys;
      surveyed = k.surveyed;
      job_is = refl;
      set = c.in_ok-copy.ensures;
      size = k.size;
      soups_are = c.len.ensures ∙ h.taken.ok.0 ∙ sym (length-map h.taken.items (λ t. t.1));
      unsettled_are = k.sum.unsettled_sum;
      for_good_are = k.sum.for_good_sum;
      rows_are = rows_of_surveys h.totals.scores.entries k.surveys c.in_ok-rows.rows c.in_ok-rows.ensures k.sum.scores;
      objects_are = c.sum_of_totals-objects.ensures ∙ ap (sum_by (λ row. row.total)) c.as_slice.ensures.rows;
    })

pub returns-clause-bounded : goal.returns-clause-bounded
returns-clause-bounded c =
    let k = c.self.invariant in
    let rows = c.in_ok-rows.rows in
    let are = rows_of_surveys c.self.inside.totals.scores.entries k.surveys rows c.in_ok-rows.ensures k.sum.scores in
    let objects = c.sum_of_totals-objects.ensures ∙ ap (sum_by (λ (row : Row). row.total)) c.as_slice.ensures.rows in
    subst (λ (n : ℕ). n < 2 ^ 104) (sym objects) (bounded _ _ _ _ k rows are)

pub returns-clause-bounded_opened : goal.returns-clause-bounded_opened
returns-clause-bounded_opened c small =
    let k = c.self.invariant in
    let rows = c.in_ok-rows.rows in
    let are = rows_of_surveys c.self.inside.totals.scores.entries k.surveys rows c.in_ok-rows.ensures k.sum.scores in
    let objects = c.sum_of_totals-objects.ensures ∙ ap (sum_by (λ (row : Row). row.total)) c.as_slice.ensures.rows in
    let soups = c.len.ensures ∙ c.self.inside.taken.ok.0 in
    subst (λ (n : ℕ). n < 2 ^ 88) (sym objects)
    (bounded_opened _ _ _ _ k rows are (subst (λ (n : ℕ). n ≤ 2 ^ 24) soups small))
