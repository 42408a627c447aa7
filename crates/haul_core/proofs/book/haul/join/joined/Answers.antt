use Rattle.std.proofs.Common.{◌≡◌, ◌∙◌, ◌++◌, ap, arith, length, length-append, nat_eq, refl, rules, subst, sym, List, ℕ, map, true}
use Rattle.std.specs.List.{IsDistinct}
use Rattle.haul_core.specs.Books.{Held}
use Rattle.haul_core.specs.Joins.{CanJoin, IsJoined}
use Rattle.haul_core.specs.Keeping.{numbers_in}
use Rattle.ranges.specs.Ranges.{number_bound}
use Rattle.haul_core.proofs.JoinLemmas.{distinct_both, have_room, keeps_joined, size_below}
use Rattle.haul_core.proofs.book.haul.join.joined.Goals as goal

pub by_number-requires : goal.by_number-requires
by_number-requires c =
    let f = c.first.inside in
    let s = c.second.inside in
    let a : Held = record { terms = record { job = f.job; ranges = f.ranges; workers = f.workers }; closed = f.closed; taken = f.taken.items } in
    let b : Held = record { terms = record { job = s.job; ranges = s.ranges; workers = s.workers }; closed = s.closed; taken = s.taken.items } in
    let can : CanJoin a b = subst (λ (h : Held). CanJoin h b) (sym c.first.view_is) (subst (CanJoin c.args.first.now) (sym c.second.view_is) c.requires) in
    let all : c.as_slice-3.result.now ≡ a.taken ++ b.taken =
    c.as_slice-3.ensures.value ∙ c.in_ok-taken.ensures ∙ (λ i. c.as_slice.ensures.value i ++ c.as_slice-2.ensures.value i) in
    subst (λ (ts : List (ℕ × ℕ)). IsDistinct nat_eq (numbers_in ts)) (sym all)
    (distinct_both a.terms.ranges b.terms.ranges a.taken b.taken can.apart c.first.invariant.within c.second.invariant.within c.first.invariant.distinct
    c.second.invariant.distinct)

pub joined-requires : goal.joined-requires
joined-requires c =
    let f = c.first.inside in
    let s = c.second.inside in
    let a : Held = record { terms = record { job = f.job; ranges = f.ranges; workers = f.workers }; closed = f.closed; taken = f.taken.items } in
    let b : Held = record { terms = record { job = s.job; ranges = s.ranges; workers = s.workers }; closed = s.closed; taken = s.taken.items } in
    let all : c.in_ok-taken.taken.items ≡ a.taken ++ b.taken =
    c.in_ok-taken.ensures ∙ (λ i. c.as_slice.ensures.value i ++ c.as_slice-2.ensures.value i) in
    let sum = ap length all ∙ length-append a.taken b.taken in
    let room = have_room a b f.count s.count f.worker_of.entries s.worker_of.entries
    (record { scores = f.totals.scores.entries; unsettled = f.totals.unsettled; for_good = f.totals.for_good })
    (record { scores = s.totals.scores.entries; unsettled = s.totals.unsettled; for_good = s.totals.for_good }) c.first.invariant c.second.invariant
    (omega (arith, sum, c.in_ok-taken.taken.ok.0, c.in_ok-taken.taken.small)) in
    record { room = room.scores; unsettled = room.unsettled_room; for_good = room.for_good_room }

pub overflow_add-result : goal.overflow_add-result
overflow_add-result c =
    let most = size_below number_bound c.in_ok-ranges.ranges c.in_ok-ranges.ensures.form.normal_form c.in_ok-ranges.ensures.below in
    omega (arith, most, c.in_ok-ranges.ensures.size, c.first.invariant.size, c.second.invariant.size)

pub invariant_of-result : goal.invariant_of-result
invariant_of-result c =
    let f = c.first.inside in
    let s = c.second.inside in
    let a : Held = record { terms = record { job = f.job; ranges = f.ranges; workers = f.workers }; closed = f.closed; taken = f.taken.items } in
    let b : Held = record { terms = record { job = s.job; ranges = s.ranges; workers = s.workers }; closed = s.closed; taken = s.taken.items } in
    let can : CanJoin a b = subst (λ (h : Held). CanJoin h b) (sym c.first.view_is) (subst (CanJoin c.args.first.now) (sym c.second.view_is) c.requires) in
    let all : c.in_ok-taken.taken.items ≡ a.taken ++ b.taken =
    c.in_ok-taken.ensures ∙ (λ i. c.as_slice.ensures.value i ++ c.as_slice-2.ensures.value i) in
    keeps_joined a b f.count s.count f.worker_of.entries s.worker_of.entries
    (record { scores = f.totals.scores.entries; unsettled = f.totals.unsettled; for_good = f.totals.for_good })
    (record { scores = s.totals.scores.entries; unsettled = s.totals.unsettled; for_good = s.totals.for_good }) c.first.invariant c.second.invariant
    c.in_ok-ranges.ranges c.max.result c.in_ok-taken.taken.items c.in_ok-worker_of.worker_of.entries
    (record { scores = c.in_ok-totals.totals.scores.entries; unsettled = c.in_ok-totals.totals.unsettled; for_good = c.in_ok-totals.totals.for_good }) can
    c.in_ok-ranges.ensures.form c.in_ok-ranges.ensures.below c.in_ok-ranges.ensures.size (search rules) all
    (c.in_ok-worker_of.ensures ∙ ap (map (λ (t : ℕ × ℕ). (t.1, t.0))) c.as_slice-3.ensures.value) c.in_ok-totals.ensures.scores
    c.in_ok-totals.ensures.unsettled c.in_ok-totals.ensures.for_good

pub returns : goal.returns
returns c =
    let f = c.first.inside in
    let s = c.second.inside in
    let a : Held = record { terms = record { job = f.job; ranges = f.ranges; workers = f.workers }; closed = f.closed; taken = f.taken.items } in
    let b : Held = record { terms = record { job = s.job; ranges = s.ranges; workers = s.workers }; closed = s.closed; taken = s.taken.items } in
    let all : c.in_ok-taken.taken.items ≡ a.taken ++ b.taken =
    c.in_ok-taken.ensures ∙ (λ i. c.as_slice.ensures.value i ++ c.as_slice-2.ensures.value i) in
    let joined : Held = record {
      terms = record { job = f.job; ranges = c.in_ok-ranges.ranges; workers = c.max.result };
      closed = true;
      taken = c.in_ok-taken.taken.items;
    } in
    subst (λ (h : Held). IsJoined h c.args.second.now joined) c.first.view_is
    (subst (λ (h : Held). IsJoined a h joined) c.second.view_is
    (record { job = refl; set = c.in_ok-ranges.ensures.form; workers = search rules; closed = refl; taken = all }))
