use Rattle.std.proofs.Common.{◌≡◌, ℕ, arith, max, subst}
use Rattle.plane_core.proofs.lemmas.engine.WindowDifferenceLemmas.{DifferInColumns, DifferInRows, HoldPlaces, columns_more, differs_only, in_no_lane, rows_more}
use Rattle.plane_core.proofs.engine.window_difference.difference_of.Goals as goal

first_none : (n a b : ℕ) → n ≡ max a b → n ≡ 0 → a ≡ 0
first_none n a b is none = omega (arith, is, none)

second_none : (n a b : ℕ) → n ≡ max a b → n ≡ 0 → b ≡ 0
second_none n a b is none = omega (arith, is, none)

pub loop-k-init : goal.loop-k-init
loop-k-init g c = record { columns = λ k low. absurd (omega arith); rows = λ k low. absurd (omega arith) }

pub loop-k-preserved : goal.loop-k-preserved
loop-k-preserved g c =
    let one = c.args.one.now in
    let other = c.args.other.now in
    let k = c.loop-k.k in
    let places = c.differing-places.result in
    let hold : HoldPlaces g.row.N one other places k =
    c.differing-places.ensures in
    record {
      columns =
          columns_more g.row.N one other c.loop-k.columns places c.either-columns.result k c.loop-k.invariant.columns hold
          (λ j i low none. first_none _ _ _ (c.either-columns.ensures.bits j i low) none)
          (λ j i low none. second_none _ _ _ (c.either-columns.ensures.bits j i low) none);
      rows = rows_more g.row.N one other c.loop-k.rows places c.marked.result c.either-rows.result k c.loop-k.invariant.rows hold c.marked.ensures
          (λ j i low none. first_none _ _ _ (c.either-rows.ensures.bits j i low) none)
          (λ j i low none. second_none _ _ _ (c.either-rows.ensures.bits j i low) none);
    }

pub returns : goal.returns
returns g c =
    let one = c.args.one.now in
    let other = c.args.other.now in
    let all : c.loop-k.k ≡ g.row.N = omega arith in
    differs_only g.row.N one other c.loop-k.columns c.loop-k.rows _
    (subst (λ (k : ℕ). DifferInColumns g.row.N one other c.loop-k.columns k) all c.loop-k.invariant.columns)
    (subst (λ (k : ℕ). DifferInRows g.row.N one other c.loop-k.rows k) all c.loop-k.invariant.rows)
    (in_no_lane c.loop-k.columns c.in_any_lane.result c.in_any_lane.ensures) (in_no_lane c.loop-k.rows c.in_any_lane-2.result c.in_any_lane-2.ensures)
