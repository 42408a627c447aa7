use Rattle.std.proofs.Common.{◌≡◌, ◌+◌, ◌-◌, ◌<◌, ℕ, [], rules, set, slice_index_or, arith, refl, subst}
use Rattle.plane_core.specs.windows.LaneSums.{AreBeside}
use Rattle.plane_core.proofs.lemmas.windows.WindowLemmas.{AreAbove, AreHere, AreMade, above_start, here_at, below_stop}
use Rattle.plane_core.proofs.lemmas.windows.WindowLemmas.{made_next, made_more, made_to_next, all_made}
use Rattle.std.proofs.Common.{sym}
use Rattle.plane_core.proofs.lemmas.plane.OrderLemmas.{below_same, last_low, last_next}
use Rattle.plane_core.proofs.windows.window.generation_with_logic.Goals as goal

pub loop-k-init : goal.loop-k-init
loop-k-init g c =
    let x = c.args.window.now in
    record {
      low = c.requires;
      long = search rules;
      above =
          above_start g.row.N x c.across.result.all c.later_sum-up.result c.requires c.later_sum-up.ensures.first c.later_sum-up.ensures.others
          c.across.ensures.all;
      own = here_at g.row.N x c.across-first.result.all 0 c.requires c.across-first.ensures.all;
      beside = c.across-first.ensures.beside;
      made = λ k low. absurd (omega (arith, low));
      rest = λ k low. refl;
    }

pub loop-k-preserved : goal.loop-k-preserved
loop-k-preserved g c =
    let n = g.row.N in
    let k = c.loop-k.k in
    let x = c.args.window.now in
    let rule = g.A.CellLogic.rule c.args.rule.now in
    let far = c.loop-k-test.true in
    let one = made_to_next rule n x _ _ _ _ _ k (k + 1) refl (omega (arith, far)) c.loop-k.invariant c.next_vector-second.ensures in
    let two = made_to_next rule n x _ _ _ _ _ (k + 1) (k + 2) (omega arith) (omega (arith, far)) one c.next_vector-third.ensures in
    made_to_next rule n x _ _ _ _ _ (k + 2) (k + 3) (omega arith) (omega (arith, far)) two c.next_vector-fourth.ensures

pub loop-k-2-preserved : goal.loop-k-2-preserved
loop-k-2-preserved g c =
    made_to_next (g.A.CellLogic.rule c.args.rule.now) g.row.N c.args.window.now _ _ _ _ _ c.loop-k-2.k (c.loop-k-2.k + 1) refl (omega (arith, c.loop-k-2-test.true))
    c.loop-k-2.invariant c.next_vector-down.ensures

pub returns : goal.returns
returns g c =
    let n = g.row.N in
    let x = c.args.window.now in
    let y = c.loop-k-2.window in
    let rule = g.A.CellLogic.rule c.args.rule.now in
    let inv = c.loop-k-2.invariant in
    let some : 0 < n = c.requires in
    let last : c.loop-k-2.k ≡ n - 1 = omega (arith, inv.low, c.loop-k-2-test.false) in
    let up = subst (λ (k : ℕ). AreAbove n x c.loop-k-2.up k) last inv.above in
    let here = subst (λ (k : ℕ). AreHere n x c.loop-k-2.here.all k) last inv.own in
    let made = subst (λ (k : ℕ). AreMade rule n x y k) last inv.made in
    let down = below_stop n x c.across-first.result.all c.earlier_sum.result some c.earlier_sum.ensures.others c.earlier_sum.ensures.last
    c.across-first.ensures.all in
    let next = made_next rule n x c.loop-k-2.up c.loop-k-2.here.all c.earlier_sum.result _ c.next_cells.result (n - 1) (last_low n some) up here down
    (inv.rest (n - 1) (omega (arith, last))) c.next_cells.ensures in
    let whole : n - 1 + 1 ≡ n = last_next n some in
    all_made rule n x (set y (n - 1) c.next_cells.result) some
    (subst (λ (k : ℕ). AreMade rule n x (set y (n - 1) c.next_cells.result) k) whole (made_more rule n x y c.next_cells.result (n - 1)
    (below_same (n - 1) n _ (last_low n some) inv.long) made next))

pub next_cells-requires : goal.next_cells-requires
next_cells-requires g c =
    let inv = c.loop-k-2.invariant in
    let last : c.loop-k-2.k ≡ g.row.N - 1 = omega (arith, inv.low, c.loop-k-2-test.false) in
    subst (λ (k : ℕ). AreBeside c.loop-k-2.here (slice_index_or c.loop-k-2.window k [])) last
    (subst (AreBeside c.loop-k-2.here) (sym (inv.rest c.loop-k-2.k (omega arith))) inv.beside)

pub next_vector-second-requires : goal.next_vector-second-requires
next_vector-second-requires g c =
    let inv = c.loop-k.invariant in
    (search rules, (omega (arith, c.loop-k-test.true), subst (AreBeside c.loop-k.here) (sym (inv.rest c.loop-k.k (omega arith))) inv.beside))

pub next_vector-down-requires : goal.next_vector-down-requires
next_vector-down-requires g c =
    let inv = c.loop-k-2.invariant in
    (search rules, (omega (arith, c.loop-k-2-test.true), subst (AreBeside c.loop-k-2.here) (sym (inv.rest c.loop-k-2.k (omega arith))) inv.beside))

pub next_vector-third-requires : goal.next_vector-third-requires
next_vector-third-requires g c =
    let k = c.loop-k.k in
    let far = c.loop-k-test.true in
    let one = made_to_next (g.A.CellLogic.rule c.args.rule.now) g.row.N c.args.window.now _ _ _ _ _ k (k + 1) refl (omega (arith, far)) c.loop-k.invariant c.next_vector-second.ensures in
    (search rules, (omega (arith, far), subst (AreBeside c.next_vector-second.result) (sym (one.rest (k + 1) (omega arith))) one.beside))

pub next_vector-fourth-requires : goal.next_vector-fourth-requires
next_vector-fourth-requires g c =
    let n = g.row.N in
    let x = c.args.window.now in
    let rule = g.A.CellLogic.rule c.args.rule.now in
    let k = c.loop-k.k in
    let far = c.loop-k-test.true in
    let one = made_to_next rule n x _ _ _ _ _ k (k + 1) refl (omega (arith, far)) c.loop-k.invariant c.next_vector-second.ensures in
    let two = made_to_next rule n x _ _ _ _ _ (k + 1) (k + 2) (omega arith) (omega (arith, far)) one c.next_vector-third.ensures in
    (search rules, (omega (arith, far), subst (AreBeside c.next_vector-third.result) (sym (two.rest (k + 2) (omega arith))) two.beside))
