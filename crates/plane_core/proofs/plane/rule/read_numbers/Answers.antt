use Rattle.std.proofs.Common.{ap, refl, sym, ◌∙◌, subst, List, ℕ, ◌+◌, ◌<◌, ◌≤◌, Fits, arith, set, true, w8}
use Rattle.plane_core.specs.plane.Rules.{Reading}
use Rattle.plane_core.proofs.lemmas.OutputLemmas.{take-drop-remainder}
use Rattle.plane_core.proofs.lemmas.plane.RuleNumbers.{ReadUpTo, ReadUpTo_hit, ReadUpTo_miss, ReadUpTo_done}
use Rattle.plane_core.proofs.plane.rule.read_numbers.Goals as goal
use Rattle.plane_core.proofs.plane.rule.read_numbers.Goals.{then-starts_with, else-starts_with}

pub loop-i-preserved : goal.loop-i-preserved
loop-i-preserved g c =
    elim c.if-starts_with.branch [
      | then-starts_with w ↦
          let P : List ℕ → Type 0 = λ remainder. ReadUpTo g.row.N c.args.least c.args.text.now (c.loop-i.i + 1) (set c.loop-i.logic c.loop-i.i true) remainder in
          rw (w.logic-is, w.remainder-is)
          (subst P (sym (take-drop-remainder 1 c.loop-i.remainder.now))
          (ReadUpTo_hit _ _ _ _ _ _ c.loop-i-test.true (sym c.starts_with.ensures.value ∙ w.if-starts_with.true) c.loop-i.invariant))
      | else-starts_with w ↦
          rw (w.logic-is, w.remainder-is)
          (ReadUpTo_miss _ _ _ _ _ _ c.loop-i-test.true (sym c.starts_with.ensures.value ∙ w.if-starts_with.false) c.loop-i.invariant)
    ]

pub returns-clause-logic : goal.returns-clause-logic
returns-clause-logic g c = sym (ap (λ (r : Reading). r.logic) (ReadUpTo_done _ _ _ _ _ _ c.loop-i-test.false c.loop-i.auto.i-end c.loop-i.invariant))

pub returns-clause-remainder : goal.returns-clause-remainder
returns-clause-remainder g c = sym (ap (λ (r : Reading). r.remainder) (ReadUpTo_done _ _ _ _ _ _ c.loop-i-test.false c.loop-i.auto.i-end c.loop-i.invariant))

pub bounds-logic-i : goal.bounds-logic-i
bounds-logic-i g c = c.loop-i-test.true

pub slice_bounds-remainder-count : goal.slice_bounds-remainder-count
slice_bounds-remainder-count g c = c.if-starts_with.ensures.bound refl

-- i, and the bytes of the digits `least` and `least` + i, fit in 8 bits
digit_fits : (least i count : ℕ) → least + count ≤ 10 → i < count → (Fits w8 i) × (Fits w8 (48 + least)) × (Fits w8 (48 + least + i))
digit_fits least i count few low = (omega arith, omega arith, omega arith)

pub overflow_add-least : goal.overflow_add-least
overflow_add-least g c = (digit_fits c.args.least c.loop-i.i g.row.N c.requires c.loop-i-test.true).1

pub overflow_cast-i : goal.overflow_cast-i
overflow_cast-i g c = (digit_fits c.args.least c.loop-i.i g.row.N c.requires c.loop-i-test.true).0

pub overflow_add-least-in-loop-i : goal.overflow_add-least-in-loop-i
overflow_add-least-in-loop-i g c = (digit_fits c.args.least c.loop-i.i g.row.N c.requires c.loop-i-test.true).2
