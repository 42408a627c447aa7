use Rattle.std.proofs.Common.{◌≤◌, ℕ, arith, subst}
use Rattle.survey_core.specs.shapes.Envelopes.{StayClear}
use Rattle.survey_core.proofs.lemmas.shapes.EnvelopeLemmas.{apart_by_cycles}
use Rattle.survey_core.proofs.shapes.envelope_bounds.stay_apart.Goals as goal
use Rattle.survey_core.proofs.shapes.envelope_bounds.stay_apart.Goals.{then-are_still_and_apart-via-then-are_still_and_apart}
use Rattle.survey_core.proofs.shapes.envelope_bounds.stay_apart.Goals.{then-are_still_and_apart-via-else-are_still_and_apart+then-are_still_lives}

pub returns-then-are_still_and_apart : goal.returns-then-are_still_and_apart
returns-then-are_still_and_apart c = λ _. elim c.then-are_still_and_apart.branch [
  | then-are_still_and_apart-via-then-are_still_and_apart w ↦
      c.are_still_and_apart.ensures w.if-are_still_and_apart.true c.args.horizon
  | then-are_still_and_apart-via-else-are_still_and_apart+then-are_still_lives w ↦
      w.are_still_lives.ensures w.if-are_still_lives.true c.args.horizon
]

pub returns : goal.returns
returns c = λ e.
    let period = c.if-is_still.period in
    let some : 1 ≤ period = omega (arith, c.if-period-eq0.false) in
    apart_by_cycles c.args.horizon period c.args.one.now c.args.other.now some (c.serves.ensures c.if-not-serves.false)
    (c.serves-else-not-serves.ensures c.if-not-serves-2.false)
    (subst (λ (cycles : ℕ). StayClear cycles c.args.one.now c.args.other.now) c.cycles_in.ensures (c.are_clear_for.ensures e))
