use Rattle.std.proofs.Common.{◌≡◌, ◌∙◌, sym, ap, suc, arith, rules, FitsSigned, to_z-of_z, w32}
use Rattle.plane_core.specs.plane.Bounds.{shifted}
use Rattle.plane_core.specs.plane.Generations.{touches_edge}
use Rattle.code_core.specs.declared.recurrence.Recurrence.{Recurrence}
use Rattle.code_core.specs.Recurrences.{Recurs}
use Rattle.code_core.proofs.RecurrenceLemmas.{ends_at_once, ends_by_memory, ends_found, ends_refused, ends_without, follows-none, follows-more}
use Rattle.code_core.proofs.RecurrenceLemmas.{inside_then, phases_then, recurs_then, step_refused}
use Rattle.code_core.proofs.recurrence.keep_phases.Goals as goal

pub returns-then-touches_edge : goal.returns-then-touches_edge
returns-then-touches_edge c =
    ends_at_once _ c.args.rule.now c.args.pattern.now c.args.limit c.requires.least (sym c.touches_edge.ensures ∙ c.if-touches_edge.true)

pub loop-age-init : goal.loop-age-init
loop-age-init c = rw c.new-phases.ensures.items (follows-none c.args.rule.now c.args.pattern.now c.in_ok-latest.latest c.in_ok-latest.ensures)

pub returns-in_err-next : goal.returns-in_err-next
returns-in_err-next c =
    ends_refused _ c.args.rule.now c.args.pattern.now c.args.limit _ _ c.from_residual-in_err-next.ensures.1 (λ e. (
      c.loop-age.age,
      c.loop-age-test.true,
      c.loop-age.invariant.new,
      ap touches_edge (sym c.loop-age.invariant.latest) ∙ step_refused _ _ c.in_err-next.ensures.refused e,
    ))
    (sym c.touches_edge.ensures ∙ c.if-touches_edge.false)

-- if the next generation is the pattern again, the search ends with the phases and the recurrence of the pattern
pub returns-in-Some : goal.returns-in-Some
returns-in-Some c =
    let rule = c.args.rule.now in
    let cells = c.args.pattern.now in
    let dx_fits : FitsSigned w32 c.in-Some.dx = search rules in
    let dy_fits : FitsSigned w32 c.in-Some.dy = search rules in
    let found : c.recurrence_at-recurrence.result ≡ record { period = suc c.loop-age.age; dx = c.in-Some.dx; dy = c.in-Some.dy } =
    simp to_z-of_z at c.recurrence_at-recurrence.ensures in
    let age : c.recurrence_at-recurrence.result.period ≡ suc c.loop-age.age = ap (λ (r : Recurrence). r.period) c.recurrence_at-recurrence.ensures in
    let back : shifted c.in-Some.dx c.in-Some.dy cells ≡ c.in_ok-next.next = c.in-Some.ensures.some in
    let recurs : Recurs rule cells c.args.limit c.recurrence_at-recurrence.result =
    rw found (recurs_then rule cells c.loop-age.age c.args.limit c.loop-age.phases.items c.loop-age.latest c.in_ok-next.next c.in-Some.dx c.in-Some.dy
    c.loop-age.invariant c.loop-age-test.true c.in_ok-next.ensures.next back) in
    ends_found _ rule cells c.args.limit _ (record {
      recurs = recurs;
      phases = rw (c.in_ok-push.ensures.items, age)
          (phases_then rule cells c.loop-age.age c.loop-age.phases.items c.loop-age.latest c.loop-age.invariant);
    })
    (λ g low. inside_then rule cells c.loop-age.age c.loop-age.phases.items c.loop-age.latest c.in_ok-next.next c.in-Some.dx c.in-Some.dy
    c.loop-age.invariant c.in_ok-next.ensures.inside c.in_ok-next.ensures.next back g)
    (sym c.touches_edge.ensures ∙ c.if-touches_edge.false)

pub loop-age-preserved : goal.loop-age-preserved
loop-age-preserved c =
    rw c.in_ok-push.ensures.items (follows-more c.args.rule.now c.args.pattern.now c.loop-age.age c.loop-age.phases.items c.loop-age.latest c.in_ok-next.next
    c.loop-age.invariant c.in_ok-next.ensures.inside c.in_ok-next.ensures.next c.in_default.ensures.none)

pub returns : goal.returns
returns c =
    ends_without _ c.args.rule.now c.args.pattern.now c.args.limit (λ p dx dy some low. c.loop-age.invariant.new p dx dy some (omega arith))
    (λ g low new. c.loop-age.invariant.inside g (omega arith)) (sym c.touches_edge.ensures ∙ c.if-touches_edge.false)

-- memory ran out
pub returns-in_err-latest : goal.returns-in_err-latest
returns-in_err-latest c =
    ends_by_memory _ c.args.rule.now c.args.pattern.now c.args.limit c.from_residual.result c.from_residual.ensures.1
    (sym c.touches_edge.ensures ∙ c.if-touches_edge.false)

pub returns-in_err-push : goal.returns-in_err-push
returns-in_err-push c =
    ends_by_memory _ c.args.rule.now c.args.pattern.now c.args.limit c.from_residual-in_err-push.result c.from_residual-in_err-push.ensures.1
    (sym c.touches_edge.ensures ∙ c.if-touches_edge.false)
