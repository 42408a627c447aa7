use Rattle.std.proofs.Common.{◌≡◌, ◌∙◌, ◌++◌, ◌∷◌, [], sym, ap, suc, arith, rules, FitsSigned, to_z-of_z, w32}
use Rattle.plane_core.specs.plane.Bounds.{shifted}
use Rattle.plane_core.specs.plane.Generations.{touches_edge}
use Rattle.code_core.specs.Recurrences.{Recurs}
use Rattle.code_core.proofs.RecurrenceLemmas.{ends_at_once, ends_by_memory, ends_found, ends_refused, ends_without, follows-none, follows-more}
use Rattle.code_core.proofs.RecurrenceLemmas.{inside_then, recurs_then, step_refused}
use Rattle.code_core.proofs.recurrence.search.Goals as goal

pub returns-then-touches_edge : goal.returns-then-touches_edge
returns-then-touches_edge c =
    ends_at_once _ c.args.rule.now c.args.pattern.now c.args.limit c.requires.least (sym c.touches_edge.ensures ∙ c.if-touches_edge.true)

pub loop-age-init : goal.loop-age-init
loop-age-init c = ([], follows-none c.args.rule.now c.args.pattern.now c.in_ok-latest.latest c.in_ok-latest.ensures)

pub returns-in_err-next : goal.returns-in_err-next
returns-in_err-next c =
    ends_refused _ c.args.rule.now c.args.pattern.now c.args.limit _ _ c.from_residual-in_err-next.ensures.1 (λ e. (
      c.loop-age.age,
      c.loop-age-test.true,
      c.loop-age.invariant.1.new,
      ap touches_edge (sym c.loop-age.invariant.1.latest) ∙ step_refused _ _ c.in_err-next.ensures.refused e,
    ))
    (sym c.touches_edge.ensures ∙ c.if-touches_edge.false)

-- if the next generation is the pattern again, the search ends with the recurrence of the pattern
pub returns-in-Some : goal.returns-in-Some
returns-in-Some c =
    let rule = c.args.rule.now in
    let cells = c.args.pattern.now in
    let before = c.loop-age.invariant.0 in
    let dx_fits : FitsSigned w32 c.in-Some.dx = search rules in
    let dy_fits : FitsSigned w32 c.in-Some.dy = search rules in
    let found : c.recurrence_at.result ≡ record { period = suc c.loop-age.age; dx = c.in-Some.dx; dy = c.in-Some.dy } =
    simp to_z-of_z at c.recurrence_at.ensures in
    let back : shifted c.in-Some.dx c.in-Some.dy cells ≡ c.in_ok-next.next = c.in-Some.ensures.some in
    let recurs : Recurs rule cells c.args.limit c.recurrence_at.result =
    rw found (recurs_then rule cells c.loop-age.age c.args.limit before c.loop-age.latest c.in_ok-next.next c.in-Some.dx c.in-Some.dy
    c.loop-age.invariant.1 c.loop-age-test.true c.in_ok-next.ensures.next back) in
    ends_found _ rule cells c.args.limit _ recurs
    (λ g low. inside_then rule cells c.loop-age.age before c.loop-age.latest c.in_ok-next.next c.in-Some.dx c.in-Some.dy
    c.loop-age.invariant.1 c.in_ok-next.ensures.inside c.in_ok-next.ensures.next back g)
    (sym c.touches_edge.ensures ∙ c.if-touches_edge.false)

pub loop-age-preserved : goal.loop-age-preserved
loop-age-preserved c = (
  c.loop-age.invariant.0 ++ c.loop-age.latest ∷ [],
  follows-more c.args.rule.now c.args.pattern.now c.loop-age.age c.loop-age.invariant.0 c.loop-age.latest c.in_ok-next.next
      c.loop-age.invariant.1 c.in_ok-next.ensures.inside c.in_ok-next.ensures.next c.in_default.ensures.none,
)

pub returns : goal.returns
returns c =
    ends_without _ c.args.rule.now c.args.pattern.now c.args.limit (λ p dx dy some low. c.loop-age.invariant.1.new p dx dy some (omega arith))
    (λ g low new. c.loop-age.invariant.1.inside g (omega arith)) (sym c.touches_edge.ensures ∙ c.if-touches_edge.false)

-- memory ran out
pub returns-in_err-latest : goal.returns-in_err-latest
returns-in_err-latest c =
    ends_by_memory _ c.args.rule.now c.args.pattern.now c.args.limit c.from_residual.result c.from_residual.ensures.1
    (sym c.touches_edge.ensures ∙ c.if-touches_edge.false)
