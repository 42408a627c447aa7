use Rattle.std.proofs.Common.{◌≡◌, ◌∙◌, ◌∷◌, ◌++◌, ℕ, [], ap, min, subst, sym}
use Rattle.handover.specs.TicketRule.{Gathers, series_of}
use Rattle.handover.specs.Tickets.{Drawn, Series}
use Rattle.handover.proofs.TicketLemmas.{ended, gathers}
use Rattle.handover.proofs.tickets.close_with_pass.Goals as goal

pub returns-clause-gathers : goal.returns-clause-gathers
returns-clause-gathers c =
    let table = c.tickets.inside.table.shared in
    let first = c.first.inside in
    let left = c.args.passes.items in
    let ends = ended table.key c.join_all.new.seat.id c.join_all.new.seat.me.0 _ _ c.word-counter.result c.close_with-closed.ensures.values.2 c.word-counter.ensures in
    let m = min c.word-counter.result table.key.count in
    let same : m ≡ c.min.result = ap (λ (n : ℕ). min c.word-counter.result n) (sym c.tickets.invariant.0) ∙ sym c.min.ensures in
    let pass : Drawn = record { series = series_of first.seat.table_id first.seat.me.0.issue; numbers = first.seat.me.0.numbers; heard_none = first.heard_none } in
    let whole = gathers table.key table.table_id left pass first.seat.me.0 c.join_all.new.seat.me.0 m c.first.invariant.0 c.first.invariant.1
    (λ i. first.seat.me.0.numbers)
    c.join_all.ensures.joined ends in
    let named : series_of table.table_id table.key ≡ c.args.tickets =
    (λ i. record { name = table.table_id; count = sym c.tickets.invariant.0 i; passes = table.key.passes }) ∙ c.tickets.view_is in
    subst (λ (s : Series). Gathers s (left ++ c.args.first ∷ []) c.min.result) named
    (subst (λ (n : ℕ). Gathers (series_of table.table_id table.key) (left ++ c.args.first ∷ []) n) same
    (subst (λ (p : Drawn). Gathers (series_of table.table_id table.key) (left ++ p ∷ []) m) c.first.view_is whole))
