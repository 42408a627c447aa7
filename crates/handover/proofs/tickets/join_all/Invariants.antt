use Rattle.std.proofs.Common.{◌≡◌, All, length}
use Rattle.handover.specs.TicketRule.{Joining}
use Rattle.handover.proofs.tickets.join_all.Given as goal

abbrev pub invariant-loop-pass : goal.invariant-loop-pass
invariant-loop-pass l =
    (l.seat.table_id ≡ l.fn.seat.table_id)
    × (l.seat.id ≡ l.fn.seat.id)
    × All (λ p. p.series.name ≡ l.fn.shared.table_id) l.passes.items
    × Joining l.fn.passes.items l.passes.items l.fn.seat.me.0 l.seat.me.0

abbrev pub decreases-loop-pass : goal.decreases-loop-pass
decreases-loop-pass l = length l.passes.items
