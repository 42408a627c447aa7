use Rattle.std.proofs.Common.{◌≡◌, ◌≤◌, ◌+◌, All, [], length}
use Rattle.handover.specs.TicketRule.{holding, series_of}
use Rattle.handover.specs.Tickets.{fresh}
use Rattle.handover.proofs.tickets.cut_up.Given as goal

abbrev pub invariant-loop-left : goal.invariant-loop-left
invariant-loop-left l =
    (l.seat.table_id ≡ l.fn.seat.table_id)
    × (l.seat.me ≡ (holding l.fn.shared.key l.left 0 [], []))
    × (1 ≤ l.left)
    × (length l.made.items + l.left ≡ l.fn.passes)
    × (l.made.cap ≡ l.fn.made.cap)
    × All (λ p. p ≡ fresh (series_of l.fn.shared.table_id l.fn.shared.key)) l.made.items

abbrev pub decreases-loop-left : goal.decreases-loop-left
decreases-loop-left l = l.left
