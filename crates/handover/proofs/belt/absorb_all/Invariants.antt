use Rattle.std.proofs.Common.{◌≡◌, All, length}
use Rattle.crossbeam_queue.specs.Passes.{view}
use Rattle.handover.specs.BeltRule.{with_senders}
use Rattle.handover.proofs.belt.absorb_all.Given as goal

abbrev pub invariant-loop-sender : goal.invariant-loop-sender
invariant-loop-sender g l =
    (l.pass.table_id ≡ l.fn.pass.table_id)
    × (l.pass.id ≡ l.fn.pass.id)
    × (l.pass.me.1 ≡ l.fn.pass.me.1)
    × All (λ s. s.belt ≡ l.fn.queue.table.shared.table_id) l.senders.items
    × (with_senders l.senders.items (view l.pass) ≡ with_senders l.fn.senders.items (view l.fn.pass))

abbrev pub decreases-loop-sender : goal.decreases-loop-sender
decreases-loop-sender g l = length l.senders.items
