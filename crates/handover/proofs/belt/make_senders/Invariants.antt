use Rattle.std.proofs.Common.{◌≡◌, ◌≤◌, ◌-◌, [], length, map, true}
use Rattle.std.specs.List.{range_with_len}
use Rattle.crossbeam_queue.specs.Passes.{view}
use Rattle.handover.specs.Belts.{silent}
use Rattle.handover.specs.BeltRule.{share}
use Rattle.handover.proofs.belt.make_senders.Given as goal

abbrev pub invariant-loop-made : goal.invariant-loop-made
invariant-loop-made g l =
    (l.pass.table_id ≡ l.fn.pass.table_id)
    × (l.pass.id ≡ l.fn.pass.id)
    × (l.pass.me.1 ≡ l.fn.pass.me.1)
    × (view l.pass ≡ share [] true l.made [])
    × (l.made ≤ l.fn.workers)
    × (length l.senders.items ≡ l.made)
    × (l.senders.items ≡ map (silent l.fn.queue.table.shared.table_id) (range_with_len 1 l.made))
    × (l.senders.cap ≡ l.fn.senders.cap)

abbrev pub decreases-loop-made : goal.decreases-loop-made
decreases-loop-made g l = l.fn.workers - l.made
