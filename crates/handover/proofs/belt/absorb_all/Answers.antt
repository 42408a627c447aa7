use Rattle.std.proofs.Common.{◌≡◌, ◌∙◌, Some}
use Rattle.std.proofs.lemmas.List.Elements.{All-pop}
use Rattle.crossbeam_queue.specs.Passes.{view}
use Rattle.handover.specs.Belts.{Presented}
use Rattle.handover.specs.BeltRule.{with_senders}
use Rattle.handover.proofs.BeltLemmas.{taken_more}
use Rattle.handover.proofs.belt.absorb_all.Goals as goal

pub loop-sender-preserved : goal.loop-sender-preserved
loop-sender-preserved g c =
    let so_far = c.loop-sender.invariant in
    let left = c.pop.new.self.items in (
      c.absorb_one.ensures.queue.0 ∙ so_far.0,
      c.absorb_one.ensures.queue.1 ∙ so_far.1,
      c.absorb_one.ensures.queue.2 ∙ so_far.2,
      (All-pop (λ (s : Presented g.row.N.Denot). s.belt ≡ c.args.queue.now.table.shared.table_id) c.loop-sender.senders.items left (Some c.in-Some.sender)
          c.in-Some.ensures.items so_far.3).0,
      taken_more left c.loop-sender.senders.items c.in-Some.sender (view c.loop-sender.pass) (view c.absorb_one.new.pass)
          (with_senders c.args.senders.items (view c.args.pass.now))
          c.in-Some.ensures.items c.absorb_one.ensures.taken so_far.4,
    )
