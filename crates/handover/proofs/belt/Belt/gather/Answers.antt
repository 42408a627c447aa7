use Rattle.std.proofs.Common.{◌≡◌, ◌∙◌, ℕ, List, All, ap, map, subst, sym}
use Rattle.handover.specs.BeltRule.{IsPrefix, HoldsTheRest, left_over, with_senders}
use Rattle.handover.specs.Belts.{IsWhole, BeltId, Received, left_of, notes_of}
use Rattle.handover.specs.declared.belt.Share.{Share}
use Rattle.handover.proofs.BeltLemmas.{prefixes_kept, seen_remainder, told, whole}
use Rattle.handover.proofs.belt.Belt.gather.Goals as goal

pub invariant_of-result : goal.invariant_of-result
invariant_of-result g c =
    let v = c.receiver.inside.pass.me.0.client in
    let is = c.learn_as.ensures.queue.1 ∙ c.absorb_all.ensures.taken in
    let kept = c.learn_as.ensures.queue.1 in (
      c.learn_as.ensures.queue.0.0 ∙ c.absorb_all.ensures.queue.0 ∙ ap (λ (r : Received g.row.N.Denot). r.belt.name) c.receiver.view_is
          ∙ ap (λ (b : BeltId). b.name) (c.requires.receiver ∙ sym c.self.view_is),
      c.learn_as.ensures.queue.0.2 ∙ c.absorb_all.ensures.queue.2 ∙ c.receiver.invariant.2,
      ap (λ (u : Share g.row.N.Denot). u.receives) is ∙ c.receiver.invariant.0,
      subst (λ (u : Share g.row.N.Denot). All (λ (e : ℕ × List g.row.N.Denot). IsPrefix (notes_of e.0 u.got) e.1) u.senders) (sym kept)
          (prefixes_kept c.absorb_all.new.pass.me.0.client c.learn_as.ensures.rule.0 c.learn_as.ensures.rule.1),
    )

pub returns-clause-workers : goal.returns-clause-workers
returns-clause-workers g c =
    ap (λ (u : Share g.row.N.Denot). u.made) (c.learn_as.ensures.queue.1 ∙ c.absorb_all.ensures.taken)
    ∙ ap (λ (r : Received g.row.N.Denot). r.belt.workers) c.receiver.view_is ∙ ap (λ (b : BeltId). b.workers) c.requires.receiver

pub returns-clause-left : goal.returns-clause-left
returns-clause-left g c =
    let v = c.receiver.inside.pass.me.0.client in
    let is = c.learn_as.ensures.queue.1 ∙ c.absorb_all.ensures.taken in
    subst (λ (u : Share g.row.N.Denot). map (left_over u.got) u.senders ≡ map (left_of c.args.receiver.got) c.args.senders.items) (sym is)
    (subst (λ (r : Received g.row.N.Denot). map (left_over v.got) (with_senders c.args.senders.items v).senders ≡ map (left_of r.got) c.args.senders.items)
    c.receiver.view_is (seen_remainder c.args.senders.items v c.receiver.invariant.1))

pub returns-clause-whole : goal.returns-clause-whole
returns-clause-whole g c =
    let v = c.receiver.inside.pass.me.0.client in
    let tells =
    subst (λ (u : Share g.row.N.Denot). HoldsTheRest u c.learn_as.ensures.rule.0) c.absorb_all.ensures.taken
    c.learn_as.ensures.rule.1 in
    subst (λ (r : Received g.row.N.Denot). All (IsWhole r.got) c.args.senders.items) c.receiver.view_is
    (whole v.got c.args.senders.items (told c.args.senders.items v c.learn_as.ensures.rule.0 c.receiver.invariant.1 tells))
