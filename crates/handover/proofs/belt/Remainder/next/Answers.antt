use Rattle.std.proofs.Common.{◌≤◌, ◌∙◌, ℕ, List, All, ap, map, subst, sym}
use Rattle.crossbeam_queue.specs.Passes.{view}
use Rattle.handover.specs.BeltRule.{IsPrefix, left_over}
use Rattle.handover.specs.Belts.{Left, NothingLeft, notes_of, with_first}
use Rattle.handover.specs.declared.belt.Share.{Share}
use Rattle.handover.proofs.BeltLemmas.{if_none, learns, none_left, pops, took}
use Rattle.handover.proofs.belt.Remainder.next.Goals as goal

pub pop_as-requires-clause-rule : goal.pop_as-requires-clause-rule
pop_as-requires-clause-rule g c =
    let id = c.self.inside.pass.id in
    let v = view c.self.inside.pass in
    (pops id v c.self.invariant.2, learns id v c.self.invariant.2)

pub invariant_of-self : goal.invariant_of-self
invariant_of-self g c =
    let kept = c.in_err-note.ensures.rule.0 in
    let before = c.self.invariant in (
      c.pop_as.ensures.queue.0 ∙ before.0,
      c.pop_as.ensures.queue.2 ∙ before.1,
      ap (λ (v : Share g.row.N.Denot). v.receives) kept ∙ before.2,
      subst (λ (v : Share g.row.N.Denot). All (λ (e : ℕ × List g.row.N.Denot). IsPrefix (notes_of e.0 v.got) e.1) v.senders) (sym kept) before.3,
    )

pub returns-in_err-note-clause-none : goal.returns-in_err-note-clause-none
returns-in_err-note-clause-none g c =
    if_none c.from_residual.result (NothingLeft c.args.self.now)
    (subst (λ (left : Left g.row.N.Denot). NothingLeft left) c.self.view_is
    (none_left (view c.self.inside.pass) c.in_err-note.ensures.rule.1))

pub invariant_of-self-2 : goal.invariant_of-self-2
invariant_of-self-2 g c =
    let gets = c.in_ok-note.ensures.rule in
    let before = c.self.invariant in (
      c.pop_as.ensures.queue.0 ∙ before.0,
      c.pop_as.ensures.queue.2 ∙ before.1,
      ap (λ (u : Share g.row.N.Denot). u.receives) gets.got ∙ before.2,
      subst (λ (u : Share g.row.N.Denot). All (λ (e : ℕ × List g.row.N.Denot). IsPrefix (notes_of e.0 u.got) e.1) u.senders) (sym gets.got) gets.prefixes,
    )

pub returns-clause-taken : goal.returns-clause-taken
returns-clause-taken g c =
    let gets = c.in_ok-note.ensures.rule in
    let v = view c.self.inside.pass in
    let sender = c.in_ok-note.field-0-0 in
    let note = c.in_ok-note.note in
    record {
      sender = sender;
      some_worker = subst (λ (left : Left g.row.N.Denot). (1 ≤ sender) × (sender ≤ left.workers)) c.self.view_is gets.made;
      workers = ap (λ (u : Share g.row.N.Denot). u.made) gets.got ∙ ap (λ (left : Left g.row.N.Denot). left.workers) c.self.view_is;
      lists = ap (λ (left : Left g.row.N.Denot). left.lists) (sym c.self.view_is) ∙ took v.got (sender, note) v.senders gets.prefixes
          ∙ ap (λ (u : Share g.row.N.Denot). map (with_first sender note) (map (left_over u.got) u.senders)) (sym gets.got);
    }
