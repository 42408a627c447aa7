use Rattle.std.proofs.Common.{◌∙◌}
use Rattle.std.proofs.lemmas.List.{with_items_is}
use Rattle.plane_core.proofs.engine.leap.run_all.Goals as goal

pub returns-in-Life-clause-run : goal.returns-in-Life-clause-run
returns-in-Life-clause-run c =
    let kept = c.run_each.auto.held ∙ c.as_mut_slice-held.ensures.len in
    rw (c.in-Life.is, with_items_is c.make_room.new.held c.run_each.new.held kept) c.run_each.ensures.run

pub returns-in-Any-clause-run : goal.returns-in-Any-clause-run
returns-in-Any-clause-run c =
    let kept = c.run_each-in-Any.auto.held ∙ c.as_mut_slice-held.ensures.len in
    rw (c.in-Any.is, with_items_is c.make_room.new.held c.run_each-in-Any.new.held kept) c.run_each-in-Any.ensures.run
