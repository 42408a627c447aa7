use Rattle.std.proofs.Common.{◌<◌, ◌∙◌, ap, arith, length, subst₂, sym}
use Rattle.std.proofs.lemmas.List.{get_or_read}
use Rattle.std.proofs.lemmas.List.Elements.{Contains-get_or}
use Rattle.handover.specs.Belts.{Presented}
use Rattle.handover.specs.Tickets.{Drawn}
use Rattle.crew.specs.declared.note.Note.{Note}
use Rattle.crew.proofs.WorkerLemmas.{not_done_more, own_report, reported_next, worked_drained, worked_lacking, worked_stopped}
use Rattle.crew.proofs.worker.survey_left.Goals as goal

pub loop-preserved : goal.loop-preserved
loop-preserved g c =
    let shared = c.args.shared.now in
    let missing = shared.missing.items in
    let place = c.in-Some-draw.place in
    let so_far = c.loop.invariant in
    let below : place < length missing = omega (arith, c.in-Some-draw.ensures.below, shared.listed) in (
      c.draw.ensures.series ∙ so_far.0,
      ap (λ (s : Presented Note). s.number) c.present_one_of_many.ensures ∙ so_far.1,
      reported_next shared c.loop.pass.numbers c.draw.new.pass.numbers c.loop.sender c.present_one_of_many.new.pass place
          c.in-Ok-make_with_surveyor.report so_far.2 c.in-Some-draw.ensures.greater below
          (own_report (g.G.Gate.lets c.args.gate.now) c.in-Ok-make_with_surveyor.report (sym (c.number-worker.ensures ∙ sym so_far.1))
          c.in-Ok-make_with_surveyor.ensures.report.worker_is c.in-Ok-make_with_surveyor.ensures.report.job_is
          c.in-Ok-make_with_surveyor.ensures.report.number_is c.in-Ok.ensures.lets)
          (c.in-Ok-make_with_surveyor.ensures.report.number_is ∙ get_or_read missing _ _ below c.index-number.ensures 0)
          (ap (λ (d : Drawn). d.numbers) c.in-Some-draw.ensures.drawn) c.present_one_of_many.ensures,
      not_done_more c.loop.sender.notes c.present_one_of_many.new.pass.notes c.in-Ok-make_with_surveyor.report so_far.3
          (ap (λ (s : Presented Note). s.notes) c.present_one_of_many.ensures),
    )

pub returns-in_default-clause-worked : goal.returns-in_default-clause-worked
returns-in_default-clause-worked g c =
    let so_far = c.loop.invariant in
    worked_drained c.args.shared.now c.args.sender.now.number c.loop.pass c.draw.new.pass c.loop.sender so_far.0 so_far.1 so_far.2
    c.in_default.ensures.none

pub returns-in-Err-clause-worked : goal.returns-in-Err-clause-worked
returns-in-Err-clause-worked g c =
    let shared = c.args.shared.now in
    let missing = shared.missing.items in
    let place = c.in-Some-draw.place in
    let so_far = c.loop.invariant in
    let below : place < length missing = omega (arith, c.in-Some-draw.ensures.below, shared.listed) in
    worked_stopped shared c.args.sender.now.number c.loop.pass c.draw.new.pass c.loop.sender so_far.0 so_far.1 so_far.2 place
    c.in-Some-draw.ensures.drawn (
      _,
      Contains-get_or missing place 0 below,
      subst₂ (g.G.Gate.may_stop c.args.gate.now) c.number-worker.ensures (get_or_read missing _ _ below c.index-number.ensures 0) c.in-Err.ensures.stops,
    )

pub returns-in-Err-Memory-clause-worked : goal.returns-in-Err-Memory-clause-worked
returns-in-Err-Memory-clause-worked g c =
    let shared = c.args.shared.now in
    let missing = shared.missing.items in
    let place = c.in-Some-draw.place in
    let so_far = c.loop.invariant in
    let below : place < length missing = omega (arith, c.in-Some-draw.ensures.below, shared.listed) in
    worked_lacking shared c.args.sender.now.number c.loop.pass c.draw.new.pass c.loop.sender so_far.0 so_far.1 so_far.2 place
    c.in-Err-Memory.error c.in-Some-draw.ensures.drawn below
    (subst₂ (g.G.Gate.lets c.args.gate.now) c.number-worker.ensures (get_or_read missing _ _ below c.index-number.ensures 0) c.in-Ok.ensures.lets)
