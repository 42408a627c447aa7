use Rattle.std.proofs.Common.{arith, subst, sym}
use Rattle.crew.specs.Crews.{HasHeard, collector_with}
use Rattle.crew.proofs.CrewLemmas.{collected_done, collected_heard, collected_none, collected_unheard, heard_none, heard_note, heard_still}
use Rattle.crew.specs.declared.note.Note.TheVariants.{Done, Report}
use Rattle.crew.proofs.collector.collect.Goals.{in-None, in-Some+then-left-eq0}
use Rattle.crew.proofs.collector.collect.Goals as goal

pub loop-init : goal.loop-init
loop-init g c = (
  collected_none (collector_with c.args.started c.args.pass.now c.args.haul.now),
  heard_none g.H.ProgressObserver.hears g.met.H.ProgressObserver.hears_more c.args.pass.now c.args.observer.now c.args.observer.now
      (g.met.H.ProgressObserver.hears_none c.args.observer.now),
)

pub loop-preserved-in-Err : goal.loop-preserved-in-Err
loop-preserved-in-Err g c = (
  collected_unheard c.loop.invariant.0 c.in-Report.report c.offer.new.haul (c.in-Report.ensures) (omega (arith, c.if-left-eq0.false))
      c.in-Err.ensures.kept c.in-Err.ensures.lost,
  heard_note g.H.ProgressObserver.hears g.met.H.ProgressObserver.hears_more (Report c.in-Report.report) c.args.observer.now c.taken-in-loop.new.self c.report.new.self
      (heard_still g.H.ProgressObserver.hears g.met.H.ProgressObserver.hears_more c.args.observer.now c.loop.observer c.taken-in-loop.new.self c.loop.invariant.1 c.taken-in-loop.ensures)
      c.in-Report.ensures c.report.ensures,
)

pub loop-preserved-in-Ok : goal.loop-preserved-in-Ok
loop-preserved-in-Ok g c = (
  collected_heard c.loop.invariant.0 c.in-Report.report c.offer.new.haul (c.in-Report.ensures) (omega (arith, c.if-left-eq0.false))
      c.in-Ok.ensures.added c.in-Ok.ensures.stands c.in-Ok.ensures.soup,
  heard_note g.H.ProgressObserver.hears g.met.H.ProgressObserver.hears_more (Report c.in-Report.report) c.args.observer.now c.taken-in-loop.new.self c.report.new.self
      (heard_still g.H.ProgressObserver.hears g.met.H.ProgressObserver.hears_more c.args.observer.now c.loop.observer c.taken-in-loop.new.self c.loop.invariant.1 c.taken-in-loop.ensures)
      c.in-Report.ensures c.report.ensures,
)

pub loop-preserved : goal.loop-preserved
loop-preserved g c = (
  collected_done c.loop.invariant.0 c.in-Done.worker (c.in-Done.ensures) (omega (arith, c.if-left-eq0.false)),
  heard_note g.H.ProgressObserver.hears g.met.H.ProgressObserver.hears_more (Done c.in-Done.worker) c.args.observer.now c.taken-in-loop.new.self c.taken-in-loop.new.self
      (heard_still g.H.ProgressObserver.hears g.met.H.ProgressObserver.hears_more c.args.observer.now c.loop.observer c.taken-in-loop.new.self c.loop.invariant.1 c.taken-in-loop.ensures)
      c.in-Done.ensures (g.met.H.ProgressObserver.hears_none c.taken-in-loop.new.self),
)

pub returns-clause-heard : goal.returns-clause-heard
returns-clause-heard g c =
    let hears = g.H.ProgressObserver.hears in
    let heard : g.row.H.Denot → Type 0 = λ o. HasHeard c.args.pass.now c.loop.pass (λ reports. hears c.args.observer.now reports o) in
    elim c.match-next.branch [
      | in-None w ↦ subst heard (sym w.observer-is) c.loop.invariant.1
      | in-Some+then-left-eq0 w ↦ subst heard (sym w.observer-is)
          (heard_still hears g.met.H.ProgressObserver.hears_more c.args.observer.now c.loop.observer w.taken-in-loop.new.self c.loop.invariant.1
          w.taken-in-loop.ensures)
    ]
