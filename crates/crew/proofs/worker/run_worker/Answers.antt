use Rattle.std.proofs.Common.{◌∙◌, ap, ℕ}
use Rattle.handover.specs.Belts.{with_note}
use Rattle.crew.specs.declared.note.Note.TheVariants.{Done}
use Rattle.crew.proofs.WorkerLemmas.{returned, returned_off}
use Rattle.crew.proofs.worker.run_worker.Goals as goal

pub returns-then-load-from : goal.returns-then-load-from
returns-then-load-from g c =
    returned_off c.args.shared.now c.args.pass c.args.sender c.requires.pass c.requires.sender

pub returns : goal.returns
returns g c =
    let sender = c.survey_all-end.new.sender in
    let done = c.survey_all-end.ensures in
    returned c.args.shared.now c.args.sender.number c.survey_all-end.result c.survey_all-end.new.pass sender c.present.new.pass
    done.worked done.begun done.not_done (c.present.ensures ∙ ap (λ (w : ℕ). with_note (Done w) sender) c.number-worker.ensures)
