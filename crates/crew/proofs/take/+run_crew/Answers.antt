use Rattle.std.proofs.Common.{◌∙◌, subst, sym}
use Rattle.crew.specs.Workers.{Leaves}
use Rattle.crew.proofs.StepLemmas.{not_more, one_at_most, others_may_run, pass_out, pass_room, run_more, run_none, sender_out, sender_room}
use Rattle.crew.proofs.StepLemmas.{heard_if, worker_out}
use Rattle.crew.proofs.take.+run_crew.Goals as goal

pub receive_all-requires : goal.receive_all-requires
receive_all-requires g t c = c.requires.receiver

pub returns-in_default-clause-all : goal.returns-in_default-clause-all
returns-in_default-clause-all g t c =
    let all = c.receive_all.ensures in
    run_none c.args.crew.now c.receive_all.new.crew _ c.requires c.in_default.ensures.none all.collected
    (heard_if c.receive_all.new.crew.lacking) all.back all.stopped all.away

pub start_worker-begun-requires-clause-pass : goal.start_worker-begun-requires-clause-pass
start_worker-begun-requires-clause-pass g t c κs within =
    pass_out c.remove_last.new.self c.args.crew.now (c.in-Some.pass, c.in-Some.sender) c.requires
    c.in-Some.ensures.taken_out

pub start_worker-begun-requires-clause-sender : goal.start_worker-begun-requires-clause-sender
start_worker-begun-requires-clause-sender g t c κs within =
    sender_out c.remove_last.new.self c.args.crew.now (c.in-Some.pass, c.in-Some.sender) c.requires
    c.in-Some.ensures.taken_out

pub start_worker-begun-requires-clause-worker : goal.start_worker-begun-requires-clause-worker
start_worker-begun-requires-clause-worker g t c κs within =
    worker_out c.remove_last.new.self c.args.crew.now (c.in-Some.pass, c.in-Some.sender) c.requires
    c.in-Some.ensures.taken_out

pub run_crew-requires-after_bounds : goal.run_crew-requires-after_bounds
run_crew-requires-after_bounds g t c κs within =
    others_may_run c.remove_last.new.self c.args.crew.now (c.in-Some.pass, c.in-Some.sender) c.from-started.result
    (one_at_most c.is_ok.result c.from-started.result c.from-started.ensures) c.requires c.in-Some.ensures.taken_out

pub overflow_sub-crew : goal.overflow_sub-crew
overflow_sub-crew g t c = not_more c.args.crew.now.away c.from-started.result c.run_crew.new.crew.away c.run_crew.ensures.all.away

pub note_result-requires-clause-passes : goal.note_result-requires-clause-passes
note_result-requires-clause-passes g t c =
    pass_room c.remove_last.new.self c.args.crew.now c.run_crew.new.crew (c.in-Some.pass, c.in-Some.sender)
    c.from-started.result c.requires c.in-Some.ensures.taken_out c.run_crew.ensures.all

pub note_result-requires-clause-senders : goal.note_result-requires-clause-senders
note_result-requires-clause-senders g t c =
    sender_room c.remove_last.new.self c.args.crew.now c.run_crew.new.crew (c.in-Some.pass, c.in-Some.sender)
    c.from-started.result c.requires c.in-Some.ensures.taken_out c.run_crew.ensures.all

pub returns-clause-all : goal.returns-clause-all
returns-clause-all g t c =
    let noted = c.note_result.ensures in
    run_more c.remove_last.new.self c.args.crew.now c.run_crew.new.crew c.note_result.new.crew
    (c.in-Some.pass, c.in-Some.sender) c.join_worker.result c.is_ok.result c.from-started.result c.in-Some.ensures.taken_out
    c.run_crew.ensures.all
    (subst (λ w. Leaves (g.G.Gate.may_stop c.args.gate.now) (g.G.Gate.lets c.args.gate.now) c.args.shared.now w c.join_worker.result)
    c.number-worker.ensures c.join_worker.ensures.left)
    (c.join_worker.ensures.started ∙ sym c.is_ok.ensures.value) c.from-started.ensures
    noted.back noted.stopped noted.answered noted.memory noted.haul noted.receiver noted.away
