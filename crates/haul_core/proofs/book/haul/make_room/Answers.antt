use Rattle.std.proofs.lemmas.Result.{on_ok_weaker}
use Rattle.haul_core.proofs.ScoreLemmas.{Extends-none}
use Rattle.haul_core.proofs.book.haul.make_room.Goals as goal

pub returns-in_err-reserve-clause-extends : goal.returns-in_err-reserve-clause-extends
returns-in_err-reserve-clause-extends c = Extends-none c.args.totals.now.scores.entries

pub returns-in_err-reserve-2-clause-extends : goal.returns-in_err-reserve-2-clause-extends
returns-in_err-reserve-2-clause-extends c = Extends-none c.args.totals.now.scores.entries

pub returns-in_err-reserve-2-clause-taken : goal.returns-in_err-reserve-2-clause-taken
returns-in_err-reserve-2-clause-taken c = c.in_ok-reserve.ensures.items

pub returns-clause-taken : goal.returns-clause-taken
returns-clause-taken c = c.in_ok-reserve.ensures.items

pub returns-clause-workers : goal.returns-clause-workers
returns-clause-workers c = c.in_ok-reserve-2.ensures.entries

pub returns-clause-extends : goal.returns-clause-extends
returns-clause-extends c = c.make_room.ensures.extends

pub returns-clause-room : goal.returns-clause-room
returns-clause-room c = on_ok_weaker c.make_room.result (λ _. c.in_ok-reserve.ensures.ok) c.make_room.ensures.scores

pub returns-clause-spare : goal.returns-clause-spare
returns-clause-spare c = on_ok_weaker c.make_room.result (λ _. c.in_ok-reserve-2.ensures.ok) c.make_room.ensures.scores

pub returns-clause-scores : goal.returns-clause-scores
returns-clause-scores c = c.make_room.ensures.scores
