use Rattle.std.proofs.Common.{false, refl, sym}
use Rattle.std.proofs.lemmas.Bool.{false≢true}
use Rattle.census.specs.Requests.{take_behaviour_from}
use Rattle.census.proofs.RequestLemmas.{does, spares_unless_valid, spares_unread}
use Rattle.census.proofs.request.do_request.Goals as goal

pub returns-in-Some-clause-ends : goal.returns-in-Some-clause-ends
returns-in-Some-clause-ends g c =
    rw c.in-Take.is
    (does _ _ (λ i. take_behaviour_from c.in-Take.plan c.in-Take.workers (sym c.in-Some.is i)) c.do_take_reporting.ensures.ends)

pub returns-in-Some-clause-spares : goal.returns-in-Some-clause-spares
returns-in-Some-clause-spares g c =
    spares_unread _ _ _ _ refl c.do_take_reporting.ensures.untouched c.do_take_reporting.ensures.no_memory

pub returns-in-None-clause-ends : goal.returns-in-None-clause-ends
returns-in-None-clause-ends g c =
    rw c.in-Take.is
    (does _ _ (λ i. take_behaviour_from c.in-Take.plan c.in-Take.workers (sym c.in-None.is i)) c.do_take.ensures.ends)

pub returns-in-None-clause-spares : goal.returns-in-None-clause-spares
returns-in-None-clause-spares g c = spares_unread _ _ _ _ refl c.do_take.ensures.untouched c.do_take.ensures.no_memory

pub returns-in-Work-clause-ends : goal.returns-in-Work-clause-ends
returns-in-Work-clause-ends g c = rw c.in-Work.is (does _ _ refl c.do_work.ensures.ends)

pub returns-in-Work-clause-spares : goal.returns-in-Work-clause-spares
returns-in-Work-clause-spares g c =
    rw c.in-Work.is
    (spares_unless_valid _ _ _ _ false refl refl (λ _. refl) c.do_work.ensures.untouched (λ is whole. absurd (false≢true whole)))

pub returns-in-Gather-clause-ends : goal.returns-in-Gather-clause-ends
returns-in-Gather-clause-ends g c =
    let ended = c.do_gather.ensures.ends in
    rw c.in-Gather.is (record { bytes = ended.0; input = ended.1; ends = ended.2 })

pub returns-in-Gather-clause-spares : goal.returns-in-Gather-clause-spares
returns-in-Gather-clause-spares g c =
    let untouched = c.do_gather.ensures.untouched in
    rw c.in-Gather.is (record {
      unread = c.do_gather.ensures.unread;
      unread_refused = λ is _. (untouched is).0;
      untouched = λ is. (untouched is).1;
      no_memory = λ is _. c.do_gather.ensures.no_memory is;
    })
