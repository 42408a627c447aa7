use Rattle.plane_core.specs.plane.Generations.{NeverRecurs}
use Rattle.code_core.specs.Recurrences.{IsCycle}
use Rattle.survey_core.proofs.lemmas.shapes.EnvelopeLemmas.{envelope_of}
use Rattle.survey_core.proofs.lemmas.shapes.MemoLemmas.{never_recurs}
use Rattle.survey_core.proofs.shapes.memo.Memo.envelope.Goals as goal

pub returns-in_default-2-clause-never : goal.returns-in_default-2-clause-never
returns-in_default-2-clause-never c =
    let never : NeverRecurs c.args.rule.now c.args.pattern.now c.args.limit = rw c.in_default-2.is at c.in_ok-cycle.ensures.never in
    never_recurs c.args.rule.now c.args.limit c.args.pattern.now never

pub keep-requires-clause-envelope : goal.keep-requires-clause-envelope
keep-requires-clause-envelope c =
    let cycle = c.in-Some-2.cycle in
    let is : IsCycle c.args.rule.now c.args.pattern.now c.args.limit cycle.phases.items cycle.recurrence = rw c.in-Some-2.is at c.in_ok-cycle.ensures.cycle in
    envelope_of c.args.rule.now c.args.limit c.args.pattern.now cycle.phases.items cycle.recurrence c.of-envelope.result c.requires.order is
    c.of-envelope.ensures.recurrence c.of-envelope.ensures.within

pub returns-clause-envelope : goal.returns-clause-envelope
returns-clause-envelope c =
    let cycle = c.in-Some-2.cycle in
    let is : IsCycle c.args.rule.now c.args.pattern.now c.args.limit cycle.phases.items cycle.recurrence = rw c.in-Some-2.is at c.in_ok-cycle.ensures.cycle in
    envelope_of c.args.rule.now c.args.limit c.args.pattern.now cycle.phases.items cycle.recurrence c.of-envelope.result c.requires.order is
    c.of-envelope.ensures.recurrence c.of-envelope.ensures.within
