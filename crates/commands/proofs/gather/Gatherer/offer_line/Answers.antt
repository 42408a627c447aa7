use Rattle.std.proofs.Common.{rules, sym}
use Rattle.commands.proofs.GatherLemmas.{faulty, refused_told, taken}
use Rattle.commands.proofs.gather.Gatherer.offer_line.Goals as goal

pub returns-in-Err-clause-come : goal.returns-in-Err-clause-come
returns-in-Err-clause-come c line arrivals kept stands = faulty arrivals (search rules) stands

pub returns-in-Ok-offer-clause-come : goal.returns-in-Ok-offer-clause-come
returns-in-Ok-offer-clause-come c line arrivals kept stands =
    let said = c.in-Ok-offer.ensures in
    taken arrivals c.in-Ok.report (search rules) (said.reply arrivals stands) (said.stands arrivals stands (search rules))

pub returns-in-Err-offer-clause-come : goal.returns-in-Err-offer-clause-come
returns-in-Err-offer-clause-come c line arrivals kept stands =
    let said = c.in-Err-offer.ensures in
    let report = c.in-Ok.report in
    let worker = sym c.worker-worker.ensures.worker in
    let number = sym c.number-number.ensures.number in
    refused_told _ _ _ arrivals report c.in-Err-offer.refused.reason c.fault_of.result (search rules) (said.reply arrivals stands) c.fault_of.ensures.answered
    (c.fault_of.ensures.fault report worker number) (λ memory. said.stands arrivals stands (search rules))
