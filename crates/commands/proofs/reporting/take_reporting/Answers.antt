use Rattle.commands.proofs.ReportingLemmas.{heard_by_both}
use Rattle.commands.proofs.reporting.take_reporting.Goals as goal

pub returns-clause-heard : goal.returns-clause-heard
returns-clause-heard g c =
    heard_by_both _ c.args.workers c.args.haul _ _ (λ reports hears. hears.3) c.take-taken.result (c.take-taken.ensures.heard c.requires.«open»)
