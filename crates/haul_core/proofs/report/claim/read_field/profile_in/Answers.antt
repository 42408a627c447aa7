use Rattle.std.proofs.Common.{codes}
use Rattle.survey_core.specs.Profiles.{IsProfile}
use Rattle.haul_core.specs.FieldSteps.{numbers_text}
use Rattle.haul_core.specs.ReportLines.{profile_field}
use Rattle.haul_core.proofs.FieldLemmas.{tells_after}
use Rattle.haul_core.proofs.report.claim.read_field.profile_in.Goals as goal

pub returns-in_err-after : goal.returns-in_err-after
unfolding profile_field
returns-in_err-after c = rw c.from_residual.ensures (λ p lawful e. c.in_err-after.ensures (numbers_text p) e)

pub returns : goal.returns
unfolding profile_field
returns c =
    tells_after IsProfile numbers_text (codes "profile=") c.args.field.now c.in_ok-after.field-0.now c.profile_of.result c.in_ok-after.ensures c.profile_of.ensures
