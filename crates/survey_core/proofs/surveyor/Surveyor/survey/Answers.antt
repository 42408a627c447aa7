use Rattle.std.proofs.Common.{◌∙◌, ◌++◌, ap, arith, decimal}
use Rattle.plane_core.specs.plane.Cells.{set_of}
use Rattle.plane_core.specs.plane.Generations.{lies_within}
use Rattle.sha2.specs.Sha256.{sha256}
use Rattle.survey_core.specs.Soups.{live_in_square}
use Rattle.survey_core.proofs.lemmas.PlaneLemmas.{within_more}
use Rattle.survey_core.proofs.lemmas.SoupLemmas.{soup_is_small}
use Rattle.survey_core.proofs.surveyor.Surveyor.survey.Goals as goal

-- a soup lies near the origin
pub survey_pattern-requires : goal.survey_pattern-requires
survey_pattern-requires c =
    let digest = sha256 (c.args.job.now.seed ++ decimal c.args.number) in
    ap (lies_within 1000) c.in_ok-pattern.ensures.soup
    ∙ within_more 15 1000 (set_of (live_in_square digest 256)) (omega arith) (soup_is_small digest)
