use Rattle.plane_core.specs.plane.Generations.{NeverRecurs}
use Rattle.survey_core.proofs.shapes.memo.code_of.Goals as goal

-- the pattern recurs, so `name` doesn't return `Ok(None)`
pub unreachable-requires : goal.unreachable-requires
unreachable-requires c =
    let new : NeverRecurs c.args.rule.now c.args.pattern.now c.args.limit = rw c.in-Ok-None.field-0-is at c.in-Ok-None.ensures.never in
    let found = c.requires.recurs in
    new found.0.period found.0.dx found.0.dy found.1.some found.1.within found.1.back
