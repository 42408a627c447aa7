use Rattle.std.proofs.Common.{subst, sym}
use Rattle.std.specs.Str.{IsUtf8}
use Rattle.survey_core.proofs.lemmas.SeedLemmas.{seed_utf8}
use Rattle.survey_core.proofs.seed.SeedDisplay.fmt.Goals as goal

pub unreachable-requires : goal.unreachable-requires
unreachable-requires g c =
    c.in-Err.ensures.cases.0 (subst IsUtf8 (sym c.bytes.ensures.bytes) (seed_utf8 c.args.self.now c.bytes.ensures.seed))
