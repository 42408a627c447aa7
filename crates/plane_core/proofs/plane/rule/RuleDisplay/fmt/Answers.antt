use Rattle.std.proofs.Common.{subst, sym}
use Rattle.std.specs.Str.{IsUtf8}
use Rattle.plane_core.proofs.lemmas.plane.RuleTexts.{rule_text_utf8}
use Rattle.plane_core.proofs.plane.rule.RuleDisplay.fmt.Goals as goal

pub unreachable-requires : goal.unreachable-requires
unreachable-requires g c =
    c.in-Err.ensures.cases.0 (subst IsUtf8 (sym c.put_text-end.ensures.text) (rule_text_utf8 c.args.self.now c.put_text-end.ensures.rule))
