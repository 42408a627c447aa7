use Rattle.plane_core.specs.windows.RuleLogic.{rule_of}
use Rattle.plane_core.proofs.lemmas.one_sided.RulesOutRestLemmas.{diverges_in_rows}
use Rattle.plane_core.proofs.one_sided.rules_out_rest.diverges_in_crop.Goals as goal

pub returns : goal.returns
returns c = λ seen.
    diverges_in_rows (rule_of c.args.rule.now) c.args.rows.now c.args.cluster.now c.crop-whole.result c.crop-alone.result c.crop_round-from.result
    c.args.depth c.args.horizon (c.lies_in_crop.ensures c.if-not-lies_in_crop.false) c.crop-whole.ensures c.crop-alone.ensures
    (c.diverges_from_whole.ensures seen)
